pub mod FileLaws
pub mod Following
pub mod MarkLaws
pub mod NumberLaws
pub mod PaddingLaws
pub mod ReadLaws
pub mod RowLaws
pub mod TableLaws
