pub mod Exchange
pub mod PlaceLaws
pub mod Strike
