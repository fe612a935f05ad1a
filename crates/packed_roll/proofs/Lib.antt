pub mod BitLaws
pub mod FirstLaws
pub mod Restoring
pub mod Strike
pub mod TrailLaws
pub mod WordLaws
