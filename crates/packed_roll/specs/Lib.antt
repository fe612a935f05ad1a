pub mod Words
pub mod Trail
pub mod Packed
pub mod Soundness
