pub mod Places
pub mod Ordered
pub mod Soundness
