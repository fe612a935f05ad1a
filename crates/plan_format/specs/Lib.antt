pub mod Bits
pub mod File
pub mod Reading
pub mod Laws
pub mod Examples
