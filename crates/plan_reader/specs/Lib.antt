pub mod Checking
pub mod Outcomes
pub mod Rows
pub mod Marks
pub mod Heads
