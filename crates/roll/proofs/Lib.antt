pub mod Marks
pub mod First
pub mod Counting
pub mod Strikes
pub mod Calls
