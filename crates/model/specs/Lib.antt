pub mod Plan
pub mod Rules
pub mod Tests
