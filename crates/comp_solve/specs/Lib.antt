pub mod Tests
pub mod Job
