pub mod Settled
pub mod Whole
pub mod Aimed
pub mod Counted
pub mod Many
