pub mod Access
pub mod Places
