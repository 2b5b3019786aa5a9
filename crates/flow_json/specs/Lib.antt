pub mod Commands
pub mod Flows
pub mod Forms
pub mod Laws
pub mod Texts
pub mod Types
pub mod Unread
