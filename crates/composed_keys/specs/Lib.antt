pub mod Programs
pub mod Rows
pub mod Outside
pub mod Used
pub mod StructureOrder
pub mod Calling
pub mod Callees
