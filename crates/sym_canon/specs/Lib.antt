pub mod Canonical
pub mod FactOrder
pub mod Laws
pub mod Numbering
pub mod Placing
