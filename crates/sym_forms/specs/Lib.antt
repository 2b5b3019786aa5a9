pub mod Forms
pub mod Laws
pub mod PairForms
pub mod Sizes
