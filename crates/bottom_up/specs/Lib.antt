pub mod BottomUp
pub mod Laws
pub mod Placed
