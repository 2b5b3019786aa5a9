pub mod Calls
pub mod Placed
pub mod Called
pub mod Noted
pub mod Recursion
pub mod Components
pub mod Compared
pub mod CallRows
