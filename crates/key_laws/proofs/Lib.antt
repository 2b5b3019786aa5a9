pub mod Elements
pub mod Rising
pub mod Keeping
pub mod Members
pub mod Formed
pub mod Callees
pub mod Worlds
