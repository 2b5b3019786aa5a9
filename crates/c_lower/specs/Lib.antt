pub mod Bodies
pub mod Closing
pub mod Sized
pub mod Building
pub mod Lowering
