pub mod Cursors
pub mod Reads
pub mod Levels
