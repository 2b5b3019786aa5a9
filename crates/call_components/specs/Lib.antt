pub mod Graphs
pub mod Reaching
pub mod Searching
pub mod Sorting
pub mod Tables
pub mod Waiting
