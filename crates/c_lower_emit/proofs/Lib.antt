mod FirstTemps
mod TakenTemps
mod Inserting
mod Listing
mod Stretches
mod Runs
pub mod Leading
pub mod Joining
pub mod Using
