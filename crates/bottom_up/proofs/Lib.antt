pub mod ListPlaces
pub mod Over
pub mod Formed
pub mod ProceduresByName
pub mod Reported
mod FirstSummaries
pub mod Summed
pub mod Among
pub mod LookedUp
mod Honest
