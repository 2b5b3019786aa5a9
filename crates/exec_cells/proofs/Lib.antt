mod ExposeTurns
mod ListPlaces
mod LowForms
pub mod LowVariables
