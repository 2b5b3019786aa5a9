pub mod Drafts
pub mod OpenPlaces
pub mod Stretches
pub mod VisibleSlots
pub mod Seen
pub mod Emitting
pub mod KeptTemps
pub mod TypeNumbers
