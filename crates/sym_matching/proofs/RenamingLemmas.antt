pub mod CallLemmas
pub mod CalledLemmas
pub mod CoveringLemmas
pub mod ListedLemmas
pub mod NumberLemmas
pub mod NewVariableTurns
pub mod SizeLemmas
pub mod Turns
