pub mod LawsLemmas
pub mod ShapesLemmas
