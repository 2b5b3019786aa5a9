pub mod Growing
pub mod Coming
pub mod KeptLaws
pub mod ListedLaws
pub mod NormalLaws
pub mod Turns
pub mod AnnotationLaws
