pub mod CheckLaws
pub mod LoadLaws
