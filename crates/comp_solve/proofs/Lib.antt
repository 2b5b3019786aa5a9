pub mod FormedLaws
pub mod LoopLaws
pub mod Turns
pub mod JobLemmas
