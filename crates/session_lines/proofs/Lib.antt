pub mod Deciding
pub mod FirstLemmas
pub mod LineLemmas
pub mod Results
pub mod SessionLemmas
pub mod Streams
