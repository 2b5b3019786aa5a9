pub mod SamenessLaws
pub mod CoveringLaws
pub mod GapLaws
pub mod LimitLaws
pub mod ResultLaws
pub mod GivenLaws
pub mod LeadingLaws
pub mod SoundnessLaws
