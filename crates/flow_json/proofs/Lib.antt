pub mod CommandLaws
pub mod FlowLaws
pub mod FormLemmas
pub mod InverseLemmas
pub mod TextLaws
pub mod TypeLaws
