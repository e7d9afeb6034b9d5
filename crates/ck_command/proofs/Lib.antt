pub mod LineLemmas
pub mod EndingLemmas
pub mod ServingLemmas
