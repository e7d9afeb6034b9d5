pub mod ListLemmas
pub mod ViewLemmas
pub mod RuleLemmas
pub mod StepLemmas
pub mod TurnLemmas
pub mod PassLemmas
