pub mod OrderLemmas
pub mod OrderProofs
pub mod ValueInduction
pub mod CountLemmas
pub mod NameSetLemmas
