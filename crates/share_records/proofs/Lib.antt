-- which lists of participants are refused
pub mod ListLemmas
