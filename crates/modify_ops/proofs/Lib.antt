-- loops over operations
pub mod LoopLemmas
-- reading what was written
pub mod ReadsBackLemmas
