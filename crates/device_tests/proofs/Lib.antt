-- a board behind the zone lock
pub mod BoardLemmas
