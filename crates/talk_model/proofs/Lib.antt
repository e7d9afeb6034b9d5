-- the requests and the end are determined by the bytes
pub mod ConnectionLemmas
-- bytes that are whole requests to their end
pub mod WholeLemmas
-- what stays as it is while histories grow
pub mod GrowthLemmas
-- one more mark at the end
pub mod MarkLemmas
-- one more request of a board that nobody else asks
pub mod AloneLemmas
-- one more ask, on any board
pub mod TurnLemmas
-- the methods of operations
pub mod MethodLemmas
