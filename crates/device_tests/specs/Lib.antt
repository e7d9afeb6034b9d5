-- what a board behind the zone lock answers and tells
pub mod LockedBoards
