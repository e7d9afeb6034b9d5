-- what an ask on records is given to see, and what it comes to
pub mod Sights
-- what an ask is given to see, what it answers, and what it makes
pub mod Asks
-- which parts a lock may be asked
pub mod Parts
-- one turn of a board at a lock
pub mod Turns
