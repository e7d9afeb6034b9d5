-- the events of each lock
pub mod Stripes
-- what is kept of the history of a lock
pub mod Kept
-- creations with their names, and the records that they put
pub mod Creations
-- who asks for creations, and what they come to
pub mod Askings
