-- what is told of a zone, and which commits leave it
pub mod Told
-- the records below a name, and those that refer to it
pub mod Next
