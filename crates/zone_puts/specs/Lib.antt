-- fields in the order of their names, and those around a name
pub mod Orders
-- participants in the order of their users, and their places
pub mod Participants
-- what a put needs to begin a record
pub mod Beginnings
-- what a commit is told of a record that it writes
pub mod Stamping
