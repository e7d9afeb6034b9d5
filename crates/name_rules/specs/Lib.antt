-- tests of what may be missing
pub mod Options
-- names: when two are the same, and lists of them
pub mod Names
-- names with their parents, and which stand at or above a name
pub mod Parents
-- entries of what changed, and those that are live
pub mod LiveEntries
-- what a page lists of the live entries
pub mod Choices
