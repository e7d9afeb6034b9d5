-- what a function answers, memory aside
pub mod Told
-- names and the locks of zones
pub mod Names
-- the order of names and of keys
pub mod Order
-- reading a name, with its first fault
pub mod Reading
-- numbers in texts
pub mod Numbers
-- share links
pub mod Guids
-- the names that the service knows
pub mod KnownNames
