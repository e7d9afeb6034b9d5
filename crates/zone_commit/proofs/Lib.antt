-- the order that is derived for names
pub mod OrderLemmas
-- lists in ascending order of names, with an item and without one
pub mod SortedLemmas
-- entries of maps by names
pub mod EntryLemmas
-- links after a change
pub mod LinkLemmas
-- records with their links after a change
pub mod RowLemmas
-- counts of puts in order
pub mod CountLemmas
-- the first of those that a test keeps
pub mod NextLemmas
-- what is told of a kept zone
pub mod KeptLemmas
