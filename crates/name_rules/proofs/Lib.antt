-- names, their order and lists of them
pub mod NameLemmas
-- all that is at or above a name is found
pub mod ParentLemmas
-- what a page lists
pub mod ChoiceLemmas
