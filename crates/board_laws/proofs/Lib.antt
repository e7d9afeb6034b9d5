-- the answer to a modify is the outcomes of its operations
pub mod OutcomeLaws
-- what is made
pub mod CommitLaws
-- what sights depend on
pub mod SightLaws
-- something is made where some outcome tells of something written
pub mod MadeLaws
-- operations have names and GUIDs once these are drawn
pub mod DrawnLaws
-- of which words these are made
pub mod NamedLaws
-- a zone that somebody sees is there
pub mod ThereLaws
-- the sights of operations one after another, where the zone is the same
pub mod ZoneSightLaws
-- what a participant sees behind puts
pub mod ViewAfterLaws
-- the sights of puts in the shared scope
pub mod PutSightLaws
-- and of puts one after another
pub mod PutStepLaws
-- an ask leaves the history of its lock legal
pub mod LastingLaws
