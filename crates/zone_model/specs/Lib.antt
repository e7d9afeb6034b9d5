-- the limits, as numbers
pub mod Limits
-- tests of what may be missing
pub use Rattle.name_rules.specs.Options
-- names and keys: when two are the same, and lists of them
pub mod Names
-- records of a zone, one for each name
pub mod Records
-- the references of records
pub mod References
-- when two records are the same, and two views
pub mod Same
-- what a zone holds after commits
pub mod Zones
-- the subscriptions after commits
pub mod Subscriptions
-- which records stand at or above a name
pub mod Ancestry
-- which records a user's shares cover
pub mod Coverage
-- what a user sees of a zone, and has seen
pub mod Views
-- the change entries of a viewer
pub mod Entries
-- a page of changes
pub mod Pages
-- the feed of zones that changed for a user, at one lock
pub mod ZoneEntries
-- the feed over all locks
pub mod ZoneFeed
-- the puts and deletions of a request
pub mod Requests
-- which operation of a request gives a name again
pub mod GivenNames
-- the form of operations that some JSON means
pub mod OpForms
-- what has happened to the names that a request puts
pub mod Past
-- a share after a request
pub mod Sharing
-- the records that puts write
pub mod Putting
-- the working view: the view with a request's puts written in
pub mod Working
-- what a judgement rests on
pub mod Grounds
-- the checks of puts, in their order
pub mod PutChecks
-- the checks of deletions, in their order
pub mod DeletionChecks
-- the judgement of a request
pub mod Judging
-- the cascade of removals
pub mod Cascade
-- the commit of a request
pub mod Effect
-- what a request comes to: its answers and its commits
pub mod Modifying
-- histories of locks, and how they grow
pub mod Histories
-- the form of a commit
pub mod Form
-- which commits may follow
pub mod Lawful
-- the commits of events, and whose events they are
pub mod Events
-- which events may follow in a history
pub mod Legal
-- the bounds of the work for a commit and for a page
pub mod WorkBounds
