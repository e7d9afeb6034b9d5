-- names and keys
pub mod NameLaws
-- records that compare alike
pub mod SameLaws
-- ancestry and coverage over records
pub mod AncestryLaws
-- the tests of what may follow decide it
pub mod TestLaws
-- which names may be written
pub mod WritableLaws
-- the removed names are the least closed set
pub mod CascadeLaws
-- zones, counts and views after further commits
pub mod LogLaws
-- records stay in order
pub mod OrderLaws
-- change entries after one view more
pub mod EntryLaws
-- pages of the feed of zones
pub mod FeedLaws
-- records looked up by name
pub mod RecordLaws
-- what a request commits
pub mod EffectLaws
-- what the working view has
pub mod WorkingLaws
-- what the zone has after a request
pub mod AfterLaws
-- zones after lawful commits
pub mod FormedLaws
-- the faults of operations, one after another
pub mod JudgedLaws
-- requests in which no check fails
pub mod JudgeLaws
-- what puts keep of records
pub mod CoreLaws
-- which records stand after the puts
pub mod KeptLaws
-- parents after a request
pub mod ParentLaws
-- no parent goes while its child stays
pub mod HoldLaws
-- shares and their roots after a request
pub mod MarkLaws
-- the roots of shares that stay
pub mod RootLaws
-- limits after a request
pub mod SizeLaws
-- what a request commits is lawful
pub mod LawfulLaws
-- copies with a page's items
pub mod PageLaws
-- copies stay in step as the log grows
pub mod StepLaws
-- zones after commits that put one record each
pub mod OnePutLaws
-- records among others of other names
pub mod AloneLaws
-- creations of records that stand alone
pub mod PlainLaws
-- views without those that are equal to the one before them
pub mod RepeatLaws
-- what a participant may write shows in what they see
pub mod PermissionLaws
-- histories that stay legal
pub mod LegalLaws
-- forms that stay
pub mod FormLaws
-- what a request commits has its form
pub mod StoredLaws
-- refusals that show a record
pub mod ConflictLaws
-- what the shared scope permits
pub mod SharedLaws
-- a zone that is not there holds nothing, and a default zone is always there
pub mod ThereLaws
-- tags count puts, and parents are kept
pub mod LifeLaws
-- nobody is let in by a rewritten list
pub mod PeopleLaws
-- pages, feeds and what was seen, as histories grow
pub mod FollowLaws
-- each outcome tells of its own operation
pub mod OwnLaws
-- one outcome for each operation
pub mod AnswerLaws
-- what a request writes
pub mod WrittenLaws
-- something is committed just where some outcome tells of something written
pub mod MadeLaws
-- what outcomes show of deletions
pub mod DeletionLaws
-- operations that are done one after another
pub mod StepsLaws
-- operations that a request has name no record twice and give no root twice
pub mod MeantLaws
