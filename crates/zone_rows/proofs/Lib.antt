-- words for the worked rows
pub mod RowWords
-- scenarios of zones, shares, pages and requests
pub mod Rows
-- references, and what is removed with what
pub mod ReferenceRows
-- each check of puts and deletions
pub mod CheckRows
-- the feed of zones over all locks
pub mod FeedRows
-- names and plain records
pub mod RowRecords
-- absent tags
pub mod TagRows
-- checks of deletions in their order, and missing parents
pub mod OrderRows
-- the form of shares and of records that are none
pub mod FormRows
-- one name twice in a request
pub mod TwiceRows
-- who made and changed a record, and when
pub mod StampRows
-- which fields a put keeps
pub mod FieldRows
-- what a put of a share leaves, and who stays in it
pub mod SharingRows
-- subscriptions of one name in two scopes
pub mod SubscriptionRows
-- default zones and the feed
pub mod HomeRows
-- what keeps a commit from following
pub mod LawfulRows
-- records that don't fit together
pub mod FittingRows
-- where shares may stand, and what may be a root or a parent
pub mod RootRows
-- the size of records
pub mod SizeRows
-- who sees what
pub mod ViewRows
-- which events may follow
pub mod LegalRows
-- what a lock is asked and answers
pub mod AskRows
-- what is hidden, and the sights of operations one after another
pub mod HiddenRows
-- what replies show of puts that go
pub mod GoingRows
