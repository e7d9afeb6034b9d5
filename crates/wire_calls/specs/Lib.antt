-- the zone that a call names
pub mod Zones
-- members that are truth values, texts or whole numbers
pub mod Members
-- how long lists may be
pub mod Limits
-- lists of names, of texts and of zones
pub mod Listings
-- lists of what is to be done with subscriptions
pub mod SubscriptionLists
-- which operations are built
pub mod Built
-- which call a body means, or the first fault
pub mod Calls
-- which call the bytes of a body mean
pub mod Means
-- the JSON of calls
pub mod CallWriting
-- the calls that some body means, and reading what was written
pub mod Meant
-- the text of a call tells it exactly
pub mod CallTexts
-- lists of replies, and what is read of their text
pub mod Lists
-- lists of replies, of entries of any kind, and where they go wrong
pub mod ReplyLists
-- what entries are about, and those that tell of a thing by its name alone
pub mod Things
-- the JSON of replies, and their status
pub mod Replies
-- what a call asks of each entry of its reply
pub mod Asked
-- the entries of records, and which are asked for
pub mod Entries
-- which replies are to a call, and where a body that is none goes wrong
pub mod RepliesTo
-- the entries of lists of zones
pub mod ZoneEntries
-- what single entries are found to be, for private calls
pub mod Found
