-- reading what was written for calls
pub mod ReadsBackLemmas
-- entries that tell of a thing by its name alone
pub mod ThingLemmas
-- reading the entries of replies
pub mod EntryLemmas
-- lists of replies, of entries of any kind
pub mod ReplyListLemmas
-- reading replies
pub mod ReplyLemmas
-- what is read of the text of a list
pub mod ListTextLemmas
-- the text of a reply tells it exactly
pub mod ReplyTextLemmas
-- which call the bytes of a body mean
pub mod MeansLemmas
-- the text of a call tells it exactly
pub mod CallTextLemmas
-- the entries of lists of zones
pub mod ZoneEntryLemmas
-- what is to be done with subscriptions
pub mod SubscriptionListLemmas
