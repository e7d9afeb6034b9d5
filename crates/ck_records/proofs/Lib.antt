-- loops that read one thing after another
pub mod LoopLemmas
-- the fields that a request gives
pub mod WishLemmas
-- the order of participants
pub mod AscendingLemmas
-- the record that JSON of a reply shows
pub mod DraftBackLemmas
pub mod ShownLemmas
pub mod ShowsBackLemmas
pub mod StoredLemmas
-- objects some of whose members may be missing
pub mod ObjectLemmas
-- the digits of a GUID are text
pub mod GuidLemmas
-- the JSON of a record tells it exactly by its text
pub mod FlatLemmas
pub mod DraftFlatLemmas
-- looking into objects
pub mod LookupLemmas
-- reading what was written
pub mod ReadsBackLemmas
-- no JSON of a record or of a draft has a float
pub mod WholeLemmas
