-- records that are found by the commits that put them
pub mod FoundLemmas
-- the fields that a draft gives, and its first record
pub mod FieldLemmas
-- creations of records that stand alone
pub mod PlainLemmas
-- what the owner of a default zone sees
pub mod SightLemmas
-- what the creation of a record comes to
pub mod CreateLemmas
-- creations, one after another
pub mod OperationLemmas
-- what an ask makes is legal
pub mod LegalLemmas
-- what an ask on the own default zone comes to
pub mod AskLemmas
-- one history of a list of histories after a write
pub mod StripeLemmas
