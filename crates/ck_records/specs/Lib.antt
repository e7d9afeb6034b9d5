-- how shares are spelled in JSON
pub mod Spellings
-- one reading after another
pub mod Sequence
-- objects some of whose members may be missing
pub mod Objects
-- the JSON of a record in a reply
pub mod Writing
-- which participants a request wants
pub mod Participants
-- which fields a request gives
pub mod DraftFields
-- which draft the JSON of a record in a request means
pub mod Reading
-- the JSON of a draft
pub mod DraftWriting
-- reading what was written
pub mod RoundTrip
-- which record the JSON in a reply is
pub mod Replied
-- as which draft the JSON of a record in a reply is read
pub mod Shown
-- the JSON of records and drafts has no float and is not deep
pub mod Flat
-- the forms and sizes of records and drafts, cut records, and what fits a comparator
pub use Rattle.record_model.specs.RecordForms
pub use Rattle.record_model.specs.RecordSizes
pub use Rattle.record_model.specs.DraftForms
pub use Rattle.record_model.specs.Cutting
pub use Rattle.record_model.specs.Fits
