-- the shapes of values, and places of kinds
pub mod Shapes
-- the form of a value
pub mod ValueForms
-- the size of a value
pub mod ValueSizes
-- the order of values
pub mod ValueOrder
-- what the order is to be
pub mod OrderLaws
-- which value a filter may have with which comparator
pub mod Fits
-- what the counts of a stored layout hold
pub mod Counts
-- the form of a record that a zone keeps
pub mod RecordForms
-- the size of a record
pub mod RecordSizes
-- a record with only some of its fields
pub mod Cutting
-- the form of a record that a request gives
pub mod DraftForms
