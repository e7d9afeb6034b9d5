-- the results of a reading, one after another
pub mod Results
-- members of objects and elements of arrays
pub mod Members
-- the types of fields, by name and as values show them
pub mod Types
-- whole numbers in JSON
pub mod Numbers
-- references in JSON
pub mod References
-- zone IDs in JSON
pub mod ZoneIds
-- which value a field's JSON means, or its first fault
pub mod Reading
-- the JSON of a value
pub mod Writing
-- reading what was written
pub mod RoundTrip
-- JSON that its text tells exactly
pub mod Exact
-- the shapes, forms, sizes and order of values
pub use Rattle.record_model.specs.Shapes
pub use Rattle.record_model.specs.ValueForms
pub use Rattle.record_model.specs.ValueSizes
pub use Rattle.record_model.specs.ValueOrder
pub use Rattle.record_model.specs.OrderLaws
