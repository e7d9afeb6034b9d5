-- the words of operations
pub mod Kinds
-- which operation JSON means
pub mod Forms
-- which operations the JSON of a request means, or the first fault
pub mod Reading
-- the JSON of operations
pub mod Writing
-- reading what was written
pub mod RoundTrip
-- which operation gives a name again, the form of operations, and what random words are drawn for
pub use Rattle.zone_model.specs.GivenNames
pub use Rattle.zone_model.specs.OpForms
pub use Rattle.drawn_names.specs.Drawing
