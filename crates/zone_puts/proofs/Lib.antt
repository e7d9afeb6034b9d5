-- lists in the order of the names that they give
pub mod OrderedLemmas
-- fields after wishes, one wish after another
pub mod FieldLemmas
-- participants put one after another
pub mod ParticipantLemmas
-- records with the tags and the stamps that commits give them
pub mod StampLemmas
