-- requests and grounds, as the rules of zones have them
pub mod Asked
-- the fields of a record after a put, without an order
pub mod Wishes
-- what the working view has under a name
pub mod Made
-- the records that some caller may see of a zone
pub mod Sights
-- how records are tied to others, and those that are met one after another
pub mod Ties
-- what stands in the working view, and holds a name back
pub mod Holding
-- the judgement of a request over the records that are told
pub mod Judged
-- what the removal of a name takes along
pub mod Removal
