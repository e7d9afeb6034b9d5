-- change tags as texts
pub mod TagLemmas
-- which names are seen
pub mod SeenLemmas
-- which names operations put
pub mod PutLemmas
-- wishes in the order of their names, cut in two
pub mod WishLemmas
-- totals over the fields of a record after a put
pub mod TotalLemmas
-- which lists of participants are refused
pub mod ListLemmas
-- the size of a record after a put
pub mod SizeLemmas
-- parts of the check of the form, joined
pub mod FormLemmas
-- what the working view has under a name
pub mod WorkingLemmas
-- ways upward, step by step
pub mod WayLemmas
-- references in lists of values
pub mod ReferenceLemmas
-- who may write, by the shares that roots name
pub mod PermitLemmas
-- the nearest that is seen, by the puts that make records
pub mod WritableLemmas
-- references of the records that stand in the working view
pub mod AfterPutLemmas
-- records that are met one after another
pub mod StepLemmas
-- what holds a name back
pub mod HoldLemmas
-- the faults of operations, one after another
pub mod JudgeLemmas
-- names to which those of records are added
pub mod GrowLemmas
-- the share of a root, by the name that the root gives
pub mod ShareLemmas
-- what spreads from deleted names is the least set of the cascade
pub mod RemovalLemmas
