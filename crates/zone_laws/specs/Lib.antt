-- copies that are in step with a number, and the fold of a page
pub mod Copies
-- which names may be written
pub mod Writable
-- tests of what may follow, and that they decide it
pub mod LawfulTests
-- the laws of the rules
pub mod Laws
-- records through a log
pub mod Lives
-- who gets into a share and out of it
pub mod People
-- pages, feeds and what was seen, as histories grow
pub mod Following
-- what a request is answered, and what it commits
pub mod Answering
-- what comes of operations that are done one after another
pub mod Stepping
-- what the laws ask of operations holds of those that a request has
pub mod MeantRequests
