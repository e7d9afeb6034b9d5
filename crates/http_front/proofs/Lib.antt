-- the number that digits write
pub mod LengthLemmas
-- header lines that lie in the bytes
pub mod HeaderLemmas
-- whole lines, and the line feeds of a head
pub mod LineLemmas
-- what the parser says of whole lines
pub mod ParseLemmas
-- what a look at the bytes finds
pub mod LookLemmas
-- what was read is a request, or a fault
pub mod ReadingLemmas
-- bytes say what is read of them
pub mod LawLemmas
-- the bytes of a reply
pub mod ReplyLemmas
-- the table of users and its text
pub mod UsersLemmas
-- a path that is formed as the service's paths are
pub mod RouteLemmas
-- what the walk of the router finds over its one form
pub mod MatchLemmas
-- what the parameters of a match took
pub mod TakenLemmas
