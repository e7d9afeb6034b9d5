-- whole lines, and the limits of a head
pub mod Lines
-- what the fields of a head say of the body and of the connection
pub mod Fields
-- which bytes are a request, and why others are none
pub mod Requests
-- what a buffer holds after reads, and what was taken off it
pub mod Reading
-- bytes say what is read of them
pub mod Laws
-- the two environments
pub mod Environments
-- the table of users
pub mod Users
-- the items of a target's query
pub mod Queries
-- what a request asks for, by its method and its target
pub mod Routes
-- who calls, by the target of a request and the table of users
pub mod Callers
-- the bytes of a reply
pub mod Replies
-- a field that was found by its name
pub mod Found
-- how far the bytes of a head were looked at
pub mod Scans
-- how a head is read on, and how a request is taken off
pub mod Taking
-- what the router takes from a path
pub mod Matching
