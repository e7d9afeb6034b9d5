-- the order of permissions
pub mod Order
-- the limit of participants
pub mod Limits
-- what a share lets a user do
pub mod Permissions
-- the participants that a share is to have, and which list of them is refused
pub mod ShareLists
-- which names shares cover
pub mod Covering
