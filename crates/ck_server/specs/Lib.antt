-- what a conversation took, marked and wrote
pub mod Conversations
-- what is answered where the bytes are whole requests and no device fails
pub mod Completeness
-- how a conversation ends or breaks off
pub mod Outcomes
-- which calls may be served
pub mod Askable
-- what a reply takes of its call
pub mod ReplyOptions
-- how one request is served
pub mod Answering
-- how a request is marked and answered, step by step
pub mod Marking
-- how a conversation finishes where no further request is read
pub mod Finishing
