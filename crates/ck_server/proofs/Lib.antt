pub mod BuiltLemmas
pub mod WantLemmas
pub mod DrawingLemmas
pub mod ReplyLemmas
-- how far a conversation reads ahead
pub mod AheadLemmas
-- where a device failed last
pub mod CauseLemmas
-- what asks change
pub mod AskingLemmas
-- how asks are marked
pub mod MarkingLemmas
-- a conversation goes on
pub mod ConversationLemmas
-- where a conversation stands after each of its steps
pub mod OutcomeLemmas
-- whole requests are all answered
pub mod CompleteLemmas
-- statuses of replies, and what is sent
pub mod SendingLemmas
-- how a request is served
pub mod ServingLemmas
-- what was given for requests
pub mod GivenLemmas
