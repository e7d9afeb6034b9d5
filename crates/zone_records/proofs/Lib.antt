-- the order of subscriptions
pub mod SubscriptionLemmas
-- what is told goes on
pub mod ToldLemmas
