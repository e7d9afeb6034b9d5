-- of which words the names and the GUIDs of operations are made
pub mod Drawn
-- what is answered and made of a part at a history
pub mod Answered
-- what a sight depends on, and what depends on it
pub mod Sighted
-- that an ask leaves the history of its lock legal
pub mod Lasting
