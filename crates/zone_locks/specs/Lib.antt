-- lists that grow, and the items of a seat in them
pub mod Growing
-- what a pass knows, and what taking the value tells it
pub mod Passes
-- what holds of the lock between any two steps
pub mod Rules
-- what each kind of step tells the pass that makes it
pub mod Steps
