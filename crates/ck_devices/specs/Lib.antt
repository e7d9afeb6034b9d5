-- when a device may say that it failed
pub mod Causes
-- which calls of a device in memory fail
pub mod Plans
-- what a device gave in a row
pub mod Runs
-- what was written where a sink failed
pub mod Fronts
-- files by name
pub mod Files
-- what contracts see of the devices in memory
pub mod Memory
-- what a draw of the counting words gives
pub mod Draws
-- the reader and the writer in an adapter
pub mod Adapters
