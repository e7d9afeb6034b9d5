-- what a command line asks for, and its arguments
pub mod Arguments
-- the table of users in the file that they name
pub mod UsersFile
-- how a run ends, and its status
pub mod Endings
-- what a run took and wrote
pub mod Serving
-- the line that tells it
pub mod Lines
-- what a run answers and says
pub mod Runs
