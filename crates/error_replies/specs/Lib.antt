-- the codes, reasons and statuses of the errors
pub mod Errors
-- the body of a reply that refuses a whole request
pub mod Bodies
