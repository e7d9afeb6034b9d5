-- what is wanted of a request, and by whom
pub mod Requests
-- the operations with a body are those whose method is POST
pub mod Methods
-- what the clock and the random words gave for a request
pub mod Given
-- what a request asks of the locks, and what is replied, given the answers
pub mod Calls
-- the requests at the front of the bytes of a connection, and its end
pub mod Connections
-- connections whose bytes are whole requests to their end
pub mod WholeConnections
-- what the bytes of a connection determine
pub mod ConnectionLaws
-- when marks fit requests and histories
pub mod Marks
-- the bytes that are written
pub mod Talk
-- the replies of a board that nobody else asks
pub mod Alone
