-- creations of records that stand alone
pub mod PlainCreates
-- logs whose commits put one record each
pub mod OnePuts
