-- what random words are drawn for
pub mod Drawing
