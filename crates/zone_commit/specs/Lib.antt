-- maps by name: of records, of counts, and of links
pub mod Maps
-- records with the links between them, and what a kept zone is
pub mod Kept
