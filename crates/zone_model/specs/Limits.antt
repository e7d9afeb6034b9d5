-- The limits of the service that the rules speak of.
use Rattle.std.specs.Prelude.{ℕ}
pub use Rattle.share_records.specs.Limits.{most_participants}

-- the operations, names, zones, GUIDs or IDs in a request
abbrev pub most_items : ℕ
most_items = 200

-- the zones in a request for the changes of zones
abbrev pub most_changed_zones : ℕ
most_changed_zones = 16

-- the entries in a page and the rows of a query
abbrev pub most_page_entries : ℕ
most_page_entries = 200

-- the size of a record
abbrev pub most_record_size : ℕ
most_record_size = 1048576

-- the filters of a query
abbrev pub most_filters : ℕ
most_filters = 16
