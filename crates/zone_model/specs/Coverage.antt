-- Which records a user's shares cover.
use Rattle.std.specs.Prelude.{ℕ, Bool, List, filter_map}
use Rattle.share_records.specs.declared.permission.Permission.{Permission}
use Rattle.share_records.specs.declared.share.Share.{Share as ShareOf}
use Rattle.share_records.specs.Covering.{gives_at}
use Rattle.record_model.specs.declared.records.Record.{Record}
use Rattle.zone_model.specs.Records.{share_of}
use Rattle.zone_model.specs.Ancestry.{links_of}

abbrev pub shares_in : List Record → List ShareOf
shares_in rows = filter_map share_of rows

-- a root at or above x has a share in which the user accepted with a permission other than none
abbrev pub covers : List Record → List ℕ → List ℕ → Bool
covers rows u x = gives_at (links_of rows) (shares_in rows) Permission.ReadOnly u x

-- of several such shares the highest permission counts
abbrev pub may_write : List Record → List ℕ → List ℕ → Bool
may_write rows u x = gives_at (links_of rows) (shares_in rows) Permission.ReadWrite u x
