-- Records of a zone, one for each name, in ascending order of names.
use Rattle.std.specs.Prelude.{◌≡◌, ℕ, Bool, true, not, List, ◌∷◌, ◌++◌, map, filter, find, Option, is_some}
use Rattle.std.specs.List.{list_any}
use Rattle.ck_base.specs.Order.{is_before, are_ascending}
use Rattle.share_records.specs.declared.share.Share.{Share as ShareOf}
use Rattle.record_model.specs.declared.records.Record.{Record}
use Rattle.record_model.specs.RecordForms.{share_in}
use Rattle.zone_model.specs.Names.{same}

-- the record of that name
abbrev pub record_at : List Record → List ℕ → Option Record
record_at rows x = find (λ (r : Record). same x r.name) rows

abbrev pub is_there : List Record → List ℕ → Bool
is_there rows x = list_any (λ (r : Record). same x r.name) rows

abbrev pub names_in : List Record → List (List ℕ)
names_in rows = map (λ (r : Record). r.name) rows

-- the names ascend, so no two are the same
abbrev pub IsAscending : List Record → Type 0
IsAscending rows = are_ascending (names_in rows) ≡ true

-- the records with this one in the place of the one of its name
abbrev pub with_record : List Record → Record → List Record
with_record rows r = filter (λ (q : Record). is_before q.name r.name) rows ++ r ∷ filter (λ (q : Record). is_before r.name q.name) rows

abbrev pub without : List Record → List ℕ → List Record
without rows x = filter (λ (q : Record). not (same x q.name)) rows

-- ---- shares

-- the share that a record is, if it is one
abbrev pub share_of : Record → Option ShareOf
share_of r = share_in r.body

abbrev pub is_share : Record → Bool
is_share r = is_some (share_of r)
