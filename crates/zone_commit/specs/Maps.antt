-- Maps by name: of records, of counts, and of links from names to names.
use Rattle.std.specs.Prelude.{◌≡◌, ℕ, Bool, true, false, not, ◌&&◌, List, [], filter, if◌then◌else◌, unwrap_or}
use Rattle.std.specs.List.{list_any, AllByRecursion}
use Rattle.std.specs.Option.{option_map_or}
use Rattle.std.specs.Ordering.{nat_cmp}
use Rattle.std.specs.Cmp.Lexicographic.{slice_cmp}
use Rattle.std.specs.BTreeMap.{BTreeMap, get, IsOrdered}
use Rattle.std.specs.BTreeSet.{BTreeSet}
use Rattle.record_model.specs.declared.value.RefTo.{RefTo}
use Rattle.record_model.specs.declared.value.Value.{Value, out-Value}
use Rattle.record_model.specs.declared.records.Record.{Record}
use Rattle.zone_model.specs.Names.{same, with_name}
use Rattle.zone_model.specs.References.{deletes_self, references_in, single_references}

-- ---- records

abbrev pub RowMap : Type 0
RowMap = BTreeMap (List ℕ) Record

-- the names ascend, and each record stands under its own
pub record AreRows (rows : RowMap) : Type 0 where
  pub ordered : IsOrdered (slice_cmp nat_cmp) rows
  pub own : AllByRecursion (λ (e : List ℕ × Record). e.0 ≡ e.1.name) rows.entries

-- ---- counts

abbrev pub CountMap : Type 0
CountMap = BTreeMap (List ℕ) ℕ

abbrev pub count_at : CountMap → List ℕ → ℕ
count_at counts x = unwrap_or (get (slice_cmp nat_cmp) counts x) 0

-- ---- links

abbrev pub LinkMap : Type 0
LinkMap = BTreeMap (List ℕ) (BTreeSet (List ℕ))

-- the names that the name is linked to, in ascending order
abbrev pub linked : LinkMap → List ℕ → List (List ℕ)
linked links x = option_map_or (λ (s : BTreeSet (List ℕ)). s.keys) (get (slice_cmp nat_cmp) links x) []

-- the names with this one among them, or without it
abbrev pub with_or_without : Bool → List (List ℕ) → List ℕ → List (List ℕ)
with_or_without true names x = with_name names x
with_or_without false names x = filter (λ y. not (same x y)) names

-- the names that pass are now linked to this one, or not to it, and all else is as before
abbrev pub Relinked : (List ℕ → Bool) → Bool → List ℕ → LinkMap → LinkMap → Type 0
Relinked test there name old new = (x : List ℕ) → linked new x ≡ (if test x then with_or_without there (linked old x) name else linked old x)

-- ---- references

-- the record with this reference is to be deleted with x
abbrev pub takes_along : RefTo → List ℕ → Bool
takes_along q x = deletes_self q.action && same x q.name

-- so is that of an element of a list, or of a field
abbrev pub element_takes_along : List ℕ → Value → Bool
element_takes_along x v = list_any (λ (q : RefTo). takes_along q x) (single_references (out-Value v))

abbrev pub field_takes_along : List ℕ → List ℕ × Value → Bool
field_takes_along x field = list_any (λ (q : RefTo). takes_along q x) (references_in field.1)
