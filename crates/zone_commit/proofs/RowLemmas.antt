-- Records with their links after a record was taken out or put.
use Rattle.std.proofs.Common.{◌≡◌, ℕ, List, [], ◌∷◌, ◌++◌, Bool, true, false, cond, not, refl, sym, ap, ◌∙◌, subst, Some, None, Ordering}
use Rattle.std.specs.Prelude.{filter}
use Rattle.std.specs.List.{AllByRecursion}
use Rattle.std.specs.List.Sorted.{IsStrictlySortedBy}
use Rattle.std.specs.Map.{remove_entry, keys_of, values_of}
use Rattle.std.specs.Ordering.{nat_cmp}
use Rattle.std.specs.Cmp.Lexicographic.{slice_cmp}
use Rattle.std.specs.BTreeMap.{get, is_at, values, insert_entry, IsOrdered}
use Rattle.std.proofs.lemmas.Bool.{both_ways}
use Rattle.ck_base.specs.Order.{is_before}
use Rattle.record_model.specs.declared.records.Record.{Record}
use Rattle.zone_model.specs.Names.{same}
use Rattle.zone_model.specs.Records.{record_at, names_in, with_record, without}
use Rattle.zone_model.specs.References.{goes_with}
use Rattle.zone_records.specs.Next.{is_child}
use Rattle.name_rules.proofs.NameLemmas.{same-true, same-refl}
use Rattle.zone_laws.proofs.RecordLaws.{found-name, found-without}
use Rattle.zone_commit.specs.Maps.{RowMap, AreRows, LinkMap, linked, Relinked}
use Rattle.zone_commit.specs.Kept.{AreLinked}
use Rattle.zone_commit.proofs.OrderLemmas.{derived_cmp, by_bytes}
use Rattle.zone_commit.proofs.SortedLemmas.{Ascend, passing-some, passing-kept, none-found, passing-with, passing-apart, absent-passing, passing-ascend, parts-all, before-apart, after-apart}
use Rattle.zone_commit.proofs.EntryLemmas.{values-insert, values-remove, entries-ascend, own-insert, own-remove, lookup-find}

abbrev pub its_name : Record → List ℕ
its_name r = r.name

rows-ascend : (m : RowMap) → AreRows m → Ascend its_name (values m)
rows-ascend m rows = entries-ascend its_name m.entries rows.own rows.ordered

-- a look-up in the map finds the record of the name
pub found-row : (m : RowMap) (x : List ℕ) → AreRows m → get derived_cmp m x ≡ record_at (values m) x
found-row m x rows = subst (λ (cmp : List ℕ → List ℕ → Ordering). get cmp m x ≡ record_at (values m) x) (sym by_bytes) (lookup-find its_name m.entries x rows.own)

-- ---- a record taken out

pub rows-taken : (m n : RowMap) (k : List ℕ) → AreRows m → n.entries ≡ remove_entry (is_at (derived_cmp k)) m.entries → values n ≡ without (values m) k
rows-taken m n k rows is = ap values_of (subst (λ (cmp : List ℕ → List ℕ → Ordering). n.entries ≡ remove_entry (is_at (cmp k)) m.entries) by_bytes is) ∙ values-remove its_name m.entries k rows.own (rows-ascend m rows)

own-taken : (m n : RowMap) (k : List ℕ) → AreRows m → n.entries ≡ remove_entry (is_at (derived_cmp k)) m.entries → IsOrdered derived_cmp n → AreRows n
own-taken m n k rows is ordered = record {
  ordered = subst (λ (cmp : List ℕ → List ℕ → Ordering). IsOrdered cmp n) by_bytes ordered;
  own = subst (λ es. AllByRecursion (λ (e : List ℕ × Record). e.0 ≡ e.1.name) es) (sym is) (own-remove its_name m.entries (is_at (derived_cmp k)) rows.own);
}

taken_step : (b : Bool) (p : Record → Bool) (vs : List Record) (k : List ℕ) (row : Record) (ns ms : List (List ℕ)) → p row ≡ b → row.name ≡ k → Ascend its_name vs → record_at vs k ≡ Some row
    → ns ≡ names_in (filter p vs) → ms ≡ cond b (filter (λ y. not (same row.name y)) ns) ns → ms ≡ filter (λ y. not (same k y)) (names_in (filter p vs))
taken_step true p vs k row ns ms is named ascend found old new = new ∙ ap (λ n. filter (λ y. not (same n y)) ns) named ∙ ap (filter (λ y. not (same k y))) old
taken_step false p vs k row ns ms is named ascend found old new = new ∙ old ∙ sym (passing-kept its_name p k vs (none-found its_name p k row vs ascend found is))

-- the links of the record taken out too
links-taken : (p : List ℕ → Record → Bool) (m n : RowMap) (k : List ℕ) (row : Record) (old new : LinkMap) → AreRows m → values n ≡ without (values m) k → record_at (values m) k ≡ Some row
    → ((x : List ℕ) → linked old x ≡ names_in (filter (p x) (values m))) → Relinked (λ x. p x row) false row.name old new → (x : List ℕ) → linked new x ≡ names_in (filter (p x) (values n))
links-taken p m n k row old new rows is found before relinked x =
    taken_step (p x row) (p x) (values m) k row (linked old x) (linked new x) refl (sym (same-true k row.name (found-name (values m) k row found))) (rows-ascend m rows) found (before x) (relinked x)
    ∙ sym (passing-some its_name (p x) (λ y. not (same k y)) (values m)) ∙ sym (ap (λ vs. names_in (filter (p x) vs)) is)

pub linked-taken : (m n : RowMap) (k : List ℕ) (row : Record) (children children' referrers referrers' : LinkMap) → AreLinked m children referrers
    → n.entries ≡ remove_entry (is_at (derived_cmp k)) m.entries → IsOrdered derived_cmp n → Some row ≡ get derived_cmp m k
    → Relinked (λ x. is_child x row) false row.name children children' → Relinked (λ x. goes_with x row) false row.name referrers referrers' → AreLinked n children' referrers'
linked-taken m n k row children children' referrers referrers' all is ordered found below behind =
    let there : record_at (values m) k ≡ Some row = sym (found ∙ found-row m k all.rows) in
    record {
      rows = own-taken m n k all.rows is ordered;
      children = links-taken is_child m n k row children children' all.rows (rows-taken m n k all.rows is) there all.children below;
      referrers = links-taken goes_with m n k row referrers referrers' all.rows (rows-taken m n k all.rows is) there all.referrers behind;
    }

-- nothing was taken out
pub linked-kept : (m n : RowMap) (children referrers : LinkMap) → AreLinked m children referrers → n.entries ≡ m.entries → AreLinked n children referrers
linked-kept m n children referrers all is = record {
  rows = record { ordered = subst (λ es. IsStrictlySortedBy (slice_cmp nat_cmp) (keys_of es)) (sym is) all.rows.ordered; own = subst (λ es. AllByRecursion (λ (e : List ℕ × Record). e.0 ≡ e.1.name) es) (sym is) all.rows.own };
  children = λ x. all.children x ∙ sym (ap (λ es. names_in (filter (is_child x) (values_of es))) is);
  referrers = λ x. all.referrers x ∙ sym (ap (λ es. names_in (filter (goes_with x) (values_of es))) is);
}

-- ---- a record added

inserted : (m n : RowMap) (k : List ℕ) (row : Record) → n.entries ≡ insert_entry derived_cmp m.entries k row → n.entries ≡ insert_entry (slice_cmp nat_cmp) m.entries k row
inserted m n k row is = subst (λ (cmp : List ℕ → List ℕ → Ordering). n.entries ≡ insert_entry cmp m.entries k row) by_bytes is

pub rows-added : (m n : RowMap) (k : List ℕ) (row : Record) → AreRows m → k ≡ row.name → n.entries ≡ insert_entry derived_cmp m.entries k row → values n ≡ with_record (values m) row
rows-added m n k row rows named is = ap values_of (inserted m n k row is) ∙ ap (λ y. values_of (insert_entry (slice_cmp nat_cmp) m.entries y row)) named ∙ values-insert its_name m.entries row rows.own (rows-ascend m rows)

own-added : (m n : RowMap) (k : List ℕ) (row : Record) → AreRows m → k ≡ row.name → n.entries ≡ insert_entry derived_cmp m.entries k row → IsOrdered derived_cmp n → AreRows n
own-added m n k row rows named is ordered = record {
  ordered = subst (λ (cmp : List ℕ → List ℕ → Ordering). IsOrdered cmp n) by_bytes ordered;
  own = subst (λ es. AllByRecursion (λ (e : List ℕ × Record). e.0 ≡ e.1.name) es) (sym (inserted m n k row is)) (own-insert its_name m.entries k row named rows.own);
}

added_step : (b : Bool) (p : Record → Bool) (vs : List Record) (row : Record) (ns ms : List (List ℕ)) → p row ≡ b → Ascend its_name vs → record_at vs row.name ≡ None
    → ns ≡ names_in (filter p vs) → ms ≡ cond b (filter (λ y. is_before y row.name) ns ++ row.name ∷ filter (is_before row.name) ns) ns → ms ≡ names_in (filter p (with_record vs row))
added_step true p vs row ns ms is ascend absent old new =
    new ∙ ap (λ ks. filter (λ y. is_before y row.name) ks ++ row.name ∷ filter (is_before row.name) ks) old ∙ sym (passing-with its_name p vs row is)
added_step false p vs row ns ms is ascend absent old new =
    new ∙ old ∙ sym (parts-all row.name (names_in (filter p vs)) (passing-ascend its_name p vs ascend) (absent-passing its_name p row.name vs absent)) ∙ sym (passing-apart its_name p vs row is)

links-added : (p : List ℕ → Record → Bool) (m n : RowMap) (row : Record) (old new : LinkMap) → AreRows m → values n ≡ with_record (values m) row → record_at (values m) row.name ≡ None
    → ((x : List ℕ) → linked old x ≡ names_in (filter (p x) (values m))) → Relinked (λ x. p x row) true row.name old new → (x : List ℕ) → linked new x ≡ names_in (filter (p x) (values n))
links-added p m n row old new rows is absent before relinked x =
    added_step (p x row) (p x) (values m) row (linked old x) (linked new x) refl (rows-ascend m rows) absent (before x) (relinked x) ∙ sym (ap (λ vs. names_in (filter (p x) vs)) is)

pub linked-added : (m n : RowMap) (k : List ℕ) (row : Record) (children children' referrers referrers' : LinkMap) → AreLinked m children referrers → k ≡ row.name → record_at (values m) k ≡ None
    → n.entries ≡ insert_entry derived_cmp m.entries k row → IsOrdered derived_cmp n
    → Relinked (λ x. is_child x row) true row.name children children' → Relinked (λ x. goes_with x row) true row.name referrers referrers' → AreLinked n children' referrers'
linked-added m n k row children children' referrers referrers' all named absent is ordered below behind =
    let none : record_at (values m) row.name ≡ None = subst (λ y. record_at (values m) y ≡ None) named absent in
    record {
      rows = own-added m n k row all.rows named is ordered;
      children = links-added is_child m n row children children' all.rows (rows-added m n k row all.rows named is) none all.children below;
      referrers = links-added goes_with m n row referrers referrers' all.rows (rows-added m n k row all.rows named is) none all.referrers behind;
    }

-- ---- a record put over the one of its name

pub absent-without : (rows : List Record) (k : List ℕ) → record_at (without rows k) k ≡ None
absent-without rows k = found-without rows k k ∙ ap (λ b. cond b None (record_at rows k)) (same-refl k)

weaker_step : (a b : Bool) (t u : Record → Bool) (r : Record) (some all : List Record) → u r ≡ a → t r ≡ b → (t r ≡ true → u r ≡ true) → filter t some ≡ filter t all
    → filter t (cond a (r ∷ some) some) ≡ cond b (r ∷ filter t all) (filter t all)
weaker_step true b t u r some all ur tr w ih = ap (λ c. cond c (r ∷ filter t some) (filter t some)) tr ∙ ap (λ rs. cond b (r ∷ rs) rs) ih
weaker_step false true t u r some all ur tr w ih = absurd (both_ways (u r) ur (w tr))
weaker_step false false t u r some all ur tr w ih = ih

weaker : (t u : Record → Bool) → ((r : Record) → t r ≡ true → u r ≡ true) → (rows : List Record) → filter t (filter u rows) ≡ filter t rows
weaker t u w [] = refl
weaker t u w (r ∷ rows) = weaker_step (u r) (t r) t u r (filter u rows) rows refl refl (w r) (weaker t u w rows)

pub with-without : (rows : List Record) (r : Record) → with_record (without rows r.name) r ≡ with_record rows r
with-without rows r =
    ap (λ vs. vs ++ r ∷ filter (λ (q : Record). is_before r.name q.name) (without rows r.name))
    (weaker (λ (q : Record). is_before q.name r.name) (λ (q : Record). not (same r.name q.name)) (λ q e. ap not (after-apart r.name q.name e)) rows)
    ∙ ap (λ vs. filter (λ (q : Record). is_before q.name r.name) rows ++ r ∷ vs)
    (weaker (λ (q : Record). is_before r.name q.name) (λ (q : Record). not (same r.name q.name)) (λ q e. ap not (before-apart r.name q.name e)) rows)
