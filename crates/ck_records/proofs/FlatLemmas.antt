-- The JSON of a record tells it exactly by its text.
use Rattle.std.proofs.Common.{◌≡◌, ℕ, ◌≤◌, Bool, false, List, [], ◌∷◌, map, decimal, Option, None, Some, option_map, refl, ap, ◌∙◌, arith}
use Rattle.std.specs.Prelude.{IfSome}
use Rattle.std.specs.List.{AllByRecursion}
use Rattle.std.proofs.lemmas.Bool.{or_from}
use Rattle.serde_json.specs.Data.{Data, Members, string, object, depth, items_depth, members_depth}
use Rattle.serde_json.specs.View.{items_of}
use Rattle.serde_json.specs.Written.{has_float, items_have_float, members_have_float}
use Rattle.record_model.specs.declared.value.Value.{Value}
use Rattle.field_values.specs.Exact.{IsExact}
use Rattle.field_values.specs.Writing.{field_data}
use Rattle.field_values.proofs.ExactLemmas.{fields_flat}
use Rattle.share_records.specs.declared.share.Share.{Share as ShareOf}
use Rattle.share_records.specs.declared.permission.Permission.{Permission}
use Rattle.share_records.specs.declared.participant.Participant.{Participant}
use Rattle.record_model.specs.declared.records.Record.{Record}
use Rattle.ck_records.specs.Objects.{present}
use Rattle.ck_records.specs.Spellings.{permission_name}
use Rattle.record_model.specs.RecordForms.{share_in}
use Rattle.ck_records.specs.Writing.{named_data, fields_members, participant_data, participants_data, record_members, record_data}
use Rattle.record_model.specs.RecordForms.{IsField, AreFields, IsStored}
use Rattle.ck_records.specs.Flat.{RecordsAreFlat}
use Rattle.ck_records.proofs.ObjectLemmas.{Listed}
use Rattle.ck_records.proofs.LookupLemmas.{Pairs, members_at, put_in_order}

-- it has no float, and nests at most n deep
pub record Flat (n : ℕ) (d : Data) : Type 0 where
  pub whole : has_float d ≡ false
  pub shallow : depth d ≤ n

pub record FlatMembers (n : ℕ) (ms : Members) : Type 0 where
  pub whole : members_have_float ms ≡ false
  pub shallow : members_depth ms ≤ n

pub present_flat : (n : ℕ) (ms : Listed) → AllByRecursion (λ (m : List ℕ × Option Data). IfSome m.1 (Flat n)) ms → FlatMembers n (present ms)
present_flat n [] all = record { whole = refl; shallow = omega arith }
present_flat n ((k, None) ∷ ms) all = present_flat n ms all.1
present_flat n ((k, Some d) ∷ ms) all =
    let rest = present_flat n ms all.1 in
    record { whole = or_from _ _ all.0.whole rest.whole; shallow = omega (arith, all.0.shallow, rest.shallow) }

pub pairs_flat : (n : ℕ) (ms : Pairs) → AllByRecursion (λ (m : List ℕ × Data). Flat n m.1) ms → FlatMembers n (members_at ms)
pairs_flat n [] all = record { whole = refl; shallow = omega arith }
pairs_flat n ((k, d) ∷ ms) all =
    let rest = pairs_flat n ms all.1 in
    record { whole = or_from _ _ all.0.whole rest.whole; shallow = omega (arith, all.0.shallow, rest.shallow) }

pub map_flat : {A : Type 0} (n : ℕ) (f : A → Data) (o : Option A) → ((x : A) → Flat n (f x)) → IfSome (option_map f o) (Flat n)
map_flat n f None each = tt
map_flat n f (Some x) each = each x

-- ---- the members

fields_are_flat : (as_text : Bool) (fields : List (List ℕ × Value)) → AllByRecursion IsField fields
    → AllByRecursion (λ (m : List ℕ × Data). Flat 3 m.1) (map (λ (f : List ℕ × Value). (f.0, field_data as_text f.1)) fields)
fields_are_flat as_text [] all = tt
fields_are_flat as_text (f ∷ fields) all =
    (record { whole = fields_flat.whole as_text f.1; shallow = fields_flat.shallow as_text f.1 all.0.1 }, fields_are_flat as_text fields all.1)

fields_flat_in : (as_text : Bool) (fields : List (List ℕ × Value)) → AreFields fields → Flat 4 (object (fields_members as_text fields))
fields_flat_in as_text fields are =
    let stand = put_in_order (field_data as_text) fields are.1 in
    let flat = pairs_flat 3 (map (λ (f : List ℕ × Value). (f.0, field_data as_text f.1)) fields) (fields_are_flat as_text fields are.0) in
    record { whole = ap members_have_float stand ∙ flat.whole; shallow = omega (arith, ap members_depth stand, flat.shallow) }

entries_whole : (public : Permission) (ps : List Participant) → items_have_float (items_of (map (participant_data public) ps)) ≡ false
entries_whole public [] = refl
entries_whole public (p ∷ ps) = entries_whole public ps

entries_shallow : (public : Permission) (ps : List Participant) → items_depth (items_of (map (participant_data public) ps)) ≤ 2
entries_shallow public [] = omega arith
entries_shallow public (p ∷ ps) = omega (arith, entries_shallow public ps)

pub participants_whole : (owner : List ℕ) (s : ShareOf) → has_float (participants_data owner s) ≡ false
participants_whole owner s = entries_whole s.public s.participants

participants_flat : (owner : List ℕ) (s : ShareOf) → Flat 4 (participants_data owner s)
participants_flat owner s = record { whole = entries_whole s.public s.participants; shallow = omega (arith, entries_shallow s.public s.participants) }

pub text_flat : (text : List ℕ) → Flat 4 (string text)
text_flat text = record { whole = refl; shallow = omega arith }

pub named_flat : (name : List ℕ) → Flat 4 (named_data name)
named_flat name = record { whole = refl; shallow = omega arith }

-- ---- the record

module _ (owner : List ℕ) (as_text : Bool) (r : Record) (is : IsStored r) where
  members_flat : AllByRecursion (λ (m : List ℕ × Option Data). IfSome m.1 (Flat 4)) (record_members owner as_text r)
  members_flat = (
    record { whole = refl; shallow = omega arith },
    (
      fields_flat_in as_text r.fields is.fields,
      (
        map_flat 4 (λ (s : ShareOf). named_data s.root) (share_in r.body) (λ s. named_flat s.root),
        (
          record { whole = refl; shallow = omega arith },
          (
            map_flat 4 named_data r.parent named_flat,
            (
              map_flat 4 (participants_data owner) (share_in r.body) (participants_flat owner),
              (
                map_flat 4 (λ (s : ShareOf). string (permission_name s.public)) (share_in r.body) (λ s. text_flat (permission_name s.public)),
                (
                  text_flat (decimal r.tag),
                  (
                    text_flat r.name,
                    (
                      text_flat r.rtype,
                      (
                        map_flat 4 named_data r.share named_flat,
                        (
                          map_flat 4 (λ (s : ShareOf). string s.guid) (share_in r.body) (λ s. text_flat s.guid),
                          tt,
                        ),
                      ),
                    ),
                  ),
                ),
              ),
            ),
          ),
        ),
      ),
    ),
  )

  pub record_flat : Flat 5 (record_data owner as_text r)
  record_flat =
      let flat = present_flat 4 (record_members owner as_text r) members_flat in
      record { whole = flat.whole; shallow = omega (arith, flat.shallow) }

  pub record_exact : IsExact (record_data owner as_text r)
  record_exact = record { whole = record_flat.whole; shallow = omega (arith, record_flat.shallow) }

pub records_flat : RecordsAreFlat
records_flat = record {
  whole = λ owner as_text r is. (record_flat owner as_text r is).whole;
  shallow = λ owner as_text r is. (record_flat owner as_text r is).shallow;
}
