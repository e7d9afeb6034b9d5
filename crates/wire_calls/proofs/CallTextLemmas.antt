-- The text of a call tells it exactly.
use Rattle.std.proofs.Common.{◌≡◌, ℕ, ◌≤◌, Bool, true, false, List, [], ◌∷◌, map, Option, None, Some, option_map, refl, sym, ap, subst, ◌∙◌, arith}
use Rattle.std.specs.Prelude.{IfSome, if◌then◌else◌}
use Rattle.std.specs.List.{AllByRecursion}
use Rattle.std.proofs.lemmas.Bool.{or_from}
use Rattle.serde_json.specs.Data.{Data, string, items_depth}
use Rattle.serde_json.specs.View.{items_of}
use Rattle.serde_json.specs.Written.{has_float, items_have_float, compact_text}
use Rattle.ck_base.specs.declared.key.ZoneKey.{ZoneKey}
use Rattle.field_values.specs.Exact.{IsExact}
use Rattle.record_model.specs.declared.draft.Draft.{Draft}
use Rattle.record_model.specs.DraftForms.{IsMeantDraft}
use Rattle.ck_records.specs.Writing.{named_data}
use Rattle.ck_records.proofs.DraftFlatLemmas.{drafts_flat}
use Rattle.ck_records.proofs.FlatLemmas.{Flat, present_flat}
use Rattle.ck_records.proofs.WholeLemmas.{present_whole, map_whole, drafts_whole}
use Rattle.zone_model.specs.declared.operations.Op.{Op}
use Rattle.zone_model.specs.Requests.{is_deletion}
use Rattle.zone_model.specs.OpForms.{bare}
use Rattle.zone_model.specs.OpForms.{IsBare, IsMeantWhere, IsMeantOp}
use Rattle.modify_ops.specs.Writing.{op_data, ops_data}
use Rattle.ck_base.specs.KnownNames.{is_own_default}
use Rattle.wire_calls.specs.declared.call.ModifyCall.{ModifyCall}
use Rattle.wire_calls.specs.declared.call.LookupCall.{LookupCall}
use Rattle.wire_calls.specs.declared.call.Call.{Call}
use Rattle.wire_calls.specs.declared.call.Call.TheVariants.{Modify, Lookup}
use Rattle.wire_calls.specs.CallWriting.{flag_data, zone_given, names_data, records_data, modify_data, lookup_data, call_data}
use Rattle.wire_calls.specs.Meant.{IsMeantModify}
use Rattle.wire_calls.specs.CallTexts.{CallsAreExact}
use Rattle.field_values.specs.ZoneIds.{zone_data}
use Rattle.wire_calls.proofs.ReadsBackLemmas.{modify_table, lookup_table}

-- ---- operations

bare_is_meant : (d : Draft) → IsBare d → IsMeantDraft d
bare_is_meant d is =
    let whole : IsMeantDraft (bare is.given d.tag) = record { name = is.name; rtype = tt; tag = is.tag; parent = tt; root = tt; participants = tt; fields = (tt, refl) } in
    subst IsMeantDraft (sym is.is) whole

draft_is_meant : (deletion : Bool) (d : Draft) → IsMeantWhere deletion d → IsMeantDraft d
draft_is_meant true d is = bare_is_meant d is
draft_is_meant false d is = is

op_flat : (op : Op) → IsMeantOp op → Flat 6 (op_data op)
op_flat op is =
    let draft = draft_is_meant (is_deletion op.kind) op.draft is.draft in
    record { whole = or_from _ _ (drafts_flat.whole op.draft draft) refl; shallow = omega (arith, drafts_flat.shallow op.draft draft) }

ops_whole : (ops : List Op) → AllByRecursion IsMeantOp ops → items_have_float (items_of (map op_data ops)) ≡ false
ops_whole [] all = refl
ops_whole (op ∷ ops) all = or_from _ _ (op_flat op all.0).whole (ops_whole ops all.1)

ops_shallow : (ops : List Op) → AllByRecursion IsMeantOp ops → items_depth (items_of (map op_data ops)) ≤ 6
ops_shallow [] all = omega arith
ops_shallow (op ∷ ops) all = omega (arith, (op_flat op all.0).shallow, ops_shallow ops all.1)

ops_flat : (ops : List Op) → AllByRecursion IsMeantOp ops → Flat 7 (ops_data ops)
ops_flat ops all = record { whole = ops_whole ops all; shallow = omega (arith, ops_shallow ops all) }

-- ---- the other members

flag_flat : (default flag : Bool) → IfSome (flag_data default flag) (Flat 7)
flag_flat true true = tt
flag_flat true false = record { whole = refl; shallow = omega arith }
flag_flat false true = record { whole = refl; shallow = omega arith }
flag_flat false false = tt

zone_flat : (caller : List ℕ) (key : ZoneKey) → IfSome (zone_given caller key) (Flat 7)
zone_flat caller key = by (is_own_default caller key) where
  by : (b : Bool) → IfSome (if b then None else Some (zone_data key)) (Flat 7)
  by true = tt
  by false = record { whole = refl; shallow = omega arith }

names_whole : (names : List (List ℕ)) → items_have_float (items_of (map string names)) ≡ false
names_whole [] = refl
names_whole (name ∷ names) = names_whole names

names_shallow : (names : List (List ℕ)) → items_depth (items_of (map string names)) ≤ 1
names_shallow [] = omega arith
names_shallow (name ∷ names) = omega (arith, names_shallow names)

keys_flat : (o : Option (List (List ℕ))) → IfSome (option_map names_data o) (Flat 7)
keys_flat None = tt
keys_flat (Some names) = record { whole = names_whole names; shallow = omega (arith, names_shallow names) }

records_whole : (names : List (List ℕ)) → items_have_float (items_of (map named_data names)) ≡ false
records_whole [] = refl
records_whole (name ∷ names) = records_whole names

records_shallow : (names : List (List ℕ)) → items_depth (items_of (map named_data names)) ≤ 1
records_shallow [] = omega arith
records_shallow (name ∷ names) = omega (arith, records_shallow names)

records_flat : (names : List (List ℕ)) → Flat 7 (records_data names)
records_flat names = record { whole = records_whole names; shallow = omega (arith, records_shallow names) }

-- ---- the calls

modify_exact : (c : ModifyCall) → IsMeantModify c → IsExact (modify_data c)
modify_exact c is =
    let flat = present_flat 7 (modify_table c) (flag_flat true c.atomic, (flag_flat false c.numbers_as_strings, (ops_flat c.ops is.ops.meant, (zone_flat c.caller c.zone, tt)))) in
    record { whole = flat.whole; shallow = omega (arith, flat.shallow) }

lookup_exact : (c : LookupCall) → IsExact (lookup_data c)
lookup_exact c =
    let flat = present_flat 7 (lookup_table c) (keys_flat c.desired_keys, (flag_flat false c.numbers_as_strings, (records_flat c.names, (zone_flat c.caller c.zone, tt)))) in
    record { whole = flat.whole; shallow = omega (arith, flat.shallow) }

pub calls_exact : CallsAreExact
calls_exact (Modify c) is = modify_exact c is
calls_exact (Lookup c) is = lookup_exact c

-- ---- no JSON of a call has a float

any_ops_whole : (ops : List Op) → items_have_float (items_of (map op_data ops)) ≡ false
any_ops_whole [] = refl
any_ops_whole (op ∷ ops) = or_from _ _ (or_from _ _ (drafts_whole op.draft) refl) (any_ops_whole ops)

flag_whole : (default flag : Bool) → IfSome (flag_data default flag) (λ d. has_float d ≡ false)
flag_whole true true = tt
flag_whole true false = refl
flag_whole false true = refl
flag_whole false false = tt

zone_whole : (caller : List ℕ) (key : ZoneKey) → IfSome (zone_given caller key) (λ d. has_float d ≡ false)
zone_whole caller key = by (is_own_default caller key) where
  by : (b : Bool) → IfSome (if b then None else Some (zone_data key)) (λ d. has_float d ≡ false)
  by true = tt
  by false = refl

call_whole : (c : Call) → has_float (call_data c) ≡ false
call_whole (Modify c) =
    present_whole (modify_table c) (flag_whole true c.atomic, (flag_whole false c.numbers_as_strings, (any_ops_whole c.ops, (zone_whole c.caller c.zone, tt))))
call_whole (Lookup c) =
    present_whole (lookup_table c)
    (map_whole names_data c.desired_keys names_whole, (flag_whole false c.numbers_as_strings, (records_whole c.names, (zone_whole c.caller c.zone, tt))))

-- the text that is written is that of the call's JSON
pub text_is : (c : Call) (text : List ℕ) (d : Data) → d ≡ call_data c → (has_float d ≡ false → text ≡ compact_text d) → text ≡ compact_text (call_data c)
text_is c text d is writes = writes (ap has_float is ∙ call_whole c) ∙ ap compact_text is
