-- The records that puts write. Their tags and stamps are set by the commit.
use Rattle.std.specs.Prelude.{ℕ, List, [], ◌∷◌, ◌++◌, not, filter, filter_map, fold, Option, Some, None, if◌then◌else◌, unwrap_or}
use Rattle.std.specs.Option.{option_map_or}
use Rattle.ck_base.specs.Order.{is_before}
use Rattle.record_model.specs.declared.value.Value.{Value}
use Rattle.record_model.specs.declared.draft.Draft.{Draft}
use Rattle.record_model.specs.declared.records.Stamp.{Stamp}
use Rattle.record_model.specs.declared.records.Body.{Body}
use Rattle.record_model.specs.declared.records.Body.TheVariants.{Plain, Share}
use Rattle.record_model.specs.declared.records.Record.{Record}
use Rattle.zone_model.specs.Names.{same}
use Rattle.zone_model.specs.Records.{record_at}
use Rattle.zone_model.specs.Requests.{NamedOp, makes_new, changes_old, drops_fields, has_share_type, new_parent, root_given, first_puts}
use Rattle.zone_model.specs.Sharing.{share_after}
use Rattle.share_records.specs.ShareLists.{first_share}

-- ---- fields

abbrev pub with_field : List (List ℕ × Value) → List ℕ × Value → List (List ℕ × Value)
with_field fields f = filter (λ (g : List ℕ × Value). is_before g.0 f.0) fields ++ f ∷ filter (λ (g : List ℕ × Value). is_before f.0 g.0) fields

-- a field that is given takes its place by name, and one without a value goes
abbrev pub after_wish : List (List ℕ × Value) → List ℕ × Option Value → List (List ℕ × Value)
after_wish fields wish = option_map_or (λ v. with_field fields (wish.0, v)) wish.1 (filter (λ (g : List ℕ × Value). not (same wish.0 g.0)) fields)

abbrev pub after_wishes : List (List ℕ × Value) → List (List ℕ × Option Value) → List (List ℕ × Value)
after_wishes fields wishes = fold after_wish fields wishes

-- ---- records

-- a new share has the root that the draft gives
abbrev pub new_body : Draft → List ℕ → Body
new_body d guid = if has_share_type d then option_map_or (λ root. Share (share_after (first_share root guid) d)) (root_given d) Plain else Plain

abbrev pub body_after : Body → Draft → Body
body_after Plain d = Plain
body_after (Share s) d = Share (share_after s d)

-- no moment and no user
abbrev pub no_stamp : Stamp
no_stamp = record { moment = 0; user = [] }

-- the record that a put begins
abbrev pub new_record : NamedOp → Record
new_record p = record {
  name = p.name;
  rtype = unwrap_or p.draft.rtype [];
  tag = 0;
  parent = new_parent p.draft;
  share = None;
  fields = after_wishes [] p.draft.fields;
  created = no_stamp;
  modified = no_stamp;
  body = new_body p.draft p.guid;
}

-- a record that is there, after a put: it keeps its type and its parent
abbrev pub changed_record : NamedOp → Record → Record
changed_record p r = record r {
  fields = after_wishes (if drops_fields p.kind then [] else r.fields) p.draft.fields;
  body = body_after r.body p.draft;
}

-- what a put writes where the caller sees this record, or none, of its name
abbrev pub written_over : NamedOp → Option Record → Option Record
written_over p None = if makes_new p.kind then Some (new_record p) else None
written_over p (Some r) = if changes_old p.kind then Some (changed_record p r) else None

-- what the puts write over the records that the caller sees
abbrev pub records_written : List Record → List NamedOp → List Record
records_written seen puts = filter_map (λ (p : NamedOp). written_over p (record_at seen p.name)) (first_puts puts)
