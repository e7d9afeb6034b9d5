-- Creations of records that stand alone: no share, no parent, and no reference that does more than name a record.
use Rattle.std.specs.Prelude.{◌≡◌, ℕ, suc, Bool, true, false, not, ◌||◌, ◌&&◌, nat_lt, List, [], Option, Some, None, is_none, if◌then◌else◌, unwrap_or}
use Rattle.std.specs.List.{list_all}
use Rattle.ck_base.specs.declared.scope.Scope.TheVariants.{Private}
use Rattle.record_model.specs.declared.value.Action.{Action}
use Rattle.record_model.specs.declared.value.RefTo.{RefTo}
use Rattle.record_model.specs.declared.value.Value.{Value}
use Rattle.record_model.specs.declared.draft.Draft.{Draft}
use Rattle.record_model.specs.declared.draft.ParentWish.{ParentWish}
use Rattle.record_model.specs.declared.records.Body.TheVariants.{Plain}
use Rattle.record_model.specs.declared.records.Stamp.{Stamp}
use Rattle.record_model.specs.declared.records.Record.{Record}
use Rattle.record_model.specs.RecordSizes.{size_of_record}
use Rattle.zone_model.specs.declared.operations.Op.{Op}
use Rattle.zone_model.specs.declared.outcomes.OpFault.{OpFault}
use Rattle.zone_model.specs.declared.outcomes.OpFault.TheVariants.{Exists, BadRequest}
use Rattle.zone_model.specs.Limits.{most_record_size}
use Rattle.name_rules.specs.Options.{is_none_or}
use Rattle.zone_model.specs.Records.{is_there}
use Rattle.zone_model.specs.References.{references_in}
use Rattle.zone_model.specs.Requests.{Caller, NamedOp, is_create, has_share_type}
use Rattle.zone_model.specs.Putting.{after_wishes, no_stamp}

-- the caller owns the zone and asks in the private scope
pub record IsOwner (caller : Caller) : Type 0 where
  pub user : caller.user ≡ caller.key.owner
  pub scope : caller.scope ≡ Private

-- ---- which creations

abbrev pub gives_no_parent : ParentWish → Bool
gives_no_parent (ParentWish.To p) = false
gives_no_parent _ = true

abbrev pub gives_no_share : Draft → Bool
gives_no_share d = not (has_share_type d) && (is_none d.for_root && (is_none d.public && is_none d.participants))

-- neither record goes with the other or wants it
abbrev pub only_names : Action → Bool
only_names Action.Plain = true
only_names _ = false

abbrev pub has_plain_references : Value → Bool
has_plain_references v = list_all (λ (q : RefTo). only_names q.action) (references_in v)

abbrev pub is_plain_draft : Draft → Bool
is_plain_draft d =
    gives_no_parent d.parent
    && (gives_no_share d && list_all (λ (wish : List ℕ × Option Value). is_none_or has_plain_references wish.1) d.fields)

abbrev pub is_plain_create : Op → Bool
is_plain_create op = is_create op.kind && is_plain_draft op.draft

-- it is such a create, with its name
abbrev pub is_plain_named : NamedOp → Bool
is_plain_named op = is_create op.kind && is_plain_draft op.draft

-- ---- what they come to

-- the record of a name that the draft describes, without tag and stamps
abbrev pub drafted_record : List ℕ → Draft → Record
drafted_record name d = record {
  name = name;
  rtype = unwrap_or d.rtype [];
  tag = 0;
  parent = None;
  share = None;
  fields = after_wishes [] d.fields;
  created = no_stamp;
  modified = no_stamp;
  body = Plain;
}

-- the record that is put, where the names were put so often before
abbrev pub created_record : List ℕ → ℕ → (List ℕ → ℕ) → List ℕ → Draft → Record
created_record user moment puts name d =
    let now : Stamp = record { moment = moment; user = user } in
    record (drafted_record name d) { tag = suc (puts name); created = now; modified = now }

abbrev pub is_too_large : Draft → Bool
is_too_large d = nat_lt most_record_size (size_of_record (drafted_record [] d))

-- the name is taken, or else the draft has no type or is too large
abbrev pub refusal_of_create : List Record → List ℕ → Draft → Option OpFault
refusal_of_create rows name d =
    if is_there rows name then Some Exists
    else (if is_none d.rtype || is_too_large d then Some BadRequest else None)
