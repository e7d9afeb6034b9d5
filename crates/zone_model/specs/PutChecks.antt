-- The checks of puts, in their order.
use Rattle.std.specs.Prelude.{ℕ, Bool, not, ◌||◌, ◌&&◌, nat_lt, List, [], ◌∷◌, Option, None, is_some, is_none, if◌then◌else◌, option_and_then}
use Rattle.std.specs.List.{list_any}
use Rattle.record_model.specs.declared.value.RefTo.{RefTo}
use Rattle.record_model.specs.declared.value.Value.{Value}
use Rattle.record_model.specs.declared.records.Record.{Record}
use Rattle.record_model.specs.RecordSizes.{size_of_record}
use Rattle.zone_model.specs.declared.outcomes.OpFault.{OpFault}
use Rattle.zone_model.specs.declared.outcomes.OpFault.TheVariants.{Exists, NotFound, Conflict, BadRequest, AccessDenied, Validating}
use Rattle.zone_model.specs.Limits.{most_record_size}
use Rattle.zone_model.specs.Names.{same, same_option, is_in, is_default, is_shared}
use Rattle.name_rules.specs.Options.{is_some_and}
use Rattle.record_model.specs.RecordForms.{is_share_type}
use Rattle.zone_model.specs.Records.{record_at, is_share}
use Rattle.zone_model.specs.References.{references_in, validates}
use Rattle.zone_model.specs.Ancestry.{is_ancestor}
use Rattle.zone_model.specs.Past.{is_taken}
use Rattle.zone_model.specs.Requests.{NamedOp, is_create, is_forced, makes_new, begins_share, parent_given, new_parent, root_given, root_tag_given}
use Rattle.share_records.specs.ShareLists.{is_refused_list}
use Rattle.zone_model.specs.Putting.{written_over}
use Rattle.zone_model.specs.Grounds.{Grounds, is_stale, is_seen, in_working, is_writable, first_fault}

module _ (g : Grounds) (p : NamedOp) where
  -- the record of the view
  abbrev pub old : Option Record
  old = record_at g.seen p.name

  abbrev pub is_new : Bool
  is_new = not (is_seen g p.name)

  abbrev pub begins : Bool
  begins = begins_share g.seen p

  abbrev pub is_old_share : Bool
  is_old_share = is_some_and is_share old

  -- the put is of a share, or begins one
  abbrev pub is_of_share : Bool
  is_of_share = begins || is_old_share

  -- the root of a share that the put begins
  abbrev pub root : Option (List ℕ)
  root = if begins then root_given p.draft else None

  abbrev pub root_seen : Option Record
  root_seen = option_and_then (record_at g.seen) root

  -- the parent of a new record
  abbrev pub parent : Option (List ℕ)
  parent = if is_new then new_parent p.draft else None

  -- ---- the name is taken

  abbrev pub is_in_view : Bool
  is_in_view = is_create p.kind && not is_new

  abbrev pub is_hidden : Bool
  is_hidden = makes_new p.kind && (is_new && is_taken g.pasts p.name)

  abbrev pub has_shared_root : Bool
  has_shared_root = is_some_and (λ (r : Record). is_some r.share) root_seen

  abbrev pub is_name_taken : List (List ℕ) → Bool
  is_name_taken earlier = is_in_view || (is_hidden || (is_in earlier p.name || has_shared_root))

  -- ---- the record is missing

  abbrev pub is_missing : Bool
  is_missing = not (makes_new p.kind) && is_new

  -- ---- the tag is another one

  -- that of the record, or that of a root in the view
  abbrev pub is_in_conflict : Bool
  is_in_conflict = not (is_forced p.kind) && (is_some_and (is_stale p.draft.tag) old || is_some_and (is_stale (root_tag_given p.draft)) root_seen)

  -- ---- the put has another form

  abbrev pub lacks_type : Bool
  lacks_type = is_new && is_none p.draft.rtype

  abbrev pub turns_type : Bool
  turns_type = is_some_and (λ (r : Record). is_some_and (λ t. not (same r.rtype t)) p.draft.rtype) old

  abbrev pub turns_parent : Bool
  turns_parent = is_some_and (λ (r : Record). is_some_and (λ given. not (same_option r.parent given)) (parent_given p.draft.parent)) old

  abbrev pub lacks_root : Bool
  lacks_root = begins && is_none p.draft.for_root

  abbrev pub is_misplaced_share : Bool
  is_misplaced_share = is_of_share && (is_default g.caller.key || is_some parent)

  abbrev pub has_share_members : Bool
  has_share_members = is_some p.draft.for_root || (is_some p.draft.public || is_some p.draft.participants)

  abbrev pub has_refused_list : Bool
  has_refused_list = is_some_and (is_refused_list g.caller.key.owner) p.draft.participants

  -- the record that the put writes
  abbrev pub is_too_large : Bool
  is_too_large = is_some_and (λ (r : Record). nat_lt most_record_size (size_of_record r)) (written_over p old)

  abbrev pub has_bad_form : Bool
  has_bad_form =
      lacks_type || (turns_type || (turns_parent || (lacks_root || (is_misplaced_share
      || ((not is_of_share && has_share_members) || (has_refused_list || is_too_large))))))

  -- ---- the user may not do this

  abbrev pub is_denied_parent : Bool
  is_denied_parent = is_some_and (λ q. in_working g q && not (is_writable g q)) parent

  abbrev pub is_denied : Bool
  is_denied = is_shared g.caller.scope
      && (is_of_share || ((not is_new && not (is_writable g p.name)) || (is_new && (is_none parent || is_denied_parent))))

  -- ---- a record is missing that the put refers to

  -- it is there and no share, nor a put of a share that lacks its root
  abbrev pub is_plain_in_working : List ℕ → Bool
  is_plain_in_working x = is_some_and (λ (r : Record). not (is_share r) && not (is_share_type r.rtype)) (record_at g.working x)

  -- the parent is missing, is a share, or stands at or below the name
  abbrev pub has_bad_parent : Bool
  has_bad_parent = is_some_and (λ q. not (is_plain_in_working q) || is_ancestor g.working p.name q) parent

  abbrev pub has_bad_root : Bool
  has_bad_root = is_some_and (λ x. not (is_plain_in_working x)) root

  abbrev pub lacks_target : Value → Bool
  lacks_target v = list_any (λ (q : RefTo). validates q.action && not (in_working g q.name)) (references_in v)

  abbrev pub has_bad_reference : Bool
  has_bad_reference = list_any (λ (wish : List ℕ × Option Value). is_some_and lacks_target wish.1) p.draft.fields

  abbrev pub is_dangling : Bool
  is_dangling = has_bad_parent || (has_bad_root || has_bad_reference)

  -- the checks, where puts with these names come earlier in the request
  abbrev pub fault_of_put : List (List ℕ) → Option OpFault
  fault_of_put earlier = first_fault (
      (is_name_taken earlier, Exists)
      ∷ (is_missing, NotFound)
      ∷ (is_in_conflict, Conflict)
      ∷ (has_bad_form, BadRequest)
      ∷ (is_denied, AccessDenied)
      ∷ (is_dangling, Validating)
      ∷ [])
