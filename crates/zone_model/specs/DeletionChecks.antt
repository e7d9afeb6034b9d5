-- The checks of deletions, in their order.
use Rattle.std.specs.Prelude.{ℕ, Bool, not, ◌||◌, ◌&&◌, List, [], ◌∷◌, Option, is_some, is_none}
use Rattle.std.specs.List.{list_any}
use Rattle.record_model.specs.declared.records.Record.{Record}
use Rattle.zone_model.specs.declared.outcomes.OpFault.{OpFault}
use Rattle.zone_model.specs.declared.outcomes.OpFault.TheVariants.{NotFound, Conflict, AccessDenied, Validating}
use Rattle.zone_model.specs.Names.{same, is_in, is_shared}
use Rattle.name_rules.specs.Options.{is_some_and}
use Rattle.zone_model.specs.Records.{record_at, is_share}
use Rattle.zone_model.specs.References.{wants, goes_with}
use Rattle.zone_model.specs.Requests.{NamedOp, is_forced}
use Rattle.zone_model.specs.Grounds.{Grounds, is_stale, is_writable, first_fault}

-- the record holds x back: it is a child of x or wants it, and neither is taken by a deletion nor goes with a name that one takes
abbrev pub holds_back : Grounds → List ℕ → Record → Bool
holds_back g x r =
    (is_some_and (same x) r.parent || wants x r)
    && (not (is_in g.taken r.name) && not (list_any (λ a. goes_with a r) g.taken))

module _ (g : Grounds) (op : NamedOp) where
  abbrev pub deleted : Option Record
  deleted = record_at g.seen op.name

  abbrev pub is_missing : Bool
  is_missing = not (is_forced op.kind) && is_none deleted

  abbrev pub is_in_conflict : Bool
  is_in_conflict = not (is_forced op.kind) && is_some_and (is_stale op.draft.tag) deleted

  -- in the shared scope only writable records without a share are deleted; a share is left
  abbrev pub is_denied : Bool
  is_denied = is_shared g.caller.scope && is_some_and (λ (r : Record). not (is_share r) && (not (is_writable g r.name) || is_some r.share)) deleted

  abbrev pub is_held_back : Bool
  is_held_back = is_in g.taken op.name && list_any (holds_back g op.name) g.working

  abbrev pub fault_of_deletion : Option OpFault
  fault_of_deletion = first_fault (
      (is_missing, NotFound)
      ∷ (is_in_conflict, Conflict)
      ∷ (is_denied, AccessDenied)
      ∷ (is_held_back, Validating)
      ∷ [])
