-- The working view: the view with a request's puts written in.
use Rattle.std.specs.Prelude.{ℕ, Bool, not, ◌&&◌, List, map, fold, find, Option, Some, None, if◌then◌else◌}
use Rattle.std.specs.List.{list_any}
use Rattle.std.specs.Option.{option_map_or}
use Rattle.ck_base.specs.declared.scope.Scope.{Scope}
use Rattle.share_records.specs.declared.share.Share.{Share as ShareOf}
use Rattle.record_model.specs.declared.records.Record.{Record}
use Rattle.zone_model.specs.Names.{same, is_in, is_private}
use Rattle.name_rules.specs.Options.{is_some_and}
use Rattle.zone_model.specs.Records.{is_there, with_record, share_of}
use Rattle.zone_model.specs.Requests.{NamedOp, puts_in, names_deleted}
use Rattle.zone_model.specs.Putting.{records_written}

-- the record is the share of that root
abbrev pub is_share_of : List ℕ → Record → Bool
is_share_of root r = is_some_and (λ (s : ShareOf). same root s.root) (share_of r)

-- the record is a share of that root which the view doesn't have
abbrev pub is_new_share_of : List Record → List ℕ → Record → Bool
is_new_share_of seen root s = is_share_of root s && not (is_there seen s.name)

-- the view's records with those that the puts write
abbrev pub with_puts : List Record → List NamedOp → List Record
with_puts seen ops = fold with_record seen (records_written seen (puts_in ops))

-- a deletion of the owner names the root's share
abbrev pub loses_mark : Scope → List Record → List NamedOp → List ℕ → Bool
loses_mark scope seen ops root = is_private scope && list_any (λ (s : Record). is_share_of root s && is_in (names_deleted ops) s.name) seen

-- the share that a root names: its new one; none where the owner deletes its share; or else the one that it named
abbrev pub mark_of : Scope → List Record → List NamedOp → List Record → Record → Option (List ℕ)
mark_of scope seen ops rows r =
    option_map_or (λ (s : Record). Some s.name) (find (is_new_share_of seen r.name) rows)
    (if loses_mark scope seen ops r.name then None else r.share)

abbrev pub with_marks : Scope → List Record → List NamedOp → List Record → List Record
with_marks scope seen ops rows = map (λ (r : Record). record r { share = mark_of scope seen ops rows r }) rows

abbrev pub working_view : Scope → List Record → List NamedOp → List Record
working_view scope seen ops = with_marks scope seen ops (with_puts seen ops)
