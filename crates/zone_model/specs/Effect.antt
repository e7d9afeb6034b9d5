-- The commit of a request.
use Rattle.std.specs.Prelude.{ℕ, suc, Bool, true, false, not, ◌||◌, ◌&&◌, List, [], ◌∷◌, map, filter, filter_map, fold, Option, Some, None, if◌then◌else◌}
use Rattle.std.specs.List.{list_any}
use Rattle.record_model.specs.declared.records.Stamp.{Stamp}
use Rattle.record_model.specs.declared.records.Body.{Body}
use Rattle.record_model.specs.declared.records.Body.TheVariants.{Plain, Share}
use Rattle.record_model.specs.declared.records.Record.{Record}
use Rattle.zone_model.specs.declared.commits.Write.{Write}
use Rattle.zone_model.specs.declared.commits.Write.TheVariants.{Put, Remove, PutRemove}
use Rattle.zone_model.specs.declared.commits.Act.TheVariants.{Writes}
use Rattle.zone_model.specs.declared.commits.Commit.{Commit}
use Rattle.zone_model.specs.Names.{same, is_in, is_shared}
use Rattle.zone_model.specs.Records.{is_there, with_record, is_share}
use Rattle.zone_model.specs.Views.{is_empty}
use Rattle.zone_model.specs.Requests.{Caller, NamedOp, puts_in, names_deleted}
use Rattle.share_records.specs.ShareLists.{share_without}
use Rattle.zone_model.specs.Working.{is_share_of, is_new_share_of, working_view}
use Rattle.zone_model.specs.Grounds.{names_taken}
use Rattle.zone_model.specs.Cascade.{removed_names}

-- A request that was judged: who asks and when, the records that the caller sees, all records of the zone, how often its names were put,
-- and the operations.
pub record Request : Type 0 where
  pub caller : Caller
  pub moment : ℕ
  pub seen : List Record
  pub rows : List Record
  pub puts : List ℕ → ℕ
  pub ops : List NamedOp

abbrev pub body_without : List ℕ → Body → Body
body_without u Plain = Plain
body_without u (Share s) = Share (share_without u s)

module _ (q : Request) where
  abbrev pub working : List Record
  working = working_view q.caller.scope q.seen q.ops

  -- ---- what is put

  -- the request puts the name
  abbrev pub is_asked : List ℕ → Bool
  is_asked x = list_any (λ (p : NamedOp). same x p.name) (puts_in q.ops)

  -- a new share marks the name as its root
  abbrev pub is_marked : List ℕ → Bool
  is_marked x = list_any (is_new_share_of q.seen x) working

  abbrev pub is_put : List ℕ → Bool
  is_put x = is_asked x || is_marked x

  -- a participant who deletes a share leaves it
  abbrev pub is_left : Record → Bool
  is_left r = is_shared q.caller.scope && (is_in (names_deleted q.ops) r.name && (is_share r && is_there q.seen r.name))

  abbrev pub after_leaving : Record → Record
  after_leaving r = if is_left r then record r { body = body_without q.caller.user r.body } else r

  -- the whole zone after the puts
  abbrev pub after_puts : List Record
  after_puts = map after_leaving (fold with_record q.rows (filter (λ (r : Record). is_put r.name) working))

  -- ---- what goes

  abbrev pub removed : List (List ℕ)
  removed = removed_names after_puts (names_taken q.caller q.seen q.ops)

  -- ---- what is written

  abbrev pub stamp : Stamp
  stamp = record { moment = q.moment; user = q.caller.user }

  -- the record with its new tag and stamps
  abbrev pub stamped : Record → Record
  stamped r = record r {
    tag = suc (q.puts r.name);
    created = if is_there q.rows r.name then r.created else stamp;
    modified = stamp;
  }

-- The write of a record, by whether it is removed and whether it is written. Both at once is written as that.
abbrev pub write_as : Bool → Bool → Record → Option Write
write_as true true r = Some (PutRemove r.name)
write_as true false r = Some (Remove r.name)
write_as false true r = Some (Put r)
write_as false false r = None

-- where these names are removed
module _ (q : Request) (gone : List (List ℕ)) where
  -- it stays and its share goes, so that it is marked no more
  abbrev pub is_unmarked : Record → Bool
  is_unmarked r = not (is_in gone r.name) && list_any (λ (s : Record). is_share_of r.name s && is_in gone s.name) (after_puts q)

  -- what is put, marked, left or unmarked is written
  abbrev pub is_written : Record → Bool
  is_written r = is_put q r.name || (is_left q r || is_unmarked r)

  abbrev pub final : Record → Record
  final r = record (stamped q r) { share = if is_unmarked r then None else r.share }

  abbrev pub write_of : Record → Option Write
  write_of r = write_as (is_in gone r.name) (is_written r) (final r)

  -- in ascending order of names, as the records stand
  abbrev pub writes : List Write
  writes = filter_map write_of (after_puts q)

-- one commit, or none where nothing is written
abbrev pub commits_with : Request → List Write → List Commit
commits_with q ws = if is_empty ws then [] else record { key = q.caller.key; user = q.caller.user; moment = q.moment; act = Writes ws } ∷ []

abbrev pub effect : Request → List Commit
effect q = commits_with q (writes q (removed q))
