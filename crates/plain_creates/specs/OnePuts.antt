-- Logs whose commits put one record each: the zone has what was put last under each name.
use Rattle.std.specs.Prelude.{◌≡◌, ℕ, Bool, true, ◌&&◌, List, [], ◌∷◌, fold, count_by, Option, Some, None, is_some, if◌then◌else◌, option_and_then}
use Rattle.ck_base.specs.declared.key.ZoneKey.{ZoneKey}
use Rattle.record_model.specs.declared.records.Record.{Record}
use Rattle.zone_model.specs.declared.commits.Write.{Write}
use Rattle.zone_model.specs.declared.commits.Write.TheVariants.{Put}
use Rattle.zone_model.specs.declared.commits.Act.{Act}
use Rattle.zone_model.specs.declared.commits.Act.TheVariants.{Writes}
use Rattle.zone_model.specs.declared.commits.Commit.{Commit}
use Rattle.zone_model.specs.Names.{same, same_key}
use Rattle.name_rules.specs.Options.{or_else}

-- the commit that puts just this record
abbrev pub commit_of_put : ZoneKey → List ℕ → ℕ → Record → Commit
commit_of_put key user moment r = record { key = key; user = user; moment = moment; act = Writes (Put r ∷ []) }

abbrev pub record_put : Write → Option Record
record_put (Put r) = Some r
record_put _ = None

abbrev pub only_write : List Write → Option Write
only_write (w ∷ []) = Some w
only_write _ = None

-- the record that an act puts, if that is all it does
abbrev pub only_put : Act → Option Record
only_put (Writes ws) = option_and_then record_put (only_write ws)
only_put _ = None

-- the commit puts one record and does nothing else
abbrev pub is_one_put : Commit → Bool
is_one_put c = is_some (only_put c.act)

abbrev pub IsOnePut : Commit → Type 0
IsOnePut c = is_one_put c ≡ true

-- the record of that name that the commit puts in the zone, if it puts one
abbrev pub put_by : ZoneKey → List ℕ → Commit → Option Record
put_by key x c = option_and_then (λ (r : Record). if same_key key c.key && same x r.name then Some r else None) (only_put c.act)

-- what was put last under the name
abbrev pub last_put : ZoneKey → List ℕ → List Commit → Option Record
last_put key x log = fold (λ found c. or_else (put_by key x c) found) None log

-- how many commits put the name
abbrev pub count_puts : ZoneKey → List ℕ → List Commit → ℕ
count_puts key x log = count_by (λ c. is_some (put_by key x c)) log
