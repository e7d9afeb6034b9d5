-- What a zone holds after the commits of a log, and how often its names were put.
use Rattle.std.specs.Prelude.{ℕ, Bool, true, false, List, [], filter, fold, count_by}
use Rattle.std.specs.List.{list_any}
use Rattle.ck_base.specs.declared.key.ZoneKey.{ZoneKey}
use Rattle.record_model.specs.declared.records.Record.{Record}
use Rattle.zone_model.specs.declared.commits.Write.{Write}
use Rattle.zone_model.specs.declared.commits.Write.TheVariants.{Put, Remove, PutRemove}
use Rattle.zone_model.specs.declared.commits.Act.{Act}
use Rattle.zone_model.specs.declared.commits.Act.TheVariants.{Writes, MakeZone, DropZone}
use Rattle.zone_model.specs.declared.commits.Commit.{Commit}
use Rattle.zone_model.specs.Names.{same, same_key, is_default}
use Rattle.zone_model.specs.Records.{with_record, without}

-- the commits of a zone
abbrev pub commits_at : List Commit → ZoneKey → List Commit
commits_at log key = filter (λ (c : Commit). same_key key c.key) log

-- whether a zone is there, and its records in ascending order of names
pub record Zone : Type 0 where
  pub there : Bool
  pub rows : List Record

-- a default zone is always there, any other from its making to its removal
abbrev pub first_zone : ZoneKey → Zone
first_zone key = record { there = is_default key; rows = [] }

abbrev pub after_write : List Record → Write → List Record
after_write rows (Put r) = with_record rows r
after_write rows (Remove x) = without rows x
after_write rows (PutRemove x) = without rows x

abbrev pub after_act : Zone → Act → Zone
after_act z (Writes ws) = record { there = z.there; rows = fold after_write z.rows ws }
after_act z MakeZone = record { there = true; rows = z.rows }
after_act z DropZone = record { there = false; rows = [] }
after_act z _ = z

abbrev pub zone_at : List Commit → ZoneKey → Zone
zone_at log key = fold (λ z (c : Commit). after_act z c.act) (first_zone key) (commits_at log key)

-- ---- counts of puts, which make the change tags

abbrev pub written_name : Write → List ℕ
written_name (Put r) = r.name
written_name (Remove x) = x
written_name (PutRemove x) = x

-- put and removed at once counts as a put
abbrev pub puts_name : List ℕ → Write → Bool
puts_name x (Put r) = same x r.name
puts_name x (Remove y) = false
puts_name x (PutRemove y) = same x y

abbrev pub act_puts : List ℕ → Act → Bool
act_puts x (Writes ws) = list_any (puts_name x) ws
act_puts x _ = false

-- how many commits have put the name in the zone, in all its lives and in all lives of the zone
abbrev pub puts_at : List Commit → ZoneKey → List ℕ → ℕ
puts_at log key x = count_by (λ (c : Commit). act_puts x c.act) (commits_at log key)
