-- What has happened to the names that a request puts, whether the caller sees them or not.
use Rattle.std.specs.Prelude.{ℕ, Bool, List, [], map, find}
use Rattle.ck_base.specs.declared.key.ZoneKey.{ZoneKey}
use Rattle.zone_model.specs.declared.commits.Commit.{Commit}
use Rattle.zone_model.specs.declared.operations.Past.{Past}
use Rattle.zone_model.specs.Names.{same, distinct}
use Rattle.name_rules.specs.Options.{is_some_and}
use Rattle.zone_model.specs.Records.{is_there}
use Rattle.zone_model.specs.Zones.{zone_at, puts_at}
use Rattle.zone_model.specs.Requests.{NamedOp, names_put}

-- how often commits have put the name, and whether there is a record of it now
abbrev pub past_of : List Commit → ZoneKey → List ℕ → Past
past_of log key x = record { name = x; puts = puts_at log key x; taken = is_there (zone_at log key).rows x }

-- one for each name that a put offers
abbrev pub name_history : List Commit → ZoneKey → List NamedOp → List Past
name_history log key ops = map (past_of log key) (distinct (names_put ops))

-- there is a record of the name now
abbrev pub is_taken : List Past → List ℕ → Bool
is_taken pasts x = is_some_and (λ (p : Past). p.taken) (find (λ (p : Past). same x p.name) pasts)
