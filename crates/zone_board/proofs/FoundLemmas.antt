-- Records that are found by the commits that put them.
use Rattle.std.proofs.Common.{◌≡◌, ℕ, List, ◌++◌, refl, sym, ap, ◌∙◌, Some, None, Option}
use Rattle.std.specs.Prelude.{fold, is_some, option_map}
use Rattle.std.specs.List.{AllByRecursion}
use Rattle.std.proofs.lemmas.List.Sums.{fold-append}
use Rattle.ck_base.specs.declared.key.ZoneKey.{ZoneKey}
use Rattle.record_model.specs.declared.records.Record.{Record}
use Rattle.zone_model.specs.declared.commits.Commit.{Commit}
use Rattle.zone_model.specs.Options.{or_else}
use Rattle.zone_model.specs.Records.{is_there}
use Rattle.zone_model.specs.Zones.{zone_at}
use Rattle.plain_creates.specs.OnePuts.{put_by, last_put, IsOnePut}
use Rattle.zone_laws.proofs.OnePutLaws.{puts_found}

some_mapped : {X Y : Type 0} (f : X → Y) (o : Option X) → is_some o ≡ is_some (option_map f o)
some_mapped f None = refl
some_mapped f (Some x) = refl

-- there is a record of the name where something put it, in the log or after it
pub taken : {X : Type 0} (f : X → Record) (key : ZoneKey) (name : List ℕ) (log more : List Commit) (earlier last : Option X) → AllByRecursion IsOnePut (log ++ more)
    → option_map f earlier ≡ last_put key name log → option_map f last ≡ fold (λ found c. or_else (put_by key name c) found) (option_map f earlier) more
    → is_some last ≡ is_there (zone_at (log ++ more) key).rows name
taken f key name log more earlier last ones first all =
    some_mapped f last
    ∙ ap is_some (all ∙ ap (λ o. fold (λ found c. or_else (put_by key name c) found) o more) first ∙ sym (fold-append (λ found c. or_else (put_by key name c) found) None log more))
    ∙ sym (puts_found.there (log ++ more) key name ones)
