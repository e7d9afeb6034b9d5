-- Which names are seen.
use Rattle.std.proofs.Common.{◌≡◌, ℕ, List, Option, None, Some, refl, sym, ap, ◌∙◌}
use Rattle.std.specs.Prelude.{is_some, option_map}
use denote.Ref.{Bor}
use Rattle.record_model.specs.declared.records.Record.{Record}
use Rattle.zone_model.specs.Records.{record_at, is_there}
use Rattle.zone_laws.proofs.JudgeLaws.{there-found}

some_now : (o : Option (Bor Record)) → is_some (option_map (λ (r : Bor Record). r.now) o) ≡ is_some o
some_now None = refl
some_now (Some r) = refl

-- a name is seen where its record is told
pub seen_there : (o : Option (Bor Record)) (rows : List Record) (x : List ℕ) → option_map (λ (r : Bor Record). r.now) o ≡ record_at rows x → is_some o ≡ is_there rows x
seen_there o rows x is = sym (some_now o) ∙ ap is_some is ∙ sym (there-found rows x)
