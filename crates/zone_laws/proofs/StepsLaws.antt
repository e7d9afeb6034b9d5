-- What holds of operations that are done one after another.
use Rattle.std.proofs.Common.{◌≡◌, ℕ, List, [], ◌∷◌, ◌++◌, true, not, ◌||◌, refl, ◌∙◌}
use Rattle.std.specs.List.{list_any}
use Rattle.zone_model.specs.declared.commits.Commit.{Commit}
use Rattle.zone_model.specs.Zones.{zone_at}
use Rattle.zone_model.specs.Views.{is_empty}
use Rattle.zone_model.specs.Requests.{Caller, NamedOp}
use Rattle.zone_model.specs.Modifying.{steps, effect_at, modified_apart}
use Rattle.zone_model.specs.Lawful.{MayFollowInTurn}
use Rattle.zone_laws.specs.LawfulTests.{are_lawful}
use Rattle.zone_laws.specs.Answering.{AreStamped, PutsAreShown, DeletionsAreShown, AreAllowed, ArePermitted, tells_written}
use Rattle.zone_laws.specs.Stepping.{AtEachStep, tells_written_at, StepsKeepTheLaws}
use Rattle.zone_laws.proofs.TestLaws.{in_turn_so, in_turn_back}
use Rattle.zone_laws.proofs.LawfulLaws.{lawful-effect, lawful-append, there-after, one_root}
use Rattle.zone_laws.proofs.WrittenLaws.{stamps_set, outcomes_written, writes_allowed}
use Rattle.zone_laws.proofs.DeletionLaws.{deletions_written}
use Rattle.zone_laws.proofs.MadeLaws.{made_where_written}

none_joined : (cs ds : List Commit) → not (is_empty (cs ++ ds)) ≡ (not (is_empty cs) || not (is_empty ds))
none_joined [] ds = refl
none_joined (c ∷ cs) ds = refl

module _ (caller : Caller) (moment : ℕ) where
  at_steps : (Holds : List Commit → List NamedOp → Type 0)
      → ((log : List Commit) (op : NamedOp) → MayFollowInTurn [] log → (zone_at log caller.key).there ≡ true → Holds log (op ∷ []))
      → (ops : List NamedOp) (log : List Commit) → are_lawful [] log ≡ true → (zone_at log caller.key).there ≡ true → AtEachStep caller moment log ops Holds
  at_steps Holds each [] log lawful there = tt
  at_steps Holds each (op ∷ ops) log lawful there =
      let made = effect_at caller moment log (op ∷ []) in
      let one = lawful-effect caller moment log (op ∷ []) lawful there (one_root op) in (
        each log op (in_turn_so [] log lawful) there,
        at_steps Holds each ops (log ++ made) (lawful-append [] log made lawful one) (there-after caller moment log (op ∷ []) lawful there (one_root op)),
      )

  pub at_each : (Holds : List Commit → List NamedOp → Type 0)
      → ((log : List Commit) (op : NamedOp) → MayFollowInTurn [] log → (zone_at log caller.key).there ≡ true → Holds log (op ∷ []))
      → (log : List Commit) (ops : List NamedOp) → MayFollowInTurn [] log → (zone_at log caller.key).there ≡ true → AtEachStep caller moment log ops Holds
  at_each Holds each log ops lawful there = at_steps Holds each ops log (in_turn_back [] log lawful) there

  -- without a look at the log
  at_any : (Holds : List Commit → List NamedOp → Type 0) → ((log : List Commit) (op : NamedOp) → Holds log (op ∷ []))
      → (ops : List NamedOp) (log : List Commit) → AtEachStep caller moment log ops Holds
  at_any Holds each [] log = tt
  at_any Holds each (op ∷ ops) log = (each log op, at_any Holds each ops (log ++ effect_at caller moment log (op ∷ [])))

  made_at : (log : List Commit) (op : NamedOp) → MayFollowInTurn [] log → (zone_at log caller.key).there ≡ true
      → not (is_empty (effect_at caller moment log (op ∷ []))) ≡ tells_written caller moment log (op ∷ [])
  made_at log op lawful there = made_where_written caller moment log (op ∷ []) lawful there (one_root op)

  all_made : (ops : List NamedOp) (log : List Commit) → are_lawful [] log ≡ true → (zone_at log caller.key).there ≡ true
      → not (is_empty (modified_apart caller moment log ops).commits) ≡ list_any (tells_written_at caller moment) (steps caller moment log ops)
  all_made [] log lawful there = refl
  all_made (op ∷ ops) log lawful there =
      let made = effect_at caller moment log (op ∷ []) in
      let one = lawful-effect caller moment log (op ∷ []) lawful there (one_root op) in
      none_joined made (modified_apart caller moment (log ++ made) ops).commits
      ∙ (λ i. made_at log op (in_turn_so [] log lawful) there i
      || all_made ops (log ++ made) (lawful-append [] log made lawful one) (there-after caller moment log (op ∷ []) lawful there (one_root op)) i)

pub steps_kept : StepsKeepTheLaws
steps_kept = record {
  found = λ caller moment. at_each caller moment (λ found op. MayFollowInTurn [] found × ((zone_at found caller.key).there ≡ true)) (λ log op lawful there. (lawful, there));
  stamped = λ caller moment. at_each caller moment (AreStamped caller moment) (λ log op lawful there. stamps_set caller moment log (op ∷ []) lawful there (one_root op));
  puts_shown = λ caller moment. at_each caller moment (PutsAreShown caller moment) (λ log op lawful there. outcomes_written caller moment log (op ∷ []) lawful there (one_root op));
  deletions_shown = λ caller moment. at_each caller moment (DeletionsAreShown caller moment) (λ log op lawful there. deletions_written caller moment log (op ∷ []) lawful there (one_root op));
  allowed = λ caller moment. at_each caller moment (AreAllowed caller moment) (λ log op lawful there. writes_allowed.writes caller moment log (op ∷ []) lawful there (one_root op));
  permitted = λ caller moment log ops shared.
      at_any caller moment (ArePermitted caller moment) (λ found op. writes_allowed.asked caller moment found (op ∷ []) shared) ops log;
  made = λ caller moment. at_each caller moment (λ found op. not (is_empty (effect_at caller moment found op)) ≡ tells_written caller moment found op) (made_at caller moment);
  all_made = λ caller moment log ops lawful there. all_made caller moment ops log (in_turn_back [] log lawful) there;
}
