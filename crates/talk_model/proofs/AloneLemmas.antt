-- One more request of a board that nobody else asks.
use Rattle.std.proofs.Common.{◌≡◌, ◌≢◌, ℕ, List, [], ◌∷◌, ◌++◌, refl, sym, ap, ◌∙◌, inl, inr}
use Rattle.std.proofs.lemmas.Bool.Decides.{eqb_tells}
use Rattle.zone_model.specs.declared.events.Event.{Event}
use Rattle.zone_model.specs.Histories.{Histories}
use Rattle.talk_model.specs.Requests.{Meaning}
use Rattle.talk_model.specs.Given.{Given}
use Rattle.talk_model.specs.Calls.{Ask, step_for, text_of}
use Rattle.talk_model.specs.Alone.{Storing, made_alone, after_ask, run_step, after_all, replies_alone}

module _ (storing : Storing) where
  pub after_all-snoc : (h : Histories Event) (asked : List (Meaning × Given)) (w : Meaning) (g : Given) → after_all storing h (asked ++ (w, g) ∷ []) ≡ (run_step storing (after_all storing h asked) (step_for w.want g)).0
  after_all-snoc h [] w g = refl
  after_all-snoc h ((v, f) ∷ asked) w g = after_all-snoc (run_step storing h (step_for v.want f)).0 asked w g

  pub replies-snoc : (h : Histories Event) (asked : List (Meaning × Given)) (w : Meaning) (g : Given)
      → replies_alone storing h (asked ++ (w, g) ∷ []) ≡ replies_alone storing h asked ++ text_of w.close (run_step storing (after_all storing h asked) (step_for w.want g)).1 ∷ []
  replies-snoc h [] w g = refl
  replies-snoc h ((v, f) ∷ asked) w g =
      let end = run_step storing h (step_for v.want f) in
      ap (λ t. text_of v.close end.1 ∷ t) (replies-snoc end.0 asked w g)

  -- what an ask leaves at each lock
  pub ask_leaves : (old new : Histories Event) (a : Ask) → new a.lock ≡ old a.lock ++ made_alone storing old a → ((k : ℕ) → k ≢ a.lock → new k ≡ old k) → (k : ℕ) → new k ≡ after_ask storing old a k
  ask_leaves old new a here others k =
      elim (eqb_tells k a.lock) [
        | inl t ↦
            rw t.0 (ap new t.1 ∙ (here ∙ ap (λ (j : ℕ). old j ++ made_alone storing old a) (sym t.1)))
        | inr t ↦ rw t.0 (others k t.1)
      ]
