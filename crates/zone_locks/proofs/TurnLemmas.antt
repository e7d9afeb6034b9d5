-- A take, between its draw and its value.
use Rattle.std.proofs.Common.{◌≡◌, ℕ, List, [], ◌∷◌, sym, ap, ◌∙◌, subst, Option, Some, None}
use mathlib.Core.Option.{none, some, some-ne-none, some-injective}
use mathlib.Core.Option as maybe
use Rattle.atomic_table.specs.Table.{State, Me, rest}
use Rattle.zone_locks.specs.declared.rule.View.{View}
use Rattle.zone_locks.specs.declared.rule.Turned.{Turned}
use Rattle.zone_locks.specs.Growing.{StartsWith, own}
use Rattle.zone_locks.specs.Rules.{IsKept}
use Rattle.zone_locks.specs.Steps.{entered_view, StandsFor, Entered, IsInside}

module _ {T I : Type 0} (items : T → List I) (seat_of : I → ℕ) where
  abbrev Slot : Type 0
  Slot = Option (Turned T)

  abbrev St : Type 0
  St = State Slot (View I)

  abbrev Sat : Type 0
  Sat = Me Slot (View I)

  abbrev Homes : Type 0
  Homes = List (maybe.Option Slot)

  abbrev Rule : St → Type 0
  Rule = IsKept items seat_of

  -- what the exchange leaves of an entry
  pub entered_out : (m m' m'' : Sat) (n : ℕ) (x : Option (Turned T)) (t : Turned T) → m.1 ≡ [] → Entered items seat_of n m m' → m'.1 ≡ (0, x) ∷ rest m'.1 → x ≡ Some t → m'' ≡ (m'.0, (0, None) ∷ rest m'.1)
      → IsInside seat_of n (items t.value) m m''
  entered_out m m' m'' n x t empty e was is now =
      let cs : m'.1 ≡ (0, e.slot) ∷ [] = ap (λ (y : Sat). y.1) e.is ∙ ap (λ l. (0, e.slot) ∷ l) empty in
      let x_is : e.slot ≡ Some t = sym (ap (λ l. said l) cs) ∙ (ap (λ l. said l) was ∙ is) in
      let mine : items t.value ≡ e.log = (subst (λ o. StandsFor items o n e.log) x_is e.stands).0 in
      let v : m'.0 ≡ entered_view m.0 n (items t.value) = ap (λ (y : Sat). y.0) e.is ∙ ap (λ l. entered_view m.0 n l) (sym mine) in
      record {
        is = now ∙ λ i. (v i, (0, None) ∷ rest (cs i));
        continues = subst (λ l. StartsWith l m.0.seen) (sym mine) e.continues;
        own_is = λ k is. ap (own seat_of k) mine ∙ e.own_is k is;
      }
    where
      said : List (ℕ × Slot) → Slot
      said [] = None
      said (y ∷ ys) = y.1
