-- What the calls tell of a pass.
use Rattle.std.proofs.Common.{◌≡◌, ℕ, ◌+◌, ◌-◌, ◌≤◌, List, [], ◌∷◌, ◌++◌, length, sym, refl, ap, ◌∙◌, subst, arith, Option, Some, None, unwrap_or, length-append}
use Rattle.atomic_table.specs.Table.{Me}
use Rattle.atomic_table.specs.Seated.{TableId}
use Rattle.zone_locks.specs.declared.rule.View.{View}
use Rattle.zone_locks.specs.declared.rule.Turned.{Turned}
use Rattle.zone_locks.specs.declared.rule.Stage.{Stage}
use Rattle.zone_locks.specs.declared.rule.Stage.TheVariants.{Idle, Waits, In, Back}
use Rattle.zone_locks.specs.Growing.{StartsWith, own, own_of, AreOf, GrownBy, longer}
use Rattle.zone_locks.specs.Rules.{first_view}
use Rattle.zone_locks.specs.Steps.{drew_view, entered_view, back_view, served_view, told_view, learned_view, Drew, Learned, IsInside}
use Rattle.zone_locks.specs.Passes.{Known, known, turn_of, Rests, IsSound, Took, taking}
use Rattle.zone_locks.proofs.ListLemmas.{own-append, own_all, own-le}
use Rattle.zone_locks.proofs.ViewLemmas.{some_same}

abbrev Sat : Type 0 → Type 0 → Type 0
Sat T I = Me (Option (Turned T)) (View I)

module _ {S : Type 0} where
  -- a pass that has no turn is outside, and holds nothing
  pub outside : (stage : Stage) (slots : List (ℕ × Option S)) → Rests stage slots → turn_of stage ≡ None → (stage ≡ Idle) × (slots ≡ [])
  outside Idle slots rests none = (refl, rests)
  outside (Waits n) slots rests none = absurd rests
  outside (In n) slots rests none = absurd (cc none)
  outside (Back n) slots rests none = absurd rests

  -- one that has a turn is inside, and holds the empty slot
  pub inside : (stage : Stage) (slots : List (ℕ × Option S)) (ticket : ℕ) → Rests stage slots → turn_of stage ≡ Some ticket → (stage ≡ In ticket) × (slots ≡ (0, None) ∷ [])
  inside Idle slots ticket rests some = absurd (cc some)
  inside (Waits n) slots ticket rests some = absurd rests
  inside (In n) slots ticket rests some = (ap In (some_same n ticket some), rests)
  inside (Back n) slots ticket rests some = absurd rests

module _ {I : Type 0} (seat_of : I → ℕ) where
  -- the items that are added are counted
  counted : (seen after : List I) (seat count found : ℕ) → GrownBy seat_of seat seen after → count ≡ length (own seat_of seat seen) → found ≡ length seen → count + (length after - found) ≡ length (own seat_of seat after)
  counted seen after seat count found grown before len =
      let whole : own seat_of seat after ≡ own seat_of seat seen ++ grown.0 = ap (own seat_of seat) grown.1 ∙ (own-append seat_of seat seen grown.0 ∙ ap (λ l. own seat_of seat seen ++ l) (own_all seat_of seat grown.0 grown.2)) in
      omega (arith, before, ap length whole, ap length grown.1, length-append seen grown.0, length-append (own seat_of seat seen) grown.0, len)

module _ {T I : Type 0} (seat_of : I → ℕ) where
  -- the own items in what is found are those that were seen
  own_found : (m m1 m2 : Sat T I) (number : Option ℕ) (count ticket : ℕ) (found : List I) → IsSound seat_of number count m → Drew seat_of ticket m m1 → IsInside seat_of ticket found m1 m2
      → own seat_of (unwrap_or number (ticket + 1)) found ≡ own_of seat_of m.0.seat m.0.seen
  own_found m m1 m2 number count ticket found sound drew within =
      within.own_is (unwrap_or number (ticket + 1)) sits ∙ (ap (own seat_of (unwrap_or number (ticket + 1))) saw ∙ (ap (λ o. own seat_of (unwrap_or o (ticket + 1)) m.0.seen) sound.numbered ∙ by_seat m.0.seat refl))
    where
      saw : m1.0.seen ≡ m.0.seen
      saw = ap (λ (y : Sat T I). y.0.seen) drew.is

      sits : m1.0.seat ≡ Some (unwrap_or number (ticket + 1))
      sits = ap (λ (y : Sat T I). y.0.seat) drew.is ∙ ap (λ o. Some (unwrap_or o (ticket + 1))) (sym sound.numbered)

      by_seat : (was : Option ℕ) → m.0.seat ≡ was → own seat_of (unwrap_or was (ticket + 1)) m.0.seen ≡ own_of seat_of was m.0.seen
      by_seat (Some n) is = refl
      by_seat None is = drew.unused is

  pub own_count : (lock : TableId) (k : Known I) (m : Sat T I) (number : Option ℕ) (count seat : ℕ) → known lock m ≡ k → IsSound seat_of number count m → k.seat ≡ Some seat → count ≡ length (own seat_of seat k.seen)
  own_count lock k m number count seat view sound sits = sound.counts ∙ ap length (ap (λ (x : Known I). own_of seat_of x.seat x.seen) view ∙ ap (λ o. own_of seat_of o k.seen) sits)

  -- what a take tells
  pub took : (m m1 m2 : Sat T I) (lock : TableId) (number : Option ℕ) (count ticket : ℕ) (found : List I) → IsSound seat_of number count m → Drew seat_of ticket m m1 → IsInside seat_of ticket found m1 m2
      → Took seat_of (known lock m) (known lock m2) found ticket (unwrap_or number (ticket + 1)) count
  took m m1 m2 lock number count ticket found sound drew within = record {
    continues = subst (λ l. StartsWith found l) (ap (λ (y : Sat T I). y.0.seen) drew.is) within.continues;
    own_is = own_found m m1 m2 number count ticket found sound drew within;
    counted = sound.counts ∙ ap length (sym (own_found m m1 m2 number count ticket found sound drew within));
    later = drew.later;
    seat_is = ap (λ o. unwrap_or o (ticket + 1)) sound.numbered;
    after_is = ap (known lock) within.is ∙ (ap (λ (y : Sat T I). known {T = T} lock (entered_view y.0 ticket found, (0, None) ∷ [])) drew.is ∙ ap (λ o. taking ticket (unwrap_or o (ticket + 1)) found (known lock m)) (sym sound.numbered));
  }

  pub took_sound : (m m1 m2 : Sat T I) (number : Option ℕ) (count ticket : ℕ) (found : List I) → IsSound seat_of number count m → Drew seat_of ticket m m1 → IsInside seat_of ticket found m1 m2
      → IsSound seat_of (Some (unwrap_or number (ticket + 1))) count m2
  took_sound m m1 m2 number count ticket found sound drew within =
      let is : m2 ≡ (entered_view (drew_view m.0 ticket) ticket found, (0, None) ∷ []) = within.is ∙ ap (λ (y : Sat T I). (entered_view y.0 ticket found, (0, None) ∷ [])) drew.is in
      subst (λ (y : Sat T I). IsSound seat_of (Some (unwrap_or number (ticket + 1))) count y) (sym is) record {
        rests = refl;
        quiet = sound.quiet;
        numbered = ap (λ o. Some (unwrap_or o (ticket + 1))) sound.numbered;
        counts = sound.counts ∙ ap length (sym (own_found m m1 m2 number count ticket found sound drew within) ∙ ap (λ o. own seat_of (unwrap_or o (ticket + 1)) found) sound.numbered);
      }

  -- what a give leaves
  pub gave_sound : (lock : TableId) (k : Known I) (m back m' : Sat T I) (number : Option ℕ) (count seat found ticket : ℕ) (after : List I) → known lock m ≡ k → IsSound seat_of number count m
      → k.seat ≡ Some seat → GrownBy seat_of seat k.seen after → found ≡ length k.seen → back ≡ (back_view m.0 ticket after, []) → m' ≡ (served_view back.0, []) → IsSound seat_of number (count + (length after - found)) m'
  gave_sound lock k m back m' number count seat found ticket after view sound sits grown len put is = subst (λ (y : Sat T I). IsSound seat_of number (count + (length after - found)) y) (sym (is ∙ ap (λ (y : Sat T I). (served_view y.0, [])) put)) record {
    rests = refl;
    quiet = sound.quiet;
    numbered = sound.numbered;
    counts = counted seat_of k.seen after seat count found grown (own_count lock k m number count seat view sound sits) len ∙ ap length (sym (ap (λ o. own_of seat_of o after) (ap (λ (x : Known I). x.seat) view ∙ sits)));
  }

  pub count_fits : (lock : TableId) (k : Known I) (m : Sat T I) (number : Option ℕ) (count seat found : ℕ) (after : List I) → known lock m ≡ k → IsSound seat_of number count m
      → k.seat ≡ Some seat → GrownBy seat_of seat k.seen after → found ≡ length k.seen → count + (length after - found) ≤ length after
  count_fits lock k m number count seat found after view sound sits grown len =
      omega (arith, own_count lock k m number count seat view sound sits, own-le seat_of seat k.seen, ap length grown.1, length-append k.seen grown.0, len)

  -- in a meeting the own items stay
  pub met_own : (v u : View I) (slots : List (ℕ × Option (Turned T))) (m m' : Sat T I) → m ≡ (told_view v u, slots) → Learned seat_of m m' → own_of seat_of v.seat v.seen ≡ own_of seat_of m'.0.seat m'.0.seen
  met_own v u slots m m' is learned = by_seat v.seat refl ∙ ap (λ (y : Sat T I). own_of seat_of y.0.seat y.0.seen) (sym now)
    where
      now : m' ≡ (learned_view (told_view v u), slots)
      now = learned.is ∙ ap (λ (y : Sat T I). (learned_view y.0, y.1)) is

      by_seat : (was : Option ℕ) → v.seat ≡ was → own_of seat_of v.seat v.seen ≡ own_of seat_of v.seat (longer v.seen u.seen)
      by_seat None e = ap (λ o. own_of seat_of o v.seen) e ∙ ap (λ o. own_of seat_of o (longer v.seen u.seen)) (sym e)
      by_seat (Some k) e =
          ap (λ o. own_of seat_of o v.seen) e ∙ (ap (own seat_of k) (sym (ap (λ (y : Sat T I). y.0.seen) is)) ∙ (sym (learned.own_is k (ap (λ (y : Sat T I). y.0.seat) is ∙ e)) ∙ (ap (λ (y : Sat T I). own seat_of k y.0.seen) now ∙ ap (λ o. own_of seat_of o (longer v.seen u.seen)) (sym e))))

  -- what a meeting leaves
  pub met_sound : (v u : View I) (slots : List (ℕ × Option (Turned T))) (m m' : Sat T I) (number : Option ℕ) (count : ℕ) → IsSound seat_of number count (v, slots) → m ≡ (told_view v u, slots) → Learned seat_of m m' → IsSound seat_of number count m'
  met_sound v u slots m m' number count sound is learned =
      let now : m' ≡ (learned_view (told_view v u), slots) = learned.is ∙ ap (λ (y : Sat T I). (learned_view y.0, y.1)) is in
      subst (λ (y : Sat T I). IsSound seat_of number count y) (sym now) record {
        rests = sound.rests;
        quiet = refl;
        numbered = sound.numbered;
        counts = sound.counts ∙ ap length (met_own v u slots m m' is learned ∙ ap (λ (y : Sat T I). own_of seat_of y.0.seat y.0.seen) now);
      }

  -- the first pass
  pub first_sound : (m : Sat T I) (count : ℕ) (items : List I) → m ≡ (first_view items, []) → count ≡ length items → AreOf seat_of 0 items → IsSound seat_of (Some 0) count m
  first_sound m count items is len all = subst (λ (y : Sat T I). IsSound seat_of (Some 0) count y) (sym is) record { rests = refl; quiet = refl; numbered = refl; counts = len ∙ ap length (sym (own_all seat_of 0 items all)) }
