-- A copy that is in step with a number stays so as the log grows.
use Rattle.std.proofs.Common.{◌≡◌, ℕ, zero, suc, ◌≤◌, List, [], ◌∷◌, ◌++◌, Bool, true, false, cond, not, ◌||◌, if◌then◌else◌, refl, sym, ap, ◌∙◌, subst, arith, Some, None, map, length, drop, length-append, append-nil, append_assoc}
use Rattle.std.proofs.lemmas.Bool.{false_from_ne_true, true_from_ne_false, both_ways, or_parts}
use Rattle.std.proofs.lemmas.List.Folds.{list_any-append}
use Rattle.ck_base.specs.declared.key.ZoneKey.{ZoneKey}
use Rattle.ck_base.specs.declared.scope.Scope.{Scope}
use Rattle.record_model.specs.declared.records.Record.{Record}
use Rattle.record_model.specs.declared.view.View.{View}
use Rattle.zone_model.specs.declared.commits.Commit.{Commit}
use Rattle.ck_base.specs.declared.scope.Scope.TheVariants.{Private, Shared}
use Rattle.zone_model.specs.Names.{same, is_in, is_default, names_of_both}
use Rattle.zone_model.specs.Records.{record_at, names_in}
use Rattle.zone_model.specs.Same.{same_found}
use Rattle.zone_model.specs.Views.{nowhere, participant_view, view_of, views_at_fronts, fronts, last_view}
use Rattle.zone_model.specs.Zones.{first_zone}
use Rattle.zone_model.specs.Entries.{entries, changed}
use Rattle.zone_laws.specs.Copies.{Copy, IsInStep}
use Rattle.name_rules.proofs.NameLemmas.{kept, both_left, both_right}
use Rattle.zone_laws.proofs.SameLaws.{found-true}
use Rattle.zone_laws.proofs.EntryLaws.{entries-snoc, last_view-snoc}
use Rattle.zone_laws.proofs.LogLaws.{views-snoc}

nobody_step : (b : Bool) (r : Record) (rs : List Record) (x : List ℕ) → same x r.name ≡ b → (is_in (names_in rs) x ≡ false → record_at rs x ≡ None) → (b || is_in (names_in rs) x) ≡ false → cond b (Some r) (record_at rs x) ≡ None
nobody_step true r rs x is ih e = absurd (both_ways true e refl)
nobody_step false r rs x is ih e = ih e

-- a name that no record has
nobody : (rs : List Record) (x : List ℕ) → is_in (names_in rs) x ≡ false → record_at rs x ≡ None
nobody [] x e = refl
nobody (r ∷ rs) x e = nobody_step (same x r.name) r rs x refl (nobody rs x) e

-- where a name is not among the changed ones, its record is the same
pub unchanged : (v w : View) (x : List ℕ) → is_in (changed v w) x ≡ false → record_at v.rows x ≡ record_at w.rows x
unchanged v w x out = by_named (is_in (names_of_both (names_in v.rows) (names_in w.rows)) x) refl
  where
    by_named : (b : Bool) → is_in (names_of_both (names_in v.rows) (names_in w.rows)) x ≡ b → record_at v.rows x ≡ record_at w.rows x
    by_named true is = found-true (record_at v.rows x) (record_at w.rows x) (true_from_ne_false (same_found (record_at v.rows x) (record_at w.rows x)) (λ e. both_ways (is_in (changed v w) x) out
        (kept (λ y. not (same_found (record_at v.rows y) (record_at w.rows y))) (names_of_both (names_in v.rows) (names_in w.rows)) x (ap not e) is)))
    by_named false is =
        nobody v.rows x (false_from_ne_true (is_in (names_in v.rows) x) (λ e. both_ways (is_in (names_of_both (names_in v.rows) (names_in w.rows)) x) is (both_left (names_in v.rows) (names_in w.rows) x e)))
        ∙ sym (nobody w.rows x (false_from_ne_true (is_in (names_in w.rows) x) (λ e. both_ways (is_in (names_of_both (names_in v.rows) (names_in w.rows)) x) is (both_right (names_in v.rows) (names_in w.rows) x e))))

drop_front : (n : ℕ) (xs ys : List (List ℕ)) → n ≤ length xs → drop n (xs ++ ys) ≡ drop n xs ++ ys
drop_front zero xs ys le = refl
drop_front (suc n) [] ys le = absurd (omega (arith, le))
drop_front (suc n) (x ∷ xs) ys le = drop_front n xs ys (omega (arith, le))

-- one view more
pub in_step-snoc : (copy : Copy) (n : ℕ) (v : View) (vs : List View) (w : View) → IsInStep copy n (v ∷ vs) → IsInStep copy n ((v ∷ vs) ++ w ∷ [])
in_step-snoc copy n v vs w step = record {
  within = subst (λ es. n ≤ length es) (sym (entries-snoc v vs w)) (omega (arith, step.within, length-append (entries (v ∷ vs)) (changed (last_view (v ∷ vs)) w)));
  each = λ x out. parts x (or_parts (is_in (drop n (entries (v ∷ vs))) x) (is_in (changed (last_view (v ∷ vs)) w) x)
      (sym (list_any-append (same x) (drop n (entries (v ∷ vs))) (changed (last_view (v ∷ vs)) w)) ∙ subst (λ ys. is_in ys x ≡ false) (ap (drop n) (entries-snoc v vs w) ∙ drop_front n (entries (v ∷ vs)) (changed (last_view (v ∷ vs)) w) step.within) out));
}
  where
    parts : (x : List ℕ) → (is_in (drop n (entries (v ∷ vs))) x ≡ false) × (is_in (changed (last_view (v ∷ vs)) w) x ≡ false) → copy x ≡ record_at (last_view ((v ∷ vs) ++ w ∷ [])).rows x
    parts x h = step.each x h.0 ∙ unchanged (last_view (v ∷ vs)) w x h.1 ∙ ap (λ (u : View). record_at u.rows x) (sym (last_view-snoc (v ∷ vs) w))

-- the views of a log are not none
first_view : (log : List Commit) (u : List ℕ) (scope : Scope) (key : ZoneKey) (copy : Copy) (n : ℕ) (w : View) → IsInStep copy n (views_at_fronts log u scope key) → IsInStep copy n (views_at_fronts log u scope key ++ w ∷ [])
first_view [] u scope key copy n w step = in_step-snoc copy n (view_of [] u scope key) [] w step
first_view (c ∷ log) u scope key copy n w step = in_step-snoc copy n (view_of [] u scope key) (map (λ front. view_of front u scope key) (map (λ front. c ∷ front) (fronts log))) w step

-- one commit more, of whatever zone
pub in_step-commit : (log : List Commit) (c : Commit) (u : List ℕ) (scope : Scope) (key : ZoneKey) (copy : Copy) (n : ℕ) → IsInStep copy n (views_at_fronts log u scope key) → IsInStep copy n (views_at_fronts (log ++ c ∷ []) u scope key)
in_step-commit log c u scope key copy n step = subst (IsInStep copy n) (sym (views-snoc log c u scope key)) (first_view log u scope key copy n (view_of (log ++ c ∷ []) u scope key) step)

-- any further commits
pub in_step-grows : (more : List Commit) (log : List Commit) (u : List ℕ) (scope : Scope) (key : ZoneKey) (copy : Copy) (n : ℕ) → IsInStep copy n (views_at_fronts log u scope key) → IsInStep copy n (views_at_fronts (log ++ more) u scope key)
in_step-grows [] log u scope key copy n step = subst (λ l. IsInStep copy n (views_at_fronts l u scope key)) (sym (append-nil log)) step
in_step-grows (c ∷ more) log u scope key copy n step = subst (λ l. IsInStep copy n (views_at_fronts l u scope key)) (append_assoc log (c ∷ []) more) (in_step-grows more (log ++ c ∷ []) u scope key copy n (in_step-commit log c u scope key copy n step))

-- ---- a copy of nothing

own_nothing : (own default : Bool) → (if own then (if default then record { here = true; rows = [] } else nowhere) else nowhere).rows ≡ []
own_nothing true true = refl
own_nothing true false = refl
own_nothing false default = refl

others_nothing : (away : Bool) (u : List ℕ) (key : ZoneKey) → (if away then nowhere else participant_view (first_zone key) u).rows ≡ []
others_nothing true u key = refl
others_nothing false u key = refl

-- nobody sees anything before the first commit
pub nothing_seen : (u : List ℕ) (scope : Scope) (key : ZoneKey) → (view_of [] u scope key).rows ≡ []
nothing_seen u Private key = own_nothing (same u key.owner) (is_default key)
nothing_seen u Shared key = others_nothing (same u key.owner || is_default key) u key
