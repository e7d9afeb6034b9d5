-- Views without those that are equal to the one before them.
use Rattle.std.proofs.Common.{◌≡◌, ℕ, ◌≤◌, List, [], ◌∷◌, ◌++◌, Bool, true, false, ◌||◌, refl, sym, ap, ◌∙◌, subst, arith, None, map, length, drop, append-nil}
use Rattle.std.specs.Prelude.{if◌then◌else◌}
use Rattle.std.specs.List.{list_any}
use Rattle.ck_base.specs.declared.key.ZoneKey.{ZoneKey}
use Rattle.ck_base.specs.declared.scope.Scope.{Scope}
use Rattle.record_model.specs.declared.view.View.{View}
use Rattle.zone_model.specs.declared.commits.Commit.{Commit}
use Rattle.zone_model.specs.Names.{same, is_in}
use Rattle.zone_model.specs.Records.{record_at}
use Rattle.zone_model.specs.Same.{same_view}
use Rattle.zone_model.specs.Views.{view_of, views_at_fronts, changes_after, without_repeats, views_of, fronts, last_view}
use Rattle.zone_model.specs.Entries.{entries, changed}
use Rattle.zone_model.specs.Pages.{page, page_from}
use Rattle.name_rules.specs.Choices.{choice}
use Rattle.zone_laws.specs.Copies.{Copy, IsInStep, fold_page}
use Rattle.zone_laws.specs.Laws.{RepeatsAreDropped, ViewsGrow, CopiesStayInStep, NothingIsInStep}
use Rattle.zone_laws.proofs.SameLaws.{view-true}
use Rattle.zone_laws.proofs.LogLaws.{views-snoc}
use Rattle.zone_laws.proofs.EntryLaws.{changed-none, last_view-at, entries-more}
use Rattle.zone_laws.proofs.PageLaws.{page_in_step}
use Rattle.zone_laws.proofs.StepLaws.{in_step-grows, nothing_seen}

-- ---- what stays the same

entries_step : (b : Bool) (v w : View) (vs : List View) → same_view v w ≡ b → entries (w ∷ changes_after w vs) ≡ entries (w ∷ vs)
    → entries (v ∷ (if b then changes_after w vs else w ∷ changes_after w vs)) ≡ changed v w ++ entries (w ∷ vs)
entries_step true v w vs is ih =
    let one = view-true v w is in
    ap (λ u. entries (u ∷ changes_after w vs)) one ∙ ih ∙ ap (λ es. es ++ entries (w ∷ vs)) (sym (ap (λ u. changed u w) one ∙ changed-none w))
entries_step false v w vs is ih = ap (λ es. changed v w ++ es) ih

entries_after : (v : View) (vs : List View) → entries (v ∷ changes_after v vs) ≡ entries (v ∷ vs)
entries_after v [] = refl
entries_after v (w ∷ vs) = entries_step (same_view v w) v w vs refl (entries_after w vs)

pub entries-same : (vs : List View) → entries (without_repeats vs) ≡ entries vs
entries-same [] = refl
entries-same (v ∷ vs) = entries_after v vs

last_step : (b : Bool) (v w : View) (vs : List View) → same_view v w ≡ b → last_view (w ∷ changes_after w vs) ≡ last_view (w ∷ vs)
    → last_view (v ∷ (if b then changes_after w vs else w ∷ changes_after w vs)) ≡ last_view (w ∷ vs)
last_step true v w vs is ih = ap (λ u. last_view (u ∷ changes_after w vs)) (view-true v w is) ∙ ih
last_step false v w vs is ih = ih

last_after : (v : View) (vs : List View) → last_view (v ∷ changes_after v vs) ≡ last_view (v ∷ vs)
last_after v [] = refl
last_after v (w ∷ vs) = last_step (same_view v w) v w vs refl (last_after w vs)

pub last-same : (vs : List View) → last_view (without_repeats vs) ≡ last_view vs
last-same [] = refl
last-same (v ∷ vs) = last_after v vs

pub page-same : (vs : List View) (n k : ℕ) → page (without_repeats vs) n k ≡ page vs n k
page-same vs n k i = page_from (last-same vs i).rows (choice same (entries-same vs i) n k)

abbrev pub any_here : List View → Bool
any_here vs = list_any (λ (v : View). v.here) vs

twice : (a b : Bool) → (a || b) ≡ (a || (a || b))
twice true b = refl
twice false b = refl

here_step : (b : Bool) (v w : View) (vs : List View) → same_view v w ≡ b → any_here (w ∷ changes_after w vs) ≡ any_here (w ∷ vs)
    → any_here (v ∷ (if b then changes_after w vs else w ∷ changes_after w vs)) ≡ (v.here || any_here (w ∷ vs))
here_step true v w vs is ih =
    let one = view-true v w is in
    ap (λ (u : View). u.here || any_here (changes_after w vs)) one ∙ ih ∙ twice w.here (any_here vs) ∙ sym (ap (λ (u : View). u.here || (w.here || any_here vs)) one)
here_step false v w vs is ih = ap (λ h. v.here || h) ih

here_after : (v : View) (vs : List View) → any_here (v ∷ changes_after v vs) ≡ any_here (v ∷ vs)
here_after v [] = refl
here_after v (w ∷ vs) = here_step (same_view v w) v w vs refl (here_after w vs)

pub here-same : (vs : List View) → any_here (without_repeats vs) ≡ any_here vs
here-same [] = refl
here-same (v ∷ vs) = here_after v vs

-- ---- neighbours differ

-- each view differs from the one before it
abbrev AreApart : View → List View → Type 0
AreApart v [] = Unit {0}
AreApart v (w ∷ vs) = (same_view v w ≡ false) × AreApart w vs

apart_step : (b : Bool) (v w : View) (vs : List View) → same_view v w ≡ b → AreApart w (changes_after w vs) → AreApart v (if b then changes_after w vs else w ∷ changes_after w vs)
apart_step true v w vs is all = subst (λ u. AreApart u (changes_after w vs)) (sym (view-true v w is)) all
apart_step false v w vs is all = (is, all)

apart_after : (v : View) (vs : List View) → AreApart v (changes_after v vs)
apart_after v [] = tt
apart_after v (w ∷ vs) = apart_step (same_view v w) v w vs refl (apart_after w vs)

apart_in : (u : View) (us ws : List View) (v w : View) → AreApart u (us ++ v ∷ w ∷ ws) → same_view v w ≡ false
apart_in u [] ws v w all = all.1.0
apart_in u (x ∷ us) ws v w all = apart_in x us ws v w all.1

abbrev AllApart : List View → Type 0
AllApart [] = Unit {0}
AllApart (v ∷ vs) = AreApart v vs

all_apart : (vs : List View) → AllApart (without_repeats vs)
all_apart [] = tt
all_apart (v ∷ vs) = apart_after v vs

apart_at : (us ws : List View) (v w : View) → AllApart (us ++ v ∷ w ∷ ws) → same_view v w ≡ false
apart_at [] ws v w all = all.0
apart_at (u ∷ us) ws v w all = apart_in u us ws v w all

pub repeats_dropped : RepeatsAreDropped
repeats_dropped = record {
  apart = λ vs us ws v w is. apart_at us ws v w (subst AllApart is (all_apart vs));
  same_entries = entries-same;
  same_last = last-same;
  same_page = page-same;
  same_here = here-same;
}

-- ---- one commit more

more_step : (b e : Bool) (w x : View) (vs : List View) → changes_after w (vs ++ x ∷ []) ≡ changes_after w vs ++ (if e then [] else x ∷ [])
    → (if b then changes_after w (vs ++ x ∷ []) else w ∷ changes_after w (vs ++ x ∷ [])) ≡ (if b then changes_after w vs else w ∷ changes_after w vs) ++ (if e then [] else x ∷ [])
more_step true e w x vs ih = ih
more_step false e w x vs ih = ap (λ us. w ∷ us) ih

after-snoc : (v : View) (vs : List View) (x : View) → changes_after v (vs ++ x ∷ []) ≡ changes_after v vs ++ (if same_view (last_view (v ∷ vs)) x then [] else x ∷ [])
after-snoc v [] x = refl
after-snoc v (w ∷ vs) x = more_step (same_view v w) (same_view (last_view (w ∷ vs)) x) w x vs (after-snoc w vs x)

-- the views of a log are not none
repeats_on : (log : List Commit) (u : List ℕ) (scope : Scope) (key : ZoneKey) (x : View)
    → without_repeats (views_at_fronts log u scope key ++ x ∷ []) ≡ views_of log u scope key ++ (if same_view (last_view (views_at_fronts log u scope key)) x then [] else x ∷ [])
repeats_on [] u scope key x = ap (λ vs. view_of [] u scope key ∷ vs) (after-snoc (view_of [] u scope key) [] x)
repeats_on (c ∷ log) u scope key x =
    ap (λ vs. view_of [] u scope key ∷ vs) (after-snoc (view_of [] u scope key) (map (λ front. view_of front u scope key) (map (λ front. c ∷ front) (fronts log))) x)

views-more : (log : List Commit) (c : Commit) (u : List ℕ) (scope : Scope) (key : ZoneKey)
    → views_of (log ++ c ∷ []) u scope key
    ≡ views_of log u scope key ++ (if same_view (view_of log u scope key) (view_of (log ++ c ∷ []) u scope key) then [] else view_of (log ++ c ∷ []) u scope key ∷ [])
views-more log c u scope key =
    let x = view_of (log ++ c ∷ []) u scope key in
    ap without_repeats (views-snoc log c u scope key) ∙ repeats_on log u scope key x
    ∙ ap (λ v. views_of log u scope key ++ (if same_view v x then [] else x ∷ [])) (last_view-at log u scope key)

entries_of-more : (log : List Commit) (c : Commit) (u : List ℕ) (scope : Scope) (key : ZoneKey)
    → entries (views_of (log ++ c ∷ []) u scope key) ≡ entries (views_of log u scope key) ++ changed (view_of log u scope key) (view_of (log ++ c ∷ []) u scope key)
entries_of-more log c u scope key =
    entries-same (views_at_fronts (log ++ c ∷ []) u scope key) ∙ entries-more log c u scope key
    ∙ ap (λ es. es ++ changed (view_of log u scope key) (view_of (log ++ c ∷ []) u scope key)) (sym (entries-same (views_at_fronts log u scope key)))

pub views_grow : ViewsGrow
views_grow = record {
  at_fronts = views-snoc;
  views = views-more;
  last = λ log u scope key. last-same (views_at_fronts log u scope key) ∙ last_view-at log u scope key;
  entries_more = entries_of-more;
  unseen = λ log c u scope key stays. entries_of-more log c u scope key
      ∙ ap (λ v. entries (views_of log u scope key) ++ changed v (view_of (log ++ c ∷ []) u scope key)) stays
      ∙ ap (λ es. entries (views_of log u scope key) ++ es) (changed-none (view_of (log ++ c ∷ []) u scope key)) ∙ append-nil (entries (views_of log u scope key));
}

-- ---- copies in step

step_out : (copy : Copy) (n : ℕ) (vs : List View) → IsInStep copy n (without_repeats vs) → IsInStep copy n vs
step_out copy n vs step = record {
  within = subst (λ es. n ≤ length es) (entries-same vs) step.within;
  each = λ x out. step.each x (ap (λ es. is_in (drop n es) x) (entries-same vs) ∙ out) ∙ ap (λ (v : View). record_at v.rows x) (last-same vs);
}

step_in : (copy : Copy) (n : ℕ) (vs : List View) → IsInStep copy n vs → IsInStep copy n (without_repeats vs)
step_in copy n vs step = record {
  within = subst (λ es. n ≤ length es) (sym (entries-same vs)) step.within;
  each = λ x out. step.each x (ap (λ es. is_in (drop n es) x) (sym (entries-same vs)) ∙ out) ∙ ap (λ (v : View). record_at v.rows x) (sym (last-same vs));
}

pub copies_in_step : CopiesStayInStep
copies_in_step more log u scope key copy n step =
    step_in copy n (views_at_fronts (log ++ more) u scope key) (in_step-grows more log u scope key copy n (step_out copy n (views_at_fronts log u scope key) step))

-- the page of a longer log
pub page_later : (log more : List Commit) (u : List ℕ) (scope : Scope) (key : ZoneKey) (copy : Copy) (n k : ℕ) → IsInStep copy n (views_of log u scope key)
    → IsInStep (fold_page copy (page (views_of (log ++ more) u scope key) n k).items) (page (views_of (log ++ more) u scope key) n k).number (views_of (log ++ more) u scope key)
page_later log more u scope key copy n k step = page_in_step (views_of (log ++ more) u scope key) copy n k (copies_in_step more log u scope key copy n step)

-- nobody sees anything before the first commit
pub nothing_in_step : NothingIsInStep
nothing_in_step log u scope key = copies_in_step log [] u scope key (λ x. None) 0
    (record { within = omega arith; each = λ x none. ap (λ rows. record_at rows x) (sym (nothing_seen u scope key)) })
