-- Entries after one view more, and after equal views.
use Rattle.std.proofs.Common.{◌≡◌, ℕ, List, [], ◌∷◌, ◌++◌, Bool, true, false, cond, not, ◌&&◌, refl, sym, ap, subst, ◌∙◌, append-nil, append_assoc, map}
use Rattle.std.specs.Prelude.{filter, if◌then◌else◌}
use Rattle.ck_base.specs.declared.key.ZoneKey.{ZoneKey}
use Rattle.ck_base.specs.declared.scope.Scope.{Scope}
use Rattle.record_model.specs.declared.view.View.{View}
use Rattle.zone_model.specs.declared.commits.Commit.{Commit}
use Rattle.zone_model.specs.Names.{names_of_both, is_default}
use Rattle.zone_model.specs.Records.{record_at, names_in}
use Rattle.zone_model.specs.Same.{same_found, same_view}
use Rattle.zone_model.specs.Views.{view_of, views_at_fronts, fronts, last_view}
use Rattle.zone_model.specs.Entries.{entries, changed}
use Rattle.zone_model.specs.ZoneEntries.{is_noticed, zone_entries_after, zone_entries}
use Rattle.zone_laws.specs.Laws.{EqualViewsGiveNone, ZoneEntriesGrow}
use Rattle.zone_laws.proofs.SameLaws.{found-refl, view-refl}
use Rattle.zone_laws.proofs.LogLaws.{views-snoc}

-- one view more adds the names that it changes
pub entries-snoc : (v : View) (vs : List View) (w : View) → entries ((v ∷ vs) ++ w ∷ []) ≡ entries (v ∷ vs) ++ changed (last_view (v ∷ vs)) w
entries-snoc v [] w = append-nil (changed v w)
entries-snoc v (u ∷ vs) w = ap (λ es. changed v u ++ es) (entries-snoc u vs w) ∙ sym (append_assoc (changed v u) (entries (u ∷ vs)) (changed (last_view (u ∷ vs)) w))

pub last_view-snoc : (vs : List View) (w : View) → last_view (vs ++ w ∷ []) ≡ w
last_view-snoc [] w = refl
last_view-snoc (v ∷ []) w = refl
last_view-snoc (v ∷ u ∷ vs) w = last_view-snoc (u ∷ vs) w

-- ---- of a log

-- the log as a list that grows at its end
pub data Grown {X : Type 0} : List X → Type 0 where
  empty : Grown []
  one_more : (xs : List X) (x : X) → Grown xs → Grown (xs ++ x ∷ [])

grown_on : {X : Type 0} (x : X) (xs : List X) → Grown xs → Grown (x ∷ xs)
grown_on x _ empty = one_more [] x empty
grown_on x _ (one_more ys y before) = one_more (x ∷ ys) y (grown_on x ys before)

pub grown : {X : Type 0} (xs : List X) → Grown xs
grown [] = empty
grown (x ∷ xs) = grown_on x xs (grown xs)

last_grown : (log : List Commit) (u : List ℕ) (scope : Scope) (key : ZoneKey) → Grown log → last_view (views_at_fronts log u scope key) ≡ view_of log u scope key
last_grown _ u scope key empty = refl
last_grown _ u scope key (one_more log c before) = ap last_view (views-snoc log c u scope key) ∙ last_view-snoc (views_at_fronts log u scope key) (view_of (log ++ c ∷ []) u scope key)

pub last_view-at : (log : List Commit) (u : List ℕ) (scope : Scope) (key : ZoneKey) → last_view (views_at_fronts log u scope key) ≡ view_of log u scope key
last_view-at log u scope key = last_grown log u scope key (grown log)

-- the views of a log are not none
entries_on : (log : List Commit) (u : List ℕ) (scope : Scope) (key : ZoneKey) (w : View) → entries (views_at_fronts log u scope key ++ w ∷ []) ≡ entries (views_at_fronts log u scope key) ++ changed (last_view (views_at_fronts log u scope key)) w
entries_on [] u scope key w = entries-snoc (view_of [] u scope key) [] w
entries_on (c ∷ log) u scope key w = entries-snoc (view_of [] u scope key) (map (λ front. view_of front u scope key) (map (λ front. c ∷ front) (fronts log))) w

pub entries-more : (log : List Commit) (c : Commit) (u : List ℕ) (scope : Scope) (key : ZoneKey)
    → entries (views_at_fronts (log ++ c ∷ []) u scope key) ≡ entries (views_at_fronts log u scope key) ++ changed (view_of log u scope key) (view_of (log ++ c ∷ []) u scope key)
entries-more log c u scope key = ap entries (views-snoc log c u scope key) ∙ entries_on log u scope key (view_of (log ++ c ∷ []) u scope key)
    ∙ ap (λ v. entries (views_at_fronts log u scope key) ++ changed v (view_of (log ++ c ∷ []) u scope key)) (last_view-at log u scope key)

-- ---- equal views

none_kept : {X : Type 0} (alike : X → Bool) → ((x : X) → alike x ≡ true) → (xs : List X) → filter (λ x. not (alike x)) xs ≡ []
none_kept alike all [] = refl
none_kept alike all (x ∷ xs) = ap (λ b. cond (not b) (x ∷ filter (λ y. not (alike y)) xs) (filter (λ y. not (alike y)) xs)) (all x) ∙ none_kept alike all xs

pub changed-none : (v : View) → changed v v ≡ []
changed-none v = none_kept (λ x. same_found (record_at v.rows x) (record_at v.rows x)) (λ x. found-refl (record_at v.rows x)) (names_of_both (names_in v.rows) (names_in v.rows))

pub equal_give_none : EqualViewsGiveNone
equal_give_none [] v vs = ap (λ es. es ++ entries (v ∷ vs)) (changed-none v)
equal_give_none (u ∷ []) v vs = ap (λ es. changed u v ++ (es ++ entries (v ∷ vs))) (changed-none v)
equal_give_none (u ∷ w ∷ us) v vs = ap (λ es. changed u w ++ es) (equal_give_none (w ∷ us) v vs)

-- ---- zones that changed

feed_on : (u : List ℕ) (scope : Scope) (before log : List Commit) (c : Commit)
    → zone_entries_after u scope before (log ++ c ∷ []) ≡ zone_entries_after u scope before log ++ (if is_noticed u scope (before ++ log) c then c.key ∷ [] else [])
feed_on u scope before [] c = append-nil (if is_noticed u scope before c then c.key ∷ [] else [])
    ∙ ap (λ done. if is_noticed u scope done c then c.key ∷ [] else []) (sym (append-nil before))
feed_on u scope before (d ∷ log) c =
    let one : List ZoneKey = if is_noticed u scope before d then d.key ∷ [] else [] in
    ap (λ keys. one ++ keys) (feed_on u scope (before ++ d ∷ []) log c)
    ∙ ap (λ done. one ++ (zone_entries_after u scope (before ++ d ∷ []) log ++ (if is_noticed u scope done c then c.key ∷ [] else []))) (append_assoc before (d ∷ []) log)
    ∙ sym (append_assoc one (zone_entries_after u scope (before ++ d ∷ []) log) (if is_noticed u scope (before ++ d ∷ log) c then c.key ∷ [] else []))

-- where the view stays as it was nothing is noticed
unnoticed : (a b : Bool) → b ≡ true → (a && not b) ≡ false
unnoticed true b same = ap not same
unnoticed false b same = refl

pub zone_entries_grow : ZoneEntriesGrow
zone_entries_grow = record {
  more = λ log c u scope. feed_on u scope [] log c;
  unseen = λ log c u scope same.
      let before = view_of log u scope c.key in
      let alike : same_view before (view_of (log ++ c ∷ []) u scope c.key) ≡ true = subst (λ v. same_view before v ≡ true) same (view-refl before) in
      feed_on u scope [] log c
      ∙ ap (λ b. zone_entries log u scope ++ (if b then c.key ∷ [] else [])) (unnoticed (not (is_default c.key)) _ alike)
      ∙ append-nil (zone_entries log u scope);
}
