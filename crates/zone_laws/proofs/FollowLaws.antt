-- Pages, feeds and what was seen, as histories grow.
use Rattle.std.proofs.Common.{◌≡◌, ℕ, zero, suc, List, [], ◌∷◌, ◌++◌, Bool, true, false, cond, not, ◌&&◌, ◌||◌, refl, sym, ap, ◌∙◌, subst, ⊎_elim, append_assoc, append-nil, drop, take, map, arith, Some, None}
use Rattle.std.specs.Prelude.{filter, length, if◌then◌else◌}
use Rattle.std.specs.List.{list_any, AllByRecursion}
use Rattle.std.proofs.lemmas.Bool.{both_ways, or_left, or_right, false_from_ne_true}
use Rattle.std.proofs.lemmas.List.{drop_all}
use Rattle.std.proofs.lemmas.List.Folds.{list_any-append}
use Rattle.name_rules.specs.LiveEntries.{Entry}
use Rattle.name_rules.proofs.ChoiceLemmas.{listed_within, live_above-drop, chosen_all, chosen_kept}
use Rattle.ck_base.specs.declared.key.ZoneKey.{ZoneKey}
use Rattle.ck_base.specs.declared.scope.Scope.{Scope}
use Rattle.ck_base.specs.declared.scope.Scope.TheVariants.{Private, Shared}
use Rattle.record_model.specs.declared.records.Record.{Record}
use Rattle.record_model.specs.declared.view.View.{View}
use Rattle.name_rules.proofs.NameLemmas.{same-refl, kept, both_right}
use Rattle.zone_model.specs.declared.commits.Commit.{Commit}
use Rattle.zone_model.specs.declared.events.Event.{Event}
use Rattle.zone_model.specs.declared.commits.Act.{Act}
use Rattle.zone_model.specs.declared.commits.Act.TheVariants.{Writes, MakeZone, DropZone, SetSubscription, DropSubscription}
use Rattle.zone_model.specs.Names.{same, same_key, is_default, is_in, names_of_both}
use Rattle.zone_model.specs.Records.{record_at, names_in}
use Rattle.zone_model.specs.Same.{same_found}
use Rattle.zone_model.specs.Zones.{Zone, first_zone, zone_at, after_act}
use Rattle.zone_model.specs.Entries.{entries, changed}
use Rattle.zone_model.specs.Views.{is_empty, nowhere, owner_view, participant_view, view_of, views_of, views_at_fronts, was_seen}
use Rattle.zone_model.specs.Pages.{page}
use Rattle.zone_model.specs.ZoneEntries.{zone_entries, zone_page, is_noticed}
use Rattle.zone_model.specs.ZoneFeed.{ChangedZone, changed_zone}
use Rattle.zone_model.specs.Events.{commits_of, log_of}
use Rattle.zone_laws.specs.Copies.{IsInStep, fold_page}
use Rattle.zone_laws.specs.Following.{PagesHold, is_due, FeedsTellAll, makes_zone, SeenIsTold}
use Rattle.zone_laws.proofs.LogLaws.{zone-snoc, views-snoc}
use Rattle.zone_laws.proofs.EntryLaws.{Grown, empty, one_more, grown, zone_entries_grow}
use Rattle.zone_laws.proofs.StepLaws.{nothing_seen}
use Rattle.zone_laws.proofs.FormedLaws.{key-true}
use Rattle.zone_laws.proofs.PageLaws.{page_is_view}
use Rattle.zone_laws.proofs.RepeatLaws.{copies_in_step, page_later, views_grow, here-same, any_here}

-- ---- pages

log-append : (old more : List Event) → log_of (old ++ more) ≡ log_of old ++ log_of more
log-append [] more = refl
log-append (e ∷ old) more = ap (λ l. commits_of e ++ l) (log-append old more) ∙ sym (append_assoc (commits_of e) (log_of old) (log_of more))

pub pages_hold : PagesHold
pages_hold old new u scope key copy n k front step =
    let log = log_of old in
    let more = log_of front.more in
    let is : log_of new ≡ log ++ more = ap log_of front.grown ∙ log-append old front.more in
    subst
    (λ l. IsInStep (fold_page copy (page (views_of l u scope key) n k).items) (page (views_of l u scope key) n k).number (views_of l u scope key)
    × ((page (views_of l u scope key) n k).more ≡ false → (x : List ℕ) → fold_page copy (page (views_of l u scope key) n k).items x ≡ record_at (view_of l u scope key).rows x))
    (sym is) (
      page_later log more u scope key copy n k step,
      λ none x. page_is_view (views_of (log ++ more) u scope key) copy n k (copies_in_step more log u scope key copy n step) none x
          ∙ ap (λ (v : View). record_at v.rows x) (views_grow.last (log ++ more) u scope key),
    )

-- ---- the feed

module _ (u : List ℕ) (scope : Scope) where
  only_due : (log : List Commit) (n k : ℕ) (key : ZoneKey) → list_any (same_key key) (zone_page log u scope n k).names ≡ true → is_due log u scope n key ≡ true
  only_due log n k key e = listed_within same_key key-true (zone_entries log u scope) n k key
      (subst (λ (live : List (Entry ZoneKey)). list_any (same_key key) (map (λ (f : Entry ZoneKey). f.name) (take k live)) ≡ true) (live_above-drop same_key key-true n (zone_entries log u scope)) e)

  none_left : (ys : List ZoneKey) (m : ℕ) (key : ZoneKey) → m ≡ length ys → list_any (same_key key) (drop m ys) ≡ false
  none_left ys m key e = ap (λ j. list_any (same_key key) (drop j ys)) e ∙ ap (list_any (same_key key)) (drop_all (length ys) ys (omega arith))

  all_due : (log : List Commit) (n k : ℕ) (key : ZoneKey) → (zone_page log u scope n k).more ≡ false → is_due log u scope n key ≡ true → list_any (same_key key) (zone_page log u scope n k).names ≡ true
  all_due log n k key none due = ⊎_elim
      (λ (h : list_any (same_key key) (zone_page log u scope n k).names ≡ true). h)
      (λ (h : list_any (same_key key) (drop (zone_page log u scope n k).number (zone_entries log u scope)) ≡ true).
      absurd (both_ways _ (none_left (zone_entries log u scope) (zone_page log u scope n k).number key (chosen_all same_key key-true (zone_entries log u scope) n k none)) h))
      (chosen_kept same_key key-true (zone_entries log u scope) n k key due)

  keys_told : (log : List Commit) (keys : List ZoneKey) → map (λ (z : ChangedZone). z.key) (map (changed_zone u scope log) keys) ≡ keys
  keys_told log [] = refl
  keys_told log (key ∷ keys) = ap (λ ks. key ∷ ks) (keys_told log keys)

  here_told : (log : List Commit) (keys : List ZoneKey) → AllByRecursion (λ (z : ChangedZone). z.here ≡ (view_of log u scope z.key).here) (map (changed_zone u scope log) keys)
  here_told log [] = tt
  here_told log (key ∷ keys) = (refl, here_told log keys)

  dropped_more : (n : ℕ) (xs ys : List ZoneKey) (key : ZoneKey) → list_any (same_key key) (drop n xs) ≡ true → list_any (same_key key) (drop n (xs ++ ys)) ≡ true
  dropped_more zero xs ys key e = list_any-append (same_key key) xs ys ∙ or_left (list_any (same_key key) xs) _ e
  dropped_more (suc n) [] ys key e = absurd (both_ways false refl e)
  dropped_more (suc n) (x ∷ xs) ys key e = dropped_more n xs ys key e

  due_grows : (more log : List Commit) (n : ℕ) (key : ZoneKey) → is_due log u scope n key ≡ true → is_due (log ++ more) u scope n key ≡ true
  due_grows [] log n key e = ap (λ l. is_due l u scope n key) (append-nil log) ∙ e
  due_grows (c ∷ more) log n key e =
      let one : is_due (log ++ c ∷ []) u scope n key ≡ true = ap (λ es. list_any (same_key key) (drop n es)) (zone_entries_grow.more log c u scope)
      ∙ dropped_more n (zone_entries log u scope) (if is_noticed u scope log c then c.key ∷ [] else []) key e in
      ap (λ l. is_due l u scope n key) (sym (append_assoc log (c ∷ []) more)) ∙ due_grows more (log ++ c ∷ []) n key one

pub feeds_tell_all : FeedsTellAll
feeds_tell_all = record {
  only = λ log u scope n k key e. only_due u scope log n k key e;
  all = λ log u scope n k key none e. all_due u scope log n k key none e;
  keys = λ log u scope n k. keys_told u scope log (zone_page log u scope n k).names;
  here = λ log u scope n k. here_told u scope log (zone_page log u scope n k).names;
  due = λ log more u scope n key e. due_grows u scope more log n key e;
}

-- ---- what was seen

or_none : (b : Bool) → (b || false) ≡ b
or_none true = refl
or_none false = refl

any_last : {X : Type 0} (p : X → Bool) (xs : List X) (x : X) → list_any p (xs ++ x ∷ []) ≡ (list_any p xs || p x)
any_last p xs x = list_any-append p xs (x ∷ []) ∙ ap (λ b. list_any p xs || b) (or_none (p x))

seen_start : (u : List ℕ) (scope : Scope) (key : ZoneKey) → was_seen [] u scope key ≡ (view_of [] u scope key).here
seen_start u scope key = or_none (view_of [] u scope key).here

seen_more : (log : List Commit) (c : Commit) (u : List ℕ) (scope : Scope) (key : ZoneKey) → was_seen (log ++ c ∷ []) u scope key ≡ (was_seen log u scope key || (view_of (log ++ c ∷ []) u scope key).here)
seen_more log c u scope key =
    here-same (views_at_fronts (log ++ c ∷ []) u scope key)
    ∙ ap any_here (views-snoc log c u scope key)
    ∙ list_any-append (λ (v : View). v.here) (views_at_fronts log u scope key) (view_of (log ++ c ∷ []) u scope key ∷ [])
    ∙ ap (λ b. any_here (views_at_fronts log u scope key) || b) (or_none (view_of (log ++ c ∷ []) u scope key).here)
    ∙ ap (λ b. b || (view_of (log ++ c ∷ []) u scope key).here) (sym (here-same (views_at_fronts log u scope key)))

-- whoever has a zone here has seen it
here_grown : (log : List Commit) → Grown log → (u : List ℕ) (scope : Scope) (key : ZoneKey) → (view_of log u scope key).here ≡ true → was_seen log u scope key ≡ true
here_grown _ empty u scope key e = seen_start u scope key ∙ e
here_grown _ (one_more log c before) u scope key e = seen_more log c u scope key ∙ or_right (was_seen log u scope key) _ e

-- in the private scope

owned_by : (b : Bool) (z : Zone) → (if b then owner_view z else nowhere).here ≡ (b && z.there)
owned_by true z = by z.there
  where
    by : (t : Bool) → (if t then record { here = true; rows = z.rows } else nowhere).here ≡ t
    by true = refl
    by false = refl
owned_by false z = refl

there_by : (k : Bool) (a : Act) (z : Zone) → (o s : Bool) → (o && z.there ≡ true → s ≡ true) → (s || (o && (if k then after_act z a else z).there)) ≡ (s || (o && (k && makes_zone a)))
there_by k a z false s seen = refl
there_by k a z true true seen = refl
there_by false a z true false seen = false_from_ne_true z.there (λ t. both_ways false refl (seen t))
there_by true (Writes ws) z true false seen = false_from_ne_true z.there (λ t. both_ways false refl (seen t))
there_by true MakeZone z true false seen = refl
there_by true DropZone z true false seen = refl
there_by true (SetSubscription s) z true false seen = false_from_ne_true z.there (λ t. both_ways false refl (seen t))
there_by true (DropSubscription scope id) z true false seen = false_from_ne_true z.there (λ t. both_ways false refl (seen t))

or_of : (o d m n : Bool) → ((o && (d || m)) || (o && n)) ≡ (o && (d || (m || n)))
or_of false d m n = refl
or_of true true m n = refl
or_of true false m n = refl

seen_private : (log : List Commit) → Grown log → (u : List ℕ) (key : ZoneKey)
    → was_seen log u Private key ≡ (same u key.owner && (is_default key || list_any (λ (c : Commit). same_key key c.key && makes_zone c.act) log))
seen_private _ empty u key = seen_start u Private key ∙ owned_by (same u key.owner) (first_zone key) ∙ ap (λ b. same u key.owner && b) (sym (or_none (is_default key)))
seen_private _ (one_more log c before) u key =
    let owner = same u key.owner in
    let made : Bool = list_any (λ (d : Commit). same_key key d.key && makes_zone d.act) log in
    seen_more log c u Private key
    ∙ ap (λ b. was_seen log u Private key || b) (owned_by owner (zone_at (log ++ c ∷ []) key) ∙ ap (λ (z : Zone). owner && z.there) (zone-snoc log c key))
    ∙ there_by (same_key key c.key) c.act (zone_at log key) owner (was_seen log u Private key) (λ e. here_grown log before u Private key (owned_by owner (zone_at log key) ∙ e))
    ∙ ap (λ b. b || (owner && (same_key key c.key && makes_zone c.act))) (seen_private log before u key)
    ∙ or_of owner (is_default key) made (same_key key c.key && makes_zone c.act)
    ∙ ap (λ b. owner && (is_default key || b)) (sym (any_last (λ (d : Commit). same_key key d.key && makes_zone d.act) log c))

-- in the shared scope

hidden_or_empty : (hidden : Bool) (z : Zone) (u : List ℕ) → (if hidden then nowhere else participant_view z u).here ≡ not (is_empty (if hidden then nowhere else participant_view z u).rows)
hidden_or_empty true z u = refl
hidden_or_empty false z u = refl

-- a zone is here just where something of it is seen
here_shared : (log : List Commit) (u : List ℕ) (key : ZoneKey) → (view_of log u Shared key).here ≡ not (is_empty (view_of log u Shared key).rows)
here_shared log u key = hidden_or_empty (same u key.owner || is_default key) (zone_at log key) u

some_in : (x : List ℕ) (names : List (List ℕ)) → is_in names x ≡ true → is_empty names ≡ false
some_in x [] e = absurd (both_ways false refl e)
some_in x (y ∷ names) e = refl

still_none : (v w : View) → v.rows ≡ [] → w.rows ≡ [] → is_empty (changed v w) ≡ true
still_none v w none nothing i = is_empty (filter (λ x. not (same_found (record_at (none i) x) (record_at (nothing i) x))) (names_of_both (names_in (none i)) (names_in (nothing i))))

-- what is seen first of a zone of which nothing was seen is an entry
first_seen : (v w : View) → v.rows ≡ [] → not (is_empty w.rows) ≡ true → is_empty (changed v w) ≡ false
first_seen v w none some = by w.rows refl some
  where
    by : (rows : List Record) → w.rows ≡ rows → not (is_empty rows) ≡ true → is_empty (changed v w) ≡ false
    by [] is e = absurd (both_ways false refl e)
    by (r ∷ rows) is e = some_in r.name (changed v w)
        (kept (λ x. not (same_found (record_at v.rows x) (record_at w.rows x))) (names_of_both (names_in v.rows) (names_in w.rows)) r.name
        ((λ i. not (same_found (record_at (none i) r.name) (record_at (is i) r.name))) ∙ ap (λ b. not (same_found None (cond b (Some r) (record_at rows r.name)))) (same-refl r.name))
        (both_right (names_in v.rows) (names_in w.rows) r.name (ap (λ (rs : List Record). is_in (names_in rs) r.name) is ∙ or_left (same r.name r.name) (is_in (names_in rows) r.name) (same-refl r.name))))

nothing_in : (rows : List Record) → not (is_empty rows) ≡ false → rows ≡ []
nothing_in [] e = refl
nothing_in (r ∷ rows) e = absurd (both_ways true e refl)

joined_empty : {X : Type 0} (xs ys : List X) → not (is_empty (xs ++ ys)) ≡ (not (is_empty xs) || not (is_empty ys))
joined_empty [] ys = refl
joined_empty (x ∷ xs) ys = refl

shared_by : (s h : Bool) (e f : Bool) → s ≡ e → (s ≡ false → h ≡ true → f ≡ true) → (h ≡ false → s ≡ false → f ≡ false) → (s || h) ≡ (e || f)
shared_by true h e f is new old = ap (λ b. b || f) is
shared_by false true e f is new old = sym (ap (λ b. b || f) (sym is) ∙ new refl refl)
shared_by false false e f is new old = sym (ap (λ b. b || f) (sym is) ∙ old refl refl)

seen_shared : (log : List Commit) → Grown log → (u : List ℕ) (key : ZoneKey) → was_seen log u Shared key ≡ not (is_empty (entries (views_of log u Shared key)))
seen_shared _ empty u key = seen_start u Shared key ∙ here_shared [] u key ∙ ap (λ (rows : List Record). not (is_empty rows)) (nothing_seen u Shared key)
seen_shared _ (one_more log c before) u key =
    let v = view_of log u Shared key in
    let w = view_of (log ++ c ∷ []) u Shared key in
    let unseen : was_seen log u Shared key ≡ false → v.rows ≡ [] = λ none. nothing_in v.rows (sym (here_shared log u key)
    ∙ false_from_ne_true v.here (λ h. both_ways (was_seen log u Shared key) none (here_grown log before u Shared key h))) in
    seen_more log c u Shared key
    ∙ shared_by (was_seen log u Shared key) w.here (not (is_empty (entries (views_of log u Shared key)))) (not (is_empty (changed v w))) (seen_shared log before u key)
    (λ none here. ap not (first_seen v w (unseen none) (sym (here_shared (log ++ c ∷ []) u key) ∙ here)))
    (λ gone none. ap (λ b. not b) (still_none v w (unseen none) (nothing_in w.rows (sym (here_shared (log ++ c ∷ []) u key) ∙ gone))))
    ∙ sym (joined_empty (entries (views_of log u Shared key)) (changed v w))
    ∙ ap (λ (es : List (List ℕ)). not (is_empty es)) (sym (views_grow.entries_more log c u Shared key))

pub seen_is_told : SeenIsTold
seen_is_told = record {
  start = seen_start;
  more = seen_more;
  private = λ log u key. seen_private log (grown log) u key;
  shared = λ log u key. seen_shared log (grown log) u key;
}
