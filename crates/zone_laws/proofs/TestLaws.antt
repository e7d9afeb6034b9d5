-- The tests of what may follow decide it.
use Rattle.std.proofs.Common.{◌≡◌, ◌≤◌, ℕ, suc, List, [], ◌∷◌, ◌++◌, Bool, true, false, not, ◌&&◌, refl, sym, ap, ◌∙◌, subst, Some, None, Option, length, append-nil, append_assoc}
use Rattle.std.specs.Prelude.{◌==◌, nat_le, nat_lt, is_none}
use Rattle.std.specs.Option.{IfSome}
use Rattle.std.specs.List.{list_all, AllByRecursion}
use Rattle.std.proofs.lemmas.Bool.{both_ways, and_parts, and_from, not-true, false_from_ne_true, eqb-true, eq-eqb, leb-true, le-leb, ltb-true, lt-ltb}
use Rattle.std.proofs.lemmas.Option.{same_Some}
use Rattle.ck_base.specs.Names.{lock_of_names}
use Rattle.ck_base.specs.declared.key.ZoneKey.{ZoneKey}
use Rattle.share_records.specs.declared.share.Share.{Share as ShareOf}
use Rattle.record_model.specs.declared.records.Record.{Record}
use Rattle.record_model.specs.RecordSizes.{size_of_record}
use Rattle.record_model.specs.declared.subscription.Subscription.{Subscription}
use Rattle.zone_model.specs.declared.commits.Write.{Write}
use Rattle.zone_model.specs.declared.commits.Write.TheVariants.{Put, Remove, PutRemove}
use Rattle.zone_model.specs.declared.commits.Act.{Act}
use Rattle.zone_model.specs.declared.commits.Act.TheVariants.{Writes, MakeZone, DropZone, SetSubscription, DropSubscription}
use Rattle.zone_model.specs.declared.commits.Commit.{Commit}
use Rattle.zone_model.specs.declared.events.Event.{Event}
use Rattle.zone_model.specs.declared.events.Event.TheVariants.{Made, StoreFailed}
use Rattle.zone_model.specs.Names.{same, same_option, is_default}
use Rattle.name_rules.specs.Options.{is_some_and, is_none_or}
use Rattle.name_rules.proofs.NameLemmas.{same-true, same-refl}
use Rattle.zone_model.specs.Records.{record_at, share_of, is_share}
use Rattle.zone_model.specs.Zones.{Zone, zone_at, puts_at, after_act}
use Rattle.zone_model.specs.Subscriptions.{subscriptions_at}
use Rattle.zone_model.specs.Ancestry.{IsAncestor, is_ancestor}
use Rattle.zone_model.specs.Working.{is_share_of}
use Rattle.zone_model.specs.Form.{IsInForm}
use Rattle.zone_model.specs.Histories.{EachAfter}
use Rattle.zone_model.specs.Events.{commits_of, log_of, own}
use Rattle.zone_model.specs.Lawful.{IsPlain, IsRootOf, IsShareOf, FitsIn, FitTogether, MayBeWritten, AreLawfulWrites, MayFollow, MayFollowInTurn}
use Rattle.zone_model.specs.Legal.{faults_told, IsOfLock, AreLegalCommits, IsLegalEvent, IsLegal}
use Rattle.zone_laws.specs.LawfulTests.{is_plain, has_good_parent, is_marked_with, has_good_root, has_good_mark, is_within_limits, fits_in, are_well_formed, has_next_tag, has_its_place, is_lawful_write, is_lawful_act, is_lawful, each_passes, are_lawful, are_of_lock, are_legal_commits, is_legal_event, is_legal, TestsDecide}
use Rattle.zone_laws.proofs.SameLaws.{option-refl, option-true}
use Rattle.zone_laws.proofs.AncestryLaws.{is_ancestor_from, is_ancestor_gives}
use Rattle.zone_laws.proofs.FormLaws.{every-append, every-front, every-back}

-- ---- of what may be missing, and of lists

none_or_so : {X : Type 0} (test : X → Bool) (IsSo : X → Type 0) (o : Option X) → ((x : X) → test x ≡ true → IsSo x) → is_none_or test o ≡ true → IfSome o IsSo
none_or_so test IsSo None each e = tt
none_or_so test IsSo (Some x) each e = each x e

none_or_back : {X : Type 0} (test : X → Bool) (IsSo : X → Type 0) (o : Option X) → ((x : X) → IsSo x → test x ≡ true) → IfSome o IsSo → is_none_or test o ≡ true
none_or_back test IsSo None each e = refl
none_or_back test IsSo (Some x) each e = each x e

pub some_and_so : {X : Type 0} (test : X → Bool) (o : Option X) → is_some_and test o ≡ true → (x : X) × (o ≡ Some x) × (test x ≡ true)
some_and_so test None e = absurd (both_ways false refl e)
some_and_so test (Some x) e = (x, refl, e)

some_and_back : {X : Type 0} (test : X → Bool) (o : Option X) (x : X) → o ≡ Some x → test x ≡ true → is_some_and test o ≡ true
some_and_back test o x is e = ap (is_some_and test) is ∙ e

-- two facts of what may be there, as one
both_of : {X : Type 0} (P Q R : X → Type 0) (o : Option X) → ((x : X) → P x → Q x → R x) → IfSome o P → IfSome o Q → IfSome o R
both_of P Q R None each p q = tt
both_of P Q R (Some x) each p q = each x p q

pub all_so : {X : Type 0} (test : X → Bool) (IsSo : X → Type 0) (xs : List X) → ((x : X) → test x ≡ true → IsSo x) → list_all test xs ≡ true → AllByRecursion IsSo xs
all_so test IsSo [] each e = tt
all_so test IsSo (x ∷ xs) each e = let parts = and_parts (test x) _ e in (each x parts.0, all_so test IsSo xs each parts.1)

all_back : {X : Type 0} (test : X → Bool) (IsSo : X → Type 0) (xs : List X) → ((x : X) → IsSo x → test x ≡ true) → AllByRecursion IsSo xs → list_all test xs ≡ true
all_back test IsSo [] each e = refl
all_back test IsSo (x ∷ xs) each e = and_from (test x) _ (each x e.0) (all_back test IsSo xs each e.1)

none_is : {X : Type 0} (o : Option X) → is_none o ≡ true → o ≡ None
none_is None e = refl
none_is (Some x) e = absurd (both_ways false refl e)

-- ---- records that fit together

plain_so : (rows : List Record) (x : List ℕ) → is_plain rows x ≡ true → IsPlain rows x
plain_so rows x e = let found = some_and_so (λ (r : Record). not (is_share r)) (record_at rows x) e in record { found = found.0; there = found.1; plain = not-true (is_share found.0) found.2 }

plain_back : (rows : List Record) (x : List ℕ) → IsPlain rows x → is_plain rows x ≡ true
plain_back rows x is = some_and_back (λ (r : Record). not (is_share r)) (record_at rows x) is.found is.there (ap not is.plain)

module _ (rows : List Record) (r : Record) where
  parent_test : List ℕ → Bool
  parent_test p = is_plain rows p && not (is_ancestor rows r.name p)

  parent_so : (p : List ℕ) → (is_plain rows p && not (is_ancestor rows r.name p)) ≡ true → IsPlain rows p
  parent_so p e = plain_so rows p (and_parts (is_plain rows p) _ e).0

  above_so : (p : List ℕ) → (is_plain rows p && not (is_ancestor rows r.name p)) ≡ true → IsAncestor rows r.name p → ⊥
  above_so p e above = both_ways (is_ancestor rows r.name p) (not-true (is_ancestor rows r.name p) (and_parts (is_plain rows p) _ e).1) (is_ancestor_from rows r.name p above)

  parent_back : (p : List ℕ) → IsPlain rows p → (IsAncestor rows r.name p → ⊥) → (is_plain rows p && not (is_ancestor rows r.name p)) ≡ true
  parent_back p plain above = and_from (is_plain rows p) _ (plain_back rows p plain)
      (ap not (false_from_ne_true (is_ancestor rows r.name p) (λ e. above (is_ancestor_gives rows r.name p e))))

  marked_so : (x : List ℕ) (t : Record) → is_marked_with x t ≡ true → t.share ≡ Some x
  marked_so x t e = let found = some_and_so (same x) t.share e in found.1 ∙ ap Some (sym (same-true x found.0 found.2))

  root_so : (s : ShareOf) → (is_none r.parent && (is_plain rows s.root && is_some_and (is_marked_with r.name) (record_at rows s.root))) ≡ true → IsRootOf rows r.name s
  root_so s e =
      let parts = and_parts (is_plain rows s.root) _ (and_parts (is_none r.parent) _ e).1 in
      let plain : IsPlain rows s.root = plain_so rows s.root parts.0 in
      let marked = some_and_so (is_marked_with r.name) (record_at rows s.root) parts.1 in
      let one : marked.0 ≡ plain.found = same_Some marked.0 plain.found (sym marked.1 ∙ plain.there) in
      record { plain = plain; named = subst (λ (t : Record). t.share ≡ Some r.name) one (marked_so r.name marked.0 marked.2) }

  alone_so : (s : ShareOf) → (is_none r.parent && (is_plain rows s.root && is_some_and (is_marked_with r.name) (record_at rows s.root))) ≡ true → r.parent ≡ None
  alone_so s e = none_is r.parent (and_parts (is_none r.parent) _ e).0

  root_back : (s : ShareOf) → IsRootOf rows r.name s → r.parent ≡ None → (is_none r.parent && (is_plain rows s.root && is_some_and (is_marked_with r.name) (record_at rows s.root))) ≡ true
  root_back s is alone = and_from (is_none r.parent) _ (ap is_none alone)
      (and_from (is_plain rows s.root) _ (plain_back rows s.root is.plain)
      (some_and_back (is_marked_with r.name) (record_at rows s.root) is.plain.found is.plain.there (some_and_back (same r.name) is.plain.found.share r.name is.named (same-refl r.name))))

  mark_so : (x : List ℕ) → is_some_and (is_share_of r.name) (record_at rows x) ≡ true → IsShareOf rows r.name x
  mark_so x e =
      let found = some_and_so (is_share_of r.name) (record_at rows x) e in
      let share = some_and_so (λ (s : ShareOf). same r.name s.root) (share_of found.0) found.2 in
      record { found = found.0; there = found.1; share = share.0; is = share.1; rooted = same-true r.name share.0.root share.2 }

  mark_back : (x : List ℕ) → IsShareOf rows r.name x → is_some_and (is_share_of r.name) (record_at rows x) ≡ true
  mark_back x is = some_and_back (is_share_of r.name) (record_at rows x) is.found is.there
      (some_and_back (λ (s : ShareOf). same r.name s.root) (share_of is.found) is.share is.is (subst (λ y. same r.name y ≡ true) is.rooted (same-refl r.name)))

  fits_so : fits_in rows r ≡ true → FitsIn rows r
  fits_so e =
      let parent = and_parts (has_good_parent rows r) _ e in
      let root = and_parts (has_good_root rows r) _ parent.1 in
      let mark = and_parts (has_good_mark rows r) (is_within_limits r) root.1 in
      let limits = and_parts (nat_le (size_of_record r) 1048576) _ mark.1 in
      record {
        parent = none_or_so _ (IsPlain rows) r.parent parent_so parent.0;
        above = none_or_so _ (λ p. IsAncestor rows r.name p → ⊥) r.parent above_so parent.0;
        root = none_or_so _ (IsRootOf rows r.name) (share_of r) root_so root.0;
        alone = none_or_so _ (λ s. r.parent ≡ None) (share_of r) alone_so root.0;
        marked = none_or_so _ (IsShareOf rows r.name) r.share mark_so mark.0;
        size = leb-true (size_of_record r) 1048576 limits.0;
        few = none_or_so _ (λ (s : ShareOf). length s.participants ≤ 100) (share_of r) (λ s. leb-true (length s.participants) 100) limits.1;
      }

  fits_back : FitsIn rows r → fits_in rows r ≡ true
  fits_back is = and_from (has_good_parent rows r) _
      (none_or_back _ (λ p. IsPlain rows p × (IsAncestor rows r.name p → ⊥)) r.parent (λ p both. parent_back p both.0 both.1)
      (both_of (IsPlain rows) (λ p. IsAncestor rows r.name p → ⊥) (λ p. IsPlain rows p × (IsAncestor rows r.name p → ⊥)) r.parent (λ p a b. (a, b)) is.parent is.above))
      (and_from (has_good_root rows r) _
      (none_or_back _ (λ s. IsRootOf rows r.name s × (r.parent ≡ None)) (share_of r) (λ s both. root_back s both.0 both.1)
      (both_of (IsRootOf rows r.name) (λ s. r.parent ≡ None) (λ s. IsRootOf rows r.name s × (r.parent ≡ None)) (share_of r) (λ s a b. (a, b)) is.root is.alone))
      (and_from (has_good_mark rows r) _ (none_or_back _ (IsShareOf rows r.name) r.share mark_back is.marked)
      (and_from (nat_le (size_of_record r) 1048576) _ (le-leb (size_of_record r) 1048576 is.size)
      (none_or_back _ (λ (s : ShareOf). length s.participants ≤ 100) (share_of r) (λ s. le-leb (length s.participants) 100) is.few))))

pub together_so : (rows : List Record) → are_well_formed rows ≡ true → FitTogether rows
together_so rows e = all_so (fits_in rows) (FitsIn rows) rows (fits_so rows) e

pub together_back : (rows : List Record) → FitTogether rows → are_well_formed rows ≡ true
together_back rows is = all_back (fits_in rows) (FitsIn rows) rows (fits_back rows) is

-- ---- commits

module _ (rows : List Record) (puts : List ℕ → ℕ) where
  write_so : (w : Write) → is_lawful_write rows puts w ≡ true → MayBeWritten rows puts w
  write_so (Put r) e =
      let parts = and_parts (has_next_tag puts (Put r)) (has_its_place rows (Put r)) e in
      record { tag = eqb-true r.tag (suc (puts r.name)) parts.0; parent = none_or_so _ (λ (old : Record). r.parent ≡ old.parent) (record_at rows r.name) (λ old. option-true r.parent old.parent) parts.1 }
  write_so (Remove x) e = e
  write_so (PutRemove x) e = tt

  write_back : (w : Write) → MayBeWritten rows puts w → is_lawful_write rows puts w ≡ true
  write_back (Put r) is = and_from (has_next_tag puts (Put r)) _ (eq-eqb r.tag (suc (puts r.name)) is.tag)
      (none_or_back _ (λ (old : Record). r.parent ≡ old.parent) (record_at rows r.name) (λ old one. subst (λ p. same_option r.parent p ≡ true) one (option-refl r.parent)) is.parent)
  write_back (Remove x) is = is
  write_back (PutRemove x) is = refl

writes_so : (z : Zone) (puts : List ℕ → ℕ) (subs : List Subscription) (key : ZoneKey) (ws : List Write) → is_lawful_act z puts subs key (Writes ws) ≡ true → AreLawfulWrites z puts ws
writes_so z puts subs key ws e =
    let there = and_parts z.there _ e in
    let each = and_parts (list_all (is_lawful_write z.rows puts) ws) _ there.1 in
    record { there = there.0; each = all_so (is_lawful_write z.rows puts) (MayBeWritten z.rows puts) ws (write_so z.rows puts) each.0; fit = together_so (after_act z (Writes ws)).rows each.1 }

writes_back : (z : Zone) (puts : List ℕ → ℕ) (subs : List Subscription) (key : ZoneKey) (ws : List Write) → AreLawfulWrites z puts ws → is_lawful_act z puts subs key (Writes ws) ≡ true
writes_back z puts subs key ws is = and_from z.there _ is.there
    (and_from (list_all (is_lawful_write z.rows puts) ws) _ (all_back (is_lawful_write z.rows puts) (MayBeWritten z.rows puts) ws (write_back z.rows puts) is.each)
    (together_back (after_act z (Writes ws)).rows is.fit))

module _ (log : List Commit) (c : Commit) where
  abbrev passes : Act → Bool
  passes a = is_lawful_act (zone_at log c.key) (puts_at log c.key) (subscriptions_at log c.key) c.key a

  pub follows_so : is_lawful log c ≡ true → MayFollow log c
  follows_so e = record {
    writes = λ ws is. writes_so (zone_at log c.key) (puts_at log c.key) (subscriptions_at log c.key) c.key ws (subst (λ a. passes a ≡ true) is e);
    making = λ is. not-true (zone_at log c.key).there (subst (λ a. passes a ≡ true) is e);
    removal = λ is. let parts = and_parts (zone_at log c.key).there _ (subst (λ a. passes a ≡ true) is e) in (parts.0, not-true (is_default c.key) parts.1);
    dropping = λ scope id is. subst (λ a. passes a ≡ true) is e;
  }

  by_act : (a : Act) → c.act ≡ a → MayFollow log c → passes a ≡ true
  by_act (Writes ws) is may = writes_back (zone_at log c.key) (puts_at log c.key) (subscriptions_at log c.key) c.key ws (may.writes ws is)
  by_act MakeZone is may = ap not (may.making is)
  by_act DropZone is may = and_from (zone_at log c.key).there _ (may.removal is).0 (ap not (may.removal is).1)
  by_act (SetSubscription s) is may = refl
  by_act (DropSubscription scope id) is may = may.dropping scope id is

  pub follows_back : MayFollow log c → is_lawful log c ≡ true
  follows_back may = by_act c.act refl may

-- ---- one after another

module _ {X : Type 0} (test : List X → X → Bool) where
  passes_at : (before front : List X) (x : X) (after : List X) → each_passes test front (before ++ x ∷ after) ≡ true → test (front ++ before) x ≡ true
  passes_at [] front x after e = subst (λ l. test l x ≡ true) (sym (append-nil front)) (and_parts (test front x) _ e).0
  passes_at (y ∷ before) front x after e = subst (λ l. test l x ≡ true) (append_assoc front (y ∷ []) before) (passes_at before (front ++ y ∷ []) x after (and_parts (test front y) _ e).1)

  each_so : (front xs : List X) → each_passes test front xs ≡ true → EachAfter (λ before x. test (front ++ before) x ≡ true) xs
  each_so front xs e before x after is = passes_at before front x after (subst (λ l. each_passes test front l ≡ true) is e)

  each_back : (xs front : List X) → EachAfter (λ before x. test (front ++ before) x ≡ true) xs → each_passes test front xs ≡ true
  each_back [] front each = refl
  each_back (x ∷ xs) front each = and_from (test front x) _ (subst (λ l. test l x ≡ true) (append-nil front) (each [] x xs refl))
      (each_back xs (front ++ x ∷ []) (λ before y after is. subst (λ l. test l y ≡ true) (sym (append_assoc front (x ∷ []) before)) (each (x ∷ before) y after (ap (λ l. x ∷ l) is))))

each_all : {X : Type 0} (IsSo : X → Type 0) (xs : List X) → EachAfter (λ before x. IsSo x) xs → AllByRecursion IsSo xs
each_all IsSo [] each = tt
each_all IsSo (x ∷ xs) each = (each [] x xs refl, each_all IsSo xs (λ before y after is. each (x ∷ before) y after (ap (λ l. x ∷ l) is)))

pub all_at : {X : Type 0} (IsSo : X → Type 0) (before : List X) (x : X) (after : List X) → AllByRecursion IsSo (before ++ x ∷ after) → IsSo x
all_at IsSo [] x after all = all.0
all_at IsSo (y ∷ before) x after all = all_at IsSo before x after all.1

pub in_turn_so : (log cs : List Commit) → are_lawful log cs ≡ true → MayFollowInTurn log cs
in_turn_so log cs e before c after is = follows_so (log ++ before) c (each_so is_lawful log cs e before c after is)

pub in_turn_back : (log cs : List Commit) → MayFollowInTurn log cs → are_lawful log cs ≡ true
in_turn_back log cs each = each_back is_lawful cs log (λ before c after is. follows_back (log ++ before) c (each before c after is))

-- ---- events

legal_so : (lock : ℕ) (log cs : List Commit) → are_legal_commits lock log cs ≡ true → AllByRecursion IsInForm cs → AreLegalCommits lock log cs
legal_so lock log cs e formed =
    let some = and_parts (nat_lt 0 (length cs)) _ e in
    let few = and_parts (nat_le (length cs) 200) _ some.1 in
    let of_lock = and_parts (are_of_lock lock cs) _ few.1 in
    record {
      some = ltb-true 0 (length cs) some.0;
      few = leb-true (length cs) 200 few.0;
      of_lock = all_so _ (IsOfLock lock) cs (λ c. eqb-true (lock_of_names c.key.owner c.key.zone) lock) of_lock.0;
      lawful = λ before c after is. record { form = all_at IsInForm before c after (subst (AllByRecursion IsInForm) is formed); follows = in_turn_so log cs of_lock.1 before c after is };
    }

legal_back : (lock : ℕ) (log cs : List Commit) → AreLegalCommits lock log cs → are_legal_commits lock log cs ≡ true
legal_back lock log cs is = and_from (nat_lt 0 (length cs)) _ (lt-ltb 0 (length cs) is.some)
    (and_from (nat_le (length cs) 200) _ (le-leb (length cs) 200 is.few)
    (and_from (are_of_lock lock cs) _ (all_back _ (IsOfLock lock) cs (λ c. eq-eqb (lock_of_names c.key.owner c.key.zone) lock) is.of_lock)
    (in_turn_back log cs (λ before c after at. (is.lawful before c after at).follows))))

pub event_so : (lock : ℕ) (before : List Event) (e : Event) → is_legal_event lock before e ≡ true → AllByRecursion IsInForm (commits_of e) → IsLegalEvent lock before e
event_so lock before (Made origin cs) legal formed =
    let parts = and_parts (origin.count == suc (length (own origin.seat before))) _ legal in
    record { next = eqb-true origin.count (suc (length (own origin.seat before))) parts.0; allowed = legal_so lock (log_of before) cs parts.1 formed }
event_so lock before (StoreFailed origin from to) legal formed =
    let parts = and_parts (origin.count == suc (length (own origin.seat before))) _ legal in
    let told = and_parts (nat_le (faults_told before) from) _ parts.1 in
    record { next = eqb-true origin.count (suc (length (own origin.seat before))) parts.0; allowed = (leb-true (faults_told before) from told.0, told.1) }

pub event_back : (lock : ℕ) (before : List Event) (e : Event) → IsLegalEvent lock before e → is_legal_event lock before e ≡ true
event_back lock before (Made origin cs) is = and_from (origin.count == suc (length (own origin.seat before))) _ (eq-eqb origin.count (suc (length (own origin.seat before))) is.next) (legal_back lock (log_of before) cs is.allowed)
event_back lock before (StoreFailed origin from to) is = and_from (origin.count == suc (length (own origin.seat before))) _ (eq-eqb origin.count (suc (length (own origin.seat before))) is.next)
    (and_from (nat_le (faults_told before) from) _ (le-leb (faults_told before) from is.allowed.0) is.allowed.1)

-- the commits of an event have their form
pub event_formed : (lock : ℕ) (before : List Event) (e : Event) → IsLegalEvent lock before e → AllByRecursion IsInForm (commits_of e)
event_formed lock before (Made origin cs) is = each_all IsInForm cs (λ front c after at. (is.allowed.lawful front c after at).form)
event_formed lock before (StoreFailed origin from to) is = tt

formed_joined : (events : List Event) → AllByRecursion (λ e. AllByRecursion IsInForm (commits_of e)) events → AllByRecursion IsInForm (log_of events)
formed_joined [] all = tt
formed_joined (e ∷ events) all = every-append IsInForm (commits_of e) (log_of events) all.0 (formed_joined events all.1)

formed_apart : (events : List Event) → AllByRecursion IsInForm (log_of events) → AllByRecursion (λ e. AllByRecursion IsInForm (commits_of e)) events
formed_apart [] all = tt
formed_apart (e ∷ events) all = (every-front IsInForm (commits_of e) (log_of events) all, formed_apart events (every-back IsInForm (commits_of e) (log_of events) all))

pub history_formed : (lock : ℕ) (events : List Event) → IsLegal lock events → AllByRecursion IsInForm (log_of events)
history_formed lock events legal = formed_joined events (each_all (λ e. AllByRecursion IsInForm (commits_of e)) events (λ before e after is. event_formed lock before e (legal before e after is)))

pub history_so : (lock : ℕ) (events : List Event) → is_legal lock events ≡ true → AllByRecursion IsInForm (log_of events) → IsLegal lock events
history_so lock events e formed before event after is = event_so lock before event (each_so (is_legal_event lock) [] events e before event after is)
    (all_at (λ x. AllByRecursion IsInForm (commits_of x)) before event after (subst (AllByRecursion (λ x. AllByRecursion IsInForm (commits_of x))) is (formed_apart events formed)))

pub history_back : (lock : ℕ) (events : List Event) → IsLegal lock events → is_legal lock events ≡ true
history_back lock events legal = each_back (is_legal_event lock) events [] (λ before e after is. event_back lock before e (legal before e after is))

pub tests_decide : TestsDecide
tests_decide = record {
  fitting = together_so;
  fitting_back = together_back;
  one = follows_so;
  one_back = follows_back;
  each = in_turn_so;
  each_back = in_turn_back;
  event = event_so;
  event_back = event_back;
  history = history_so;
  history_back = history_back;
  formed = history_formed;
}
