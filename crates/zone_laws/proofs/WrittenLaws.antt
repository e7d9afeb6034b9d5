-- What a request writes: its stamps, what its outcomes show of it, and what is allowed.
use Rattle.std.proofs.Common.{◌≡◌, ℕ, List, [], ◌∷◌, Bool, true, false, cond, not, ◌&&◌, ◌||◌, refl, sym, ap, ◌∙◌, subst, Some, None, Option, map, inl, inr, ⊎_elim, append-nil}
use Rattle.std.specs.Prelude.{find, filter_map, zip, is_some, if◌then◌else◌}
use Rattle.std.specs.Option.{option_map_or, option_map}
use Rattle.std.specs.List.{list_any, list_all, cons_option, AllByRecursion}
use Rattle.std.proofs.lemmas.Bool.{both_ways, and_parts, and_from, or_left, or_right, or_cases, cond-true, false_from_ne_true}
use Rattle.std.proofs.lemmas.Option.{same_Some}
use Rattle.ck_base.specs.Order.{is_before}
use Rattle.name_rules.specs.Options.{is_some_and}
use Rattle.name_rules.proofs.NameLemmas.{same-true, same-refl}
use Rattle.record_model.specs.declared.records.Record.{Record}
use Rattle.zone_model.specs.declared.operations.Past.{Past}
use Rattle.zone_model.specs.declared.outcomes.OpFault.{OpFault}
use Rattle.zone_model.specs.declared.outcomes.Outcome.TheVariants.{Put as Answered, Deleted}
use Rattle.zone_model.specs.declared.commits.Write.{Write}
use Rattle.zone_model.specs.declared.commits.Write.TheVariants.{Put, Remove, PutRemove}
use Rattle.zone_model.specs.declared.commits.Commit.{Commit}
use Rattle.zone_model.specs.Names.{same, is_in, is_private, is_shared, has_twice}
use Rattle.zone_model.specs.Records.{record_at, is_there, names_in, is_share, IsAscending}
use Rattle.zone_model.specs.Zones.{zone_at, written_name}
use Rattle.zone_model.specs.Requests.{Caller, NamedOp, is_deletion, has_share_type, makes_new, begins_share, root_given, puts_in, roots_in, names_deleted}
use Rattle.zone_model.specs.Putting.{new_record}
use Rattle.zone_model.specs.Working.{is_new_share_of, is_share_of, with_puts, mark_of}
use Rattle.zone_model.specs.Grounds.{names_taken, grounds_of}
use Rattle.zone_model.specs.Past.{name_history}
use Rattle.zone_model.specs.PutChecks.{is_of_share, is_old_share, is_denied, begins}
use Rattle.zone_model.specs.Cascade.{IsLeast}
use Rattle.zone_model.specs.Judging.{faults_of, has_fault}
use Rattle.zone_model.specs.Effect.{Request, body_without, working, is_put, is_left, after_leaving, after_puts, removed, stamp, stamped, is_unmarked, is_written, final, write_as, write_of, writes, commits_with, effect}
use Rattle.zone_model.specs.Views.{view_of}
use Rattle.zone_model.specs.Modifying.{done, outcome_of, request_at, judgement_at, effect_at, modified_as_one}
use Rattle.zone_laws.specs.LawfulTests.{are_lawful}
use Rattle.zone_laws.proofs.SharedLaws.{asked_permitted}
use Rattle.zone_laws.specs.Answering.{writes_made, IsStamped, StampsAreSet, IsOf, IsWritten, IsShownWritten, OutcomesAreWritten, has_begun_share, IsAllowed, WritesAreAllowed, AnyLeastSetWillDo}
use Rattle.zone_laws.proofs.RecordLaws.{none-some, found-name, found-below, later_step}
use Rattle.zone_laws.proofs.EffectLaws.{write_by}
use Rattle.zone_laws.proofs.AfterLaws.{ascending-working, write_named}
use Rattle.zone_laws.proofs.PermissionLaws.{found-any}
use Rattle.zone_laws.proofs.AnswerLaws.{all-refused}
use Rattle.zone_laws.proofs.CascadeLaws.{least-same}
use Rattle.zone_laws.proofs.WorkingLaws.{put_at, put_over, found-working}
use Rattle.zone_laws.proofs.CoreLaws.{Core, core, share-core, share_of-core, new-root, changed_at, put-name}
use Rattle.zone_laws.proofs.JudgeLaws.{there-found}
use Rattle.zone_laws.proofs.KeptLaws.{ground, IsFine, any_put, any-found, found_put, checked, seen-in-working, new-in-working, after_is}
use Rattle.zone_laws.proofs.ParentLaws.{after_in_order}
use Rattle.zone_laws.proofs.LawfulLaws.{is_fine}
use Rattle.zone_laws.proofs.TestLaws.{in_turn_back}

-- ---- small steps

abbrev or_write : Option Write → Option Write → Option Write
or_write None v = v
or_write (Some w) v = Some w

or_write_none : (o : Option Write) → or_write o None ≡ o
or_write_none None = refl
or_write_none (Some w) = refl

none_written : (w : Write) → None ≡ Some w → ⊥
none_written w e = both_ways false refl (ap (λ (o : Option Write). option_map_or (λ _. true) o false) e)

unseen_of : (rows : List Record) (y : List ℕ) (o : Option Record) → record_at rows y ≡ o → not (is_there rows y) ≡ true → record_at rows y ≡ None
unseen_of rows y None is e = is
unseen_of rows y (Some r) is e = absurd (both_ways false refl (sym (ap not (there-found rows y ∙ ap is_some is)) ∙ e))

typed_by : (h : Bool) (o : Option (List ℕ)) (x : List ℕ) → is_some_and (same x) (if h then o else None) ≡ true → h ≡ true
typed_by true o x e = refl
typed_by false o x e = e

-- a new share has the type of shares
typed : (x : List ℕ) (s : Record) (p : NamedOp) → core s ≡ core (new_record p) → is_share_of x s ≡ true → has_share_type p.draft ≡ true
typed x s p is e = typed_by (has_share_type p.draft) (root_given p.draft) x
    (ap (is_some_and (same x)) (sym (ap (λ (c : Core). c.root) is ∙ new-root p)) ∙ sym (share_of-core x s) ∙ e)

rooted_by : (h : Bool) (o : Option (List ℕ)) (x : List ℕ) → is_some_and (same x) (if h then o else None) ≡ true → is_some_and (same x) o ≡ true
rooted_by true o x e = e
rooted_by false o x e = absurd (both_ways false refl e)

-- and the root that its put gives
rooted : (x : List ℕ) (s : Record) (p : NamedOp) → core s ≡ core (new_record p) → is_share_of x s ≡ true → is_some_and (same x) (root_given p.draft) ≡ true
rooted x s p is e = rooted_by (has_share_type p.draft) (root_given p.draft) x
    (ap (is_some_and (same x)) (sym (ap (λ (c : Core). c.root) is ∙ new-root p)) ∙ sym (share_of-core x s) ∙ e)

-- ---- writes, one for each record

module _ (P : Write → Type 0) (f : Record → Option Write) where
  some_written : (o : Option Write) (ws : List Write) → ((w : Write) → o ≡ Some w → P w) → AllByRecursion P ws → AllByRecursion P (cons_option o ws)
  some_written None ws one all = all
  some_written (Some w) ws one all = (one w refl, all)

  pub all_written : (rows : List Record) → IsAscending rows → ((x : List ℕ) (a : Record) (w : Write) → record_at rows x ≡ Some a → f a ≡ Some w → P w) → AllByRecursion P (filter_map f rows)
  all_written [] ascend each = tt
  all_written (r ∷ rows) ascend each =
      let parts = and_parts (list_all (is_before r.name) (names_in rows)) _ ascend in
      let here : record_at (r ∷ rows) r.name ≡ Some r = cond-true (same r.name r.name) (Some r) (record_at rows r.name) (same-refl r.name) in
      some_written (f r) (filter_map f rows) (λ w e. each r.name r w here e)
      (all_written rows parts.1 (λ x a w at e. each x a w (later_step (same x r.name) r a rows x refl (found-below r.name rows parts.0) at) e))

module _ (f : Record → Option Write) (named : (r : Record) (w : Write) → f r ≡ Some w → written_name w ≡ r.name) where
  find_step : (o : Option Write) (x : List ℕ) (r : Record) (ws : List Write) → ((w : Write) → o ≡ Some w → written_name w ≡ r.name)
      → find (λ w. same x (written_name w)) (cons_option o ws) ≡ (if same x r.name then or_write o (find (λ w. same x (written_name w)) ws) else find (λ w. same x (written_name w)) ws)
  find_step o x r ws is = by (same x r.name) refl o is
    where
      by : (s : Bool) → same x r.name ≡ s → (p : Option Write) → ((w : Write) → p ≡ Some w → written_name w ≡ r.name)
          → find (λ w. same x (written_name w)) (cons_option p ws) ≡ (if s then or_write p (find (λ w. same x (written_name w)) ws) else find (λ w. same x (written_name w)) ws)
      by true e None n = refl
      by false e None n = refl
      by true e (Some w) n = ap (λ y. cond (same x y) (Some w) (find (λ v. same x (written_name v)) ws)) (n w refl) ∙ ap (λ b. cond b (Some w) (find (λ v. same x (written_name v)) ws)) e
      by false e (Some w) n = ap (λ y. cond (same x y) (Some w) (find (λ v. same x (written_name v)) ws)) (n w refl) ∙ ap (λ b. cond b (Some w) (find (λ v. same x (written_name v)) ws)) e

  none_step : (s : Bool) (r : Record) (o : Option Record) (p v : Option Write) → (o ≡ None → v ≡ None) → cond s (Some r) o ≡ None → (if s then or_write p v else v) ≡ None
  none_step true r o p v rest g = absurd (none-some None r refl (sym g))
  none_step false r o p v rest g = rest g

  none_found : (rows : List Record) (x : List ℕ) → record_at rows x ≡ None → find (λ w. same x (written_name w)) (filter_map f rows) ≡ None
  none_found [] x e = refl
  none_found (r ∷ rows) x e = find_step (f r) x r (filter_map f rows) (named r) ∙ none_step (same x r.name) r (record_at rows x) (f r) (find (λ w. same x (written_name w)) (filter_map f rows)) (none_found rows x) e

  write_step : (s : Bool) (r a : Record) (o : Option Record) (v : Option Write) → (s ≡ true → v ≡ None) → (o ≡ Some a → v ≡ f a) → cond s (Some r) o ≡ Some a → (if s then or_write (f r) v else v) ≡ f a
  write_step true r a o v none rest g = ap (or_write (f r)) (none refl) ∙ or_write_none (f r) ∙ ap f (same_Some r a g)
  write_step false r a o v none rest g = rest g

  -- the write of a name is that of its record
  pub found_write : (rows : List Record) (x : List ℕ) (a : Record) → IsAscending rows → record_at rows x ≡ Some a → find (λ w. same x (written_name w)) (filter_map f rows) ≡ f a
  found_write [] x a ascend e = absurd (none-some None a refl e)
  found_write (r ∷ rows) x a ascend e =
      let parts = and_parts (list_all (is_before r.name) (names_in rows)) _ ascend in
      find_step (f r) x r (filter_map f rows) (named r)
      ∙ write_step (same x r.name) r a (record_at rows x) (find (λ w. same x (written_name w)) (filter_map f rows))
      (λ s. none_found rows x (subst (λ y. record_at rows y ≡ None) (sym (same-true x r.name s)) (found-below r.name rows parts.0))) (λ g. found_write rows x a parts.1 g) e

-- ---- stamps

module _ (q : Request) (pasts : List Past) (fine : IsFine q pasts) where
  leaving_created : (b : Bool) (r : Record) → (if b then record r { body = body_without q.caller.user r.body } else r).created ≡ r.created
  leaving_created true r = refl
  leaving_created false r = refl

  -- the view's records are in the working view with their first stamp
  working_created : (x : List ℕ) (v w : Record) → record_at q.seen x ≡ Some v → record_at (working q) x ≡ Some w → w.created ≡ v.created
  working_created x v w seen is =
      let puts = puts_in q.ops in
      let c = changed_at q.seen puts x (put_at puts x) v refl seen in
      let mark : Record → Record = λ (r : Record). record r { share = mark_of q.caller.scope q.seen q.ops (with_puts q.seen q.ops) r } in
      let one : mark c.row ≡ w = same_Some (mark c.row) w (sym (found-working q.seen q.caller.scope q.ops x ∙ ap (λ o. option_map mark (put_over q.seen (put_at puts x) o)) seen ∙ ap (option_map mark) c.is) ∙ is) in
      ap (λ (r : Record). r.created) (sym one) ∙ c.created

  over_created : (o : Option Record) (x : List ℕ) (z w : Record) → record_at q.seen x ≡ o → record_at (working q) x ≡ Some w → record_at q.rows x ≡ Some z → w.created ≡ z.created
  over_created None x z w unseen is there = absurd (none-some (record_at q.rows x) z (new-in-working q pasts fine x w unseen is).absent there)
  over_created (Some v) x z w seen is there = working_created x v w seen is ∙ ap (λ (r : Record). r.created) (same_Some v z (sym (fine.part.part x v seen) ∙ there))

  created_by : (b : Bool) (w : Option Record) (x : List ℕ) (z a : Record) → is_put q x ≡ b → record_at (working q) x ≡ w → record_at q.rows x ≡ Some z → record_at (after_puts q) x ≡ Some a → a.created ≡ z.created
  created_by false w x z a put is there at =
      let one = same_Some (after_leaving q z) a (sym (after_is q pasts fine false w (Some z) x put is there) ∙ at) in
      ap (λ (r : Record). r.created) (sym one) ∙ leaving_created (is_left q z) z
  created_by true None x z a put is there at =
      let one = same_Some (after_leaving q z) a (sym (after_is q pasts fine true None (Some z) x put is there) ∙ at) in
      ap (λ (r : Record). r.created) (sym one) ∙ leaving_created (is_left q z) z
  created_by true (Some w) x z a put is there at =
      let one = same_Some (after_leaving q w) a (sym (after_is q pasts fine true (Some w) (Some z) x put is there) ∙ at) in
      ap (λ (r : Record). r.created) (sym one) ∙ leaving_created (is_left q w) w ∙ over_created (record_at q.seen x) x z w refl is there

  first_by : (o : Option Record) (a : Record) → record_at q.rows a.name ≡ o → record_at (after_puts q) a.name ≡ Some a
      → (if is_there q.rows a.name then a.created else stamp q) ≡ option_map_or (λ (z : Record). z.created) o (stamp q)
  first_by None a there at = ap (λ b. if b then a.created else stamp q) (there-found q.rows a.name ∙ ap is_some there)
  first_by (Some z) a there at = ap (λ b. if b then a.created else stamp q) (there-found q.rows a.name ∙ ap is_some there)
      ∙ created_by (is_put q a.name) (record_at (working q) a.name) a.name z a refl refl there at

  stamped_by : (goes written : Bool) (a : Record) (w : Write) → record_at (after_puts q) a.name ≡ Some a → write_by q (removed q) goes written a ≡ Some w → IsStamped q.rows (stamp q) w
  stamped_by true true a w at e = subst (IsStamped q.rows (stamp q)) (same_Some (PutRemove a.name) w e) tt
  stamped_by true false a w at e = subst (IsStamped q.rows (stamp q)) (same_Some (Remove a.name) w e) tt
  stamped_by false true a w at e = subst (IsStamped q.rows (stamp q)) (same_Some (Put (final q (removed q) a)) w e) (refl, first_by (record_at q.rows a.name) a refl at)
  stamped_by false false a w at e = absurd (none_written w e)

  pub all_stamped : AllByRecursion (IsStamped q.rows (stamp q)) (writes q (removed q))
  all_stamped = all_written (IsStamped q.rows (stamp q)) (write_of q (removed q)) (after_puts q) (after_in_order q pasts fine)
      (λ x a w at e. stamped_by (is_in (removed q) a.name) (is_written q (removed q) a) a w (subst (λ y. record_at (after_puts q) y ≡ Some a) (same-true x a.name (found-name (after_puts q) x a at)) at) e)

  -- ---- what is shown

  -- what is put in the shared scope is no share
  left_share : (x : List ℕ) (p : NamedOp) (r v : Record) → put_at (puts_in q.ops) x ≡ Some p → record_at (working q) x ≡ Some r → record_at q.seen x ≡ Some v → is_shared q.caller.scope ≡ true → is_share r ≡ true → ⊥
  left_share x p r v at is seen shared share =
      let g = ground q pasts in
      let name : x ≡ p.name = same-true x p.name (put-name (puts_in q.ops) x p at) in
      let old : is_share v ≡ true = share-core v ∙ ap is_some (sym (seen-in-working q pasts fine x v r seen is).root) ∙ sym (share-core r) ∙ share in
      let was : is_old_share g p ≡ true = ap (λ y. is_some_and is_share (record_at q.seen y)) (sym name) ∙ ap (is_some_and is_share) seen ∙ old in
      both_ways (is_denied g p) (checked q pasts fine x p at).permitted
      (and_from (is_shared q.caller.scope) _ shared (or_left (is_of_share g p) _ (or_right (begins g p) (is_old_share g p) was)))

  seen_by : (o : Option Record) (y : List ℕ) → record_at q.seen y ≡ o → is_there q.seen y ≡ true → (v : Record) × (record_at q.seen y ≡ Some v)
  seen_by None y is e = absurd (both_ways false refl (sym (there-found q.seen y ∙ ap is_some is) ∙ e))
  seen_by (Some v) y is e = (v, is)

  unleft : (x : List ℕ) (p : NamedOp) (r : Record) → put_at (puts_in q.ops) x ≡ Some p → record_at (working q) x ≡ Some r → is_left q r ≡ false
  unleft x p r at is = false_from_ne_true (is_left q r) (λ e.
      let a = and_parts (is_shared q.caller.scope) _ e in
      let b = and_parts (is_in (names_deleted q.ops) r.name) _ a.1 in
      let c = and_parts (is_share r) _ b.1 in
      let name : x ≡ r.name = same-true x r.name (found-name (working q) x r is) in
      let v = seen_by (record_at q.seen r.name) r.name refl c.1 in
      left_share x p r v.0 at is (subst (λ y. record_at q.seen y ≡ Some v.0) (sym name) v.1) a.0 c.0)

  unmarked_by : (b : Bool) (r : Record) → IsOf (stamped q r) (Put (record (stamped q r) { share = if b then None else r.share }))
  unmarked_by true r = inr refl
  unmarked_by false r = inl refl

  shown_by : (goes : Bool) (r : Record) → find (λ w. same r.name (written_name w)) (writes q (removed q)) ≡ write_by q (removed q) goes true r → IsWritten (writes q (removed q)) (stamped q r)
  shown_by true r e = record { write = PutRemove r.name; found = e; is = refl }
  shown_by false r e = record { write = Put (final q (removed q) r); found = e; is = unmarked_by (is_unmarked q (removed q) r) r }

  pub shown_written : (x : List ℕ) (p : NamedOp) (r : Record) → put_at (puts_in q.ops) x ≡ Some p → record_at (working q) x ≡ Some r → IsWritten (writes q (removed q)) (stamped q r)
  shown_written x p r at is =
      let name : x ≡ r.name = same-true x r.name (found-name (working q) x r is) in
      let put : is_put q x ≡ true = or_left (list_any (λ (t : NamedOp). same x t.name) (puts_in q.ops)) (list_any (is_new_share_of q.seen x) (working q)) (any_put (puts_in q.ops) x p at) in
      let there : record_at (after_puts q) x ≡ Some r = after_is q pasts fine true (Some r) (record_at q.rows x) x put is refl
      ∙ ap (λ b. Some (if b then record r { body = body_without q.caller.user r.body } else r)) (unleft x p r at is) in
      let found = found_write (write_of q (removed q)) (write_named q (removed q)) (after_puts q) x r (after_in_order q pasts fine) there in
      let written : is_written q (removed q) r ≡ true = or_left (is_put q r.name) _ (subst (λ y. is_put q y ≡ true) name put) in
      shown_by (is_in (removed q) r.name) r (subst (λ y. find (λ w. same y (written_name w)) (writes q (removed q)) ≡ write_of q (removed q) r) name found
      ∙ ap (λ b. write_by q (removed q) (is_in (removed q) r.name) b r) written)

  -- ---- what is allowed

  no_new_share : is_shared q.caller.scope ≡ true → (s : Record) (x : List ℕ) → record_at (working q) s.name ≡ Some s → is_new_share_of q.seen x s ≡ true → ⊥
  no_new_share shared s x at e =
      let parts = and_parts (is_share_of x s) _ e in
      let unseen : record_at q.seen s.name ≡ None = unseen_of q.seen s.name (record_at q.seen s.name) refl parts.1 in
      let new = new-in-working q pasts fine s.name s unseen at in
      let g = ground q pasts in
      let name : s.name ≡ new.put.name = same-true s.name new.put.name (put-name (puts_in q.ops) s.name new.put new.at) in
      let missing : not (is_there q.seen new.put.name) ≡ true = subst (λ y. not (is_there q.seen y) ≡ true) name parts.1 in
      let begun : begins g new.put ≡ true = and_from (makes_new new.put.kind) _ new.makes (and_from (not (is_there q.seen new.put.name)) _ missing (typed x s new.put new.is parts.0)) in
      both_ways (is_denied g new.put) (checked q pasts fine s.name new.put new.at).permitted
      (and_from (is_shared q.caller.scope) _ shared (or_left (is_of_share g new.put) _ (or_left (begins g new.put) (is_old_share g new.put) begun)))

  unmarked_by_new : is_shared q.caller.scope ≡ true → (x : List ℕ) → list_any (is_new_share_of q.seen x) (working q) ≡ true → ⊥
  unmarked_by_new shared x e =
      let s = found-any (is_new_share_of q.seen x) (working q) (ascending-working q fine.seen_in_order) e in
      no_new_share shared s.0 x s.1 s.2

  -- a share that only the working view has is begun by a put
  begun_by : (s : Record) (x : List ℕ) → record_at (working q) s.name ≡ Some s → is_new_share_of q.seen x s ≡ true
      → list_any (λ (p : NamedOp). begins_share q.seen p && is_some_and (same x) (root_given p.draft)) (puts_in q.ops) ≡ true
  begun_by s x at e =
      let parts = and_parts (is_share_of x s) _ e in
      let new = new-in-working q pasts fine s.name s (unseen_of q.seen s.name (record_at q.seen s.name) refl parts.1) at in
      let name : s.name ≡ new.put.name = same-true s.name new.put.name (put-name (puts_in q.ops) s.name new.put new.at) in
      let missing : not (is_there q.seen new.put.name) ≡ true = subst (λ y. not (is_there q.seen y) ≡ true) name parts.1 in
      let begun : begins_share q.seen new.put ≡ true = and_from (makes_new new.put.kind) _ new.makes (and_from (not (is_there q.seen new.put.name)) _ missing (typed x s new.put new.is parts.0)) in
      any-found (λ (p : NamedOp). begins_share q.seen p && is_some_and (same x) (root_given p.draft)) (puts_in q.ops) s.name new.put new.at
      (and_from (begins_share q.seen new.put) _ begun (rooted x s new.put new.is parts.0))

  marked_by : (b : Bool) (x : List ℕ) → is_private q.caller.scope ≡ b → list_any (is_new_share_of q.seen x) (working q) ≡ true → has_begun_share q x ≡ true
  marked_by true x scope e =
      let s = found-any (is_new_share_of q.seen x) (working q) (ascending-working q fine.seen_in_order) e in
      and_from (is_private q.caller.scope) _ scope (begun_by s.0 x s.1 s.2)
  marked_by false x scope e = absurd (unmarked_by_new (ap not scope) x e)

  allowed_by : (goes : Bool) (a : Record) (w : Write) → is_in (removed q) a.name ≡ goes → (written : Bool) → is_written q (removed q) a ≡ written → write_by q (removed q) goes written a ≡ Some w → IsAllowed q (removed q) w
  allowed_by true a w gone true is e = subst (IsAllowed q (removed q)) (same_Some (PutRemove a.name) w e) gone
  allowed_by true a w gone false is e = subst (IsAllowed q (removed q)) (same_Some (Remove a.name) w e) gone
  allowed_by false a w gone false is e = absurd (none_written w e)
  allowed_by false a w gone true is e = subst (IsAllowed q (removed q)) (same_Some (Put (final q (removed q) a)) w e) (⊎_elim
      (λ (h : is_put q a.name ≡ true). ⊎_elim
      (λ (i : list_any (λ (p : NamedOp). same a.name p.name) (puts_in q.ops) ≡ true). inl i)
      (λ (i : list_any (is_new_share_of q.seen a.name) (working q) ≡ true). inr (inr (inl (marked_by (is_private q.caller.scope) a.name refl i))))
      (or_cases (list_any (λ (p : NamedOp). same a.name p.name) (puts_in q.ops)) (list_any (is_new_share_of q.seen a.name) (working q)) h))
      (λ (h : (is_left q a || is_unmarked q (removed q) a) ≡ true). ⊎_elim
      (λ (i : is_left q a ≡ true). inr (inl i))
      (λ (i : is_unmarked q (removed q) a ≡ true). inr (inr (inr (and_parts (not (is_in (removed q) a.name)) _ i).1)))
      (or_cases (is_left q a) (is_unmarked q (removed q) a) h))
      (or_cases (is_put q a.name) (is_left q a || is_unmarked q (removed q) a) is))

  pub all_allowed : AllByRecursion (IsAllowed q (removed q)) (writes q (removed q))
  all_allowed = all_written (IsAllowed q (removed q)) (write_of q (removed q)) (after_puts q) (after_in_order q pasts fine)
      (λ x a w at e. allowed_by (is_in (removed q) a.name) a w refl (is_written q (removed q) a) refl e)

-- ---- at a log

-- the writes of a commit, where it is made
pub made_writes : (q : Request) (ws : List Write) → writes_made (commits_with q ws) ≡ ws
made_writes q [] = refl
made_writes q (w ∷ ws) = append-nil (w ∷ ws)

module _ (caller : Caller) (moment : ℕ) (log : List Commit) (ops : List NamedOp)
    (lawful : are_lawful [] log ≡ true) (there : (zone_at log caller.key).there ≡ true) (roots : has_twice (roots_in ops) ≡ false) where
  abbrev its_request : Request
  its_request = request_at caller moment log ops

  its_writes : (P : Write → Type 0) → ((judged : has_fault (judgement_at caller moment log ops) ≡ false) → AllByRecursion P (writes its_request (removed its_request)))
      → (b : Bool) → has_fault (judgement_at caller moment log ops) ≡ b → AllByRecursion P (writes_made (if b then [] else effect its_request))
  its_writes P each true judged = tt
  its_writes P each false judged = subst (AllByRecursion P) (sym (made_writes its_request (writes its_request (removed its_request)))) (each judged)

  stamps_at : AllByRecursion (IsStamped (zone_at log caller.key).rows (record { moment = moment; user = caller.user })) (writes_made (effect_at caller moment log ops))
  stamps_at = its_writes (IsStamped (zone_at log caller.key).rows (stamp its_request)) (λ judged. all_stamped its_request _ (is_fine caller moment log ops lawful there roots judged)) (has_fault (judgement_at caller moment log ops)) refl

  allowed_at : AllByRecursion (IsAllowed its_request (removed its_request)) (writes_made (effect_at caller moment log ops))
  allowed_at = its_writes (IsAllowed its_request (removed its_request)) (λ judged. all_allowed its_request _ (is_fine caller moment log ops lawful there roots judged)) (has_fault (judgement_at caller moment log ops)) refl

  -- outcomes

  abbrev IsOffered : List NamedOp → Type 0
  IsOffered some = (x : List ℕ) → list_any (λ (t : NamedOp). same x t.name) (puts_in some) ≡ true → list_any (λ (t : NamedOp). same x t.name) (puts_in ops) ≡ true

  done_shown : (judged : has_fault (judgement_at caller moment log ops) ≡ false) (op : NamedOp) (d : Bool) → (d ≡ false → list_any (λ (t : NamedOp). same op.name t.name) (puts_in ops) ≡ true)
      → (o : Option Record) → record_at (working its_request) op.name ≡ o
      → IsShownWritten (writes its_request (removed its_request)) (option_map_or (λ r. Answered (stamped its_request r)) (if d then None else o) (Deleted op.name))
  done_shown judged op true offered o is = tt
  done_shown judged op false offered None is = tt
  done_shown judged op false offered (Some r) is =
      let p = found_put (puts_in ops) op.name (offered refl) in
      shown_written its_request _ (is_fine caller moment log ops lawful there roots judged) op.name p.0 r p.1 is

  shown_step : (d : Bool) (op : NamedOp) (some : List NamedOp) → is_deletion op.kind ≡ d
      → ((x : List ℕ) → list_any (λ (t : NamedOp). same x t.name) (if not d then op ∷ puts_in some else puts_in some) ≡ true
      → list_any (λ (t : NamedOp). same x t.name) (puts_in ops) ≡ true)
      → (IsOffered some → AllByRecursion (IsShownWritten (writes its_request (removed its_request))) (map (done its_request) some))
      → (judged : has_fault (judgement_at caller moment log ops) ≡ false)
      → AllByRecursion (IsShownWritten (writes its_request (removed its_request))) (map (done its_request) (op ∷ some))
  shown_step true op some is offered rest judged =
      (done_shown judged op (is_deletion op.kind) (λ e. absurd (both_ways (is_deletion op.kind) e is)) (record_at (working its_request) op.name) refl, rest offered)
  shown_step false op some is offered rest judged = (
    done_shown judged op (is_deletion op.kind) (λ e. offered op.name (or_left (same op.name op.name) _ (same-refl op.name))) (record_at (working its_request) op.name) refl,
    rest (λ x i. offered x (or_right (same x op.name) _ i)),
  )

  all_done : has_fault (judgement_at caller moment log ops) ≡ false → (some : List NamedOp) → IsOffered some → AllByRecursion (IsShownWritten (writes its_request (removed its_request))) (map (done its_request) some)
  all_done judged [] offered = tt
  all_done judged (op ∷ some) offered = shown_step (is_deletion op.kind) op some refl offered (λ within. all_done judged some within) judged

  shown_zip : (ws : List Write) (some : List NamedOp) (faults : List (Option OpFault)) → AllByRecursion (IsShownWritten ws) (map (done its_request) some) → AllByRecursion (IsShownWritten ws) (map (outcome_of its_request) (zip some faults))
  shown_zip ws [] faults all = tt
  shown_zip ws (op ∷ some) [] all = tt
  shown_zip ws (op ∷ some) (None ∷ faults) all = (all.0, shown_zip ws some faults all.1)
  shown_zip ws (op ∷ some) (Some fault ∷ faults) all = (tt, shown_zip ws some faults all.1)

  refused_zip : (ws : List Write) (some : List NamedOp) (faults : List (Option OpFault)) → list_all is_some faults ≡ true → AllByRecursion (IsShownWritten ws) (map (outcome_of its_request) (zip some faults))
  refused_zip ws [] faults all = tt
  refused_zip ws (op ∷ some) [] all = tt
  refused_zip ws (op ∷ some) (None ∷ faults) all = absurd (both_ways false refl all)
  refused_zip ws (op ∷ some) (Some fault ∷ faults) all = (tt, refused_zip ws some faults all)

  shown_at : (b : Bool) → has_fault (judgement_at caller moment log ops) ≡ b → AllByRecursion (IsShownWritten (writes_made (if b then [] else effect its_request))) (modified_as_one caller moment log ops).outcomes
  shown_at true judged = refused_zip [] ops (judgement_at caller moment log ops) (all-refused (faults_of (grounds_of caller (name_history log caller.key ops) (view_of log caller.user caller.scope caller.key).rows ops) ops) judged)
  shown_at false judged = subst (λ ws. AllByRecursion (IsShownWritten ws) (modified_as_one caller moment log ops).outcomes) (sym (made_writes its_request (writes its_request (removed its_request))))
      (shown_zip (writes its_request (removed its_request)) ops (judgement_at caller moment log ops) (all_done judged ops (λ x i. i)))

pub stamps_set : StampsAreSet
stamps_set caller moment log ops lawful there roots = stamps_at caller moment log ops (in_turn_back [] log lawful) there roots

pub outcomes_written : OutcomesAreWritten
outcomes_written caller moment log ops lawful there roots = shown_at caller moment log ops (in_turn_back [] log lawful) there roots (has_fault (judgement_at caller moment log ops)) refl

-- ---- any least set

alike : (a b : Bool) → (a ≡ true → b ≡ true) → (b ≡ true → a ≡ true) → a ≡ b
alike true b there back = sym (there refl)
alike false true there back = back refl
alike false false there back = refl

least_is : (q : Request) (gone : List (List ℕ)) → IsLeast (after_puts q) (names_taken q.caller q.seen q.ops) gone → (x : List ℕ) → is_in gone x ≡ is_in (removed q) x
least_is q gone least x =
    let both = least-same (after_puts q) (names_taken q.caller q.seen q.ops) gone least x in
    alike (is_in gone x) (is_in (removed q) x) both.0 both.1

module _ (q : Request) (gone : List (List ℕ)) (is : (x : List ℕ) → is_in gone x ≡ is_in (removed q) x) where
  allowed_one : (w : Write) → IsAllowed q (removed q) w → IsAllowed q gone w
  allowed_one (Put r) (inl asked) = inl asked
  allowed_one (Put r) (inr (inl left)) = inr (inl left)
  allowed_one (Put r) (inr (inr (inl begun))) = inr (inr (inl begun))
  allowed_one (Put r) (inr (inr (inr lost))) = inr (inr (inr ((λ i. list_any (λ (s : Record). is_share_of r.name s && is s.name i) (after_puts q)) ∙ lost)))
  allowed_one (Remove x) e = is x ∙ e
  allowed_one (PutRemove x) e = is x ∙ e

  allowed_all : (ws : List Write) → AllByRecursion (IsAllowed q (removed q)) ws → AllByRecursion (IsAllowed q gone) ws
  allowed_all [] all = tt
  allowed_all (w ∷ ws) all = (allowed_one w all.0, allowed_all ws all.1)

pub writes_allowed : WritesAreAllowed
writes_allowed = record {
  writes = λ caller moment log ops lawful there roots gone least.
      let q = request_at caller moment log ops in
      allowed_all q gone (least_is q gone least) (writes_made (effect_at caller moment log ops)) (allowed_at caller moment log ops (in_turn_back [] log lawful) there roots);
  asked = asked_permitted;
}

writes_alike : (q : Request) (some gone : List (List ℕ)) → ((x : List ℕ) → is_in some x ≡ is_in gone x) → writes q some ≡ writes q gone
writes_alike q some gone is i = filter_map (λ (r : Record).
    let unmarked : Bool = not (is r.name i) && list_any (λ (s : Record). is_share_of r.name s && is s.name i) (after_puts q) in
    let written : Bool = is_put q r.name || (is_left q r || unmarked) in
    write_as (is r.name i) written (record (stamped q r) { share = if unmarked then None else r.share })) (after_puts q)

least_writes : (q : Request) (gone : List (List ℕ)) → IsLeast (after_puts q) (names_taken q.caller q.seen q.ops) gone → writes q gone ≡ writes q (removed q)
least_writes q gone least = writes_alike q gone (removed q) (least_is q gone least)

pub any_least : AnyLeastSetWillDo
any_least q gone least = ap (commits_with q) (least_writes q gone least)
