-- Of a request without a fault: no parent goes while its child stays.
use Rattle.std.proofs.Common.{◌≡◌, ℕ, List, Bool, true, false, not, ◌&&◌, ◌||◌, refl, sym, ap, ◌∙◌, subst, Some, None, Option, inl, inr, ⊎_elim}
use Rattle.std.specs.Prelude.{◌⊎◌, option_map}
use Rattle.std.specs.Option.{option_map_or}
use Rattle.std.specs.List.{list_any}
use Rattle.std.proofs.lemmas.Bool.{both_ways, and_from, or_left, or_right, false_from_ne_true}
use Rattle.std.proofs.lemmas.Option.{same_Some}
use Rattle.record_model.specs.declared.value.RefTo.{RefTo}
use Rattle.record_model.specs.declared.value.Value.{Value}
use Rattle.record_model.specs.declared.records.Record.{Record}
use Rattle.zone_model.specs.declared.operations.Past.{Past}
use Rattle.zone_model.specs.Names.{same, is_in}
use Rattle.name_rules.specs.Options.{is_some_and}
use Rattle.zone_model.specs.Records.{record_at, is_share}
use Rattle.zone_model.specs.References.{goes_with, wants, references_in, deletes_self}
use Rattle.zone_model.specs.Ancestry.{is_ancestor}
use Rattle.name_rules.specs.Parents.{here}
use Rattle.zone_model.specs.Requests.{NamedOp, puts_in, names_deleted}
use Rattle.zone_model.specs.Working.{is_new_share_of, mark_of, with_puts, is_share_of}
use Rattle.zone_model.specs.Grounds.{is_taken_by_deletion}
use Rattle.zone_model.specs.DeletionChecks.{holds_back}
use Rattle.zone_model.specs.Cascade.{takes_along}
use Rattle.zone_model.specs.Effect.{Request, working, is_put, after_leaving, after_puts, removed}
use Rattle.name_rules.proofs.NameLemmas.{same-true, same-refl, any-weaker, any-within}
use Rattle.zone_laws.proofs.AncestryLaws.{is_ancestor_from}
use Rattle.zone_laws.proofs.RecordLaws.{found-name}
use Rattle.zone_laws.proofs.WorkingLaws.{put_at, put_over, found-working}
use Rattle.zone_laws.proofs.JudgeLaws.{taken-unheld, in-filter}
use Rattle.zone_laws.proofs.CoreLaws.{Core, core, leaving-core, changed_at, working-core}
use Rattle.zone_laws.proofs.KeptLaws.{ground, IsFine, any_put, new-in-working, old-after, added-after, after_is, reached, working-judged}
use Rattle.zone_laws.proofs.ParentLaws.{plain-found, none-passes, zone-parent, taken, due-gone, along-gone, taken-seen, taken-gone}

-- what goes with a name goes by its fields
pub goes-by_fields : (t : List ℕ) (r s : Record) → r.fields ≡ s.fields → goes_with t r ≡ goes_with t s
goes-by_fields t r s e = ap (λ fields. list_any (λ (field : List ℕ × Value). list_any (λ (o : RefTo). deletes_self o.action && same t o.name) (references_in field.1)) fields) e

module _ (q : Request) (pasts : List Past) (fine : IsFine q pasts) where
  -- ---- the working view keeps what is seen

  pub seen-core : (x : List ℕ) (v w : Record) (seen : record_at q.seen x ≡ Some v) → record_at (working q) x ≡ Some w
      → core w ≡ core (changed_at q.seen (puts_in q.ops) x (put_at (puts_in q.ops) x) v refl seen).row
  seen-core x v w seen is =
      let puts = puts_in q.ops in
      let c = changed_at q.seen puts x (put_at puts x) v refl seen in
      same_Some (core w) (core c.row) (sym (ap (option_map core) is) ∙ working-core q.caller.scope q.seen q.ops x ∙ ap (λ o. option_map core (put_over q.seen (put_at puts x) o)) seen ∙ ap (option_map core) c.is)

  pub seen-stays : (x : List ℕ) (v : Record) → record_at q.seen x ≡ Some v → (w : Record) × (record_at (working q) x ≡ Some w)
  seen-stays x v seen =
      let puts = puts_in q.ops in
      let c = changed_at q.seen puts x (put_at puts x) v refl seen in
      let mark : Record → Record = λ r. record r { share = mark_of q.caller.scope q.seen q.ops (with_puts q.seen q.ops) r } in
      (mark c.row, found-working q.seen q.caller.scope q.ops x ∙ ap (λ o. option_map mark (put_over q.seen (put_at puts x) o)) seen ∙ ap (option_map mark) c.is)

  put_none : (i : Option NamedOp) (x : List ℕ) → put_at (puts_in q.ops) x ≡ i → is_put q x ≡ false → i ≡ None
  put_none None x at off = refl
  put_none (Some p) x at off = absurd (both_ways (is_put q x) off (or_left (list_any (λ (t : NamedOp). same x t.name) (puts_in q.ops)) (list_any (is_new_share_of q.seen x) (working q)) (any_put (puts_in q.ops) x p at)))

  -- a name that is not put has no put
  pub no-put : (x : List ℕ) → is_put q x ≡ false → put_at (puts_in q.ops) x ≡ None
  no-put x off = put_none (put_at (puts_in q.ops) x) x refl off

  fields_by : (b : Bool) (o : Option Record) (x : List ℕ) (a w : Record) → is_put q x ≡ b → record_at q.seen x ≡ o → record_at (after_puts q) x ≡ Some a → record_at (working q) x ≡ Some w → a.fields ≡ w.fields
  fields_by true o x a w put seen at is =
      let one : after_leaving q w ≡ a = put_row (record_at q.rows x) refl in
      ap (λ (r : Record). r.fields) (sym one) ∙ ap (λ (t : Core). t.fields) (leaving-core q w)
    where
      put_row : (z : Option Record) → record_at q.rows x ≡ z → after_leaving q w ≡ a
      put_row z there = same_Some (after_leaving q w) a (sym (after_is q pasts fine true (Some w) z x put is there) ∙ at)
  fields_by false None x a w put unseen at is =
      let new = new-in-working q pasts fine x w unseen is in
      absurd (none_put_at new.put (sym (no-put x put) ∙ new.at))
    where
      none_put_at : (p : NamedOp) → None ≡ Some p → ⊥
      none_put_at p e = both_ways false refl (ap (λ (t : Option NamedOp). option_map_or (λ _. true) t false) e)
  fields_by false (Some v) x a w put seen at is =
      let there = fine.part.part x v seen in
      let one : after_leaving q v ≡ a = same_Some (after_leaving q v) a (sym (after_is q pasts fine false (Some w) (Some v) x put is there) ∙ at) in
      let c = changed_at q.seen (puts_in q.ops) x (put_at (puts_in q.ops) x) v refl seen in
      ap (λ (r : Record). r.fields) (sym one) ∙ ap (λ (t : Core). t.fields) (leaving-core q v)
      ∙ ap (λ (r : Record). r.fields) (sym (c.unput (no-put x put))) ∙ ap (λ (t : Core). t.fields) (sym (seen-core x v w seen is))

  -- a record of the working view has the fields that it has after the puts
  pub fields-same : (x : List ℕ) (a w : Record) → record_at (after_puts q) x ≡ Some a → record_at (working q) x ≡ Some w → a.fields ≡ w.fields
  fields-same x a w at is = fields_by (is_put q x) (record_at q.seen x) x a w refl refl at is

  -- ---- a child of a name that a deletion takes

  -- a child that stands after the puts, whose parent is seen, is in the working view
  child_by : (o : Option Record) (x p : List ℕ) (a v : Record) → record_at q.rows x ≡ o → record_at (after_puts q) x ≡ Some a → a.parent ≡ Some p → record_at q.seen p ≡ Some v → (w : Record) × (record_at (working q) x ≡ Some w)
  child_by (Some z) x p a v there at is seen =
      let old = old-after q pasts fine x z there in
      let one : old.row ≡ a = same_Some old.row a (sym old.at ∙ at) in
      let parent : z.parent ≡ Some p = sym old.parent ∙ ap (λ (r : Record). r.parent) one ∙ is in
      let plain = plain-found q.rows p (zone-parent q pasts fine x p z there parent).0 in
      let same_row : v ≡ plain.0 = same_Some v plain.0 (sym (fine.part.part p v seen) ∙ plain.1) in
      seen-stays x z (fine.part.below x p z v there parent seen (ap is_share same_row ∙ plain.2))
  child_by None x p a v absent at is seen = let added = added-after q pasts fine x a absent at in (added.row, added.at)

  seen_parent : (o : Option Record) (x : List ℕ) (a w : Record) → record_at q.seen x ≡ o → record_at (after_puts q) x ≡ Some a → record_at (working q) x ≡ Some w → w.parent ≡ a.parent
  seen_parent o x a w seen at is =
      let r = reached q pasts fine x w is in
      let one : r.row ≡ a = same_Some r.row a (sym r.at ∙ at) in
      sym r.parent ∙ ap (λ (t : Record). t.parent) one

  exempt : (a b c : Bool) → a ≡ true → (a && (not b && not c)) ≡ false → (b ≡ true) ⊎ (c ≡ true)
  exempt true true c yes_a e = inl refl
  exempt true false true yes_a e = inr refl
  exempt true false false yes_a e = absurd (both_ways true e refl)
  exempt false b c yes_a e = absurd (both_ways false refl yes_a)

  -- where a deletion takes the parent, the child goes
  child-goes : (x p : List ℕ) (a : Record) → record_at (after_puts q) x ≡ Some a → a.parent ≡ Some p → is_in (taken q pasts fine) p ≡ true → is_in (removed q) x ≡ true
  child-goes x p a at is takes =
      let g = ground q pasts in
      let v = taken-seen q pasts fine p takes in
      let w = child_by (record_at q.rows x) x p a v.0 refl at is v.1 in
      let r = working-judged q pasts fine x w.0 w.1 in
      let deleted = (in-filter (is_taken_by_deletion q.caller q.seen) (names_deleted q.ops) p takes).0 in
      let unheld = none-passes (holds_back g p) g.working x r.0 (taken-unheld g q.ops p fine.judged deleted takes) r.1 in
      let parent : r.0.parent ≡ Some p = ap (λ (t : Core). t.parent) r.2 ∙ seen_parent (record_at q.seen x) x a w.0 refl at w.1 ∙ is in
      let child : (is_some_and (same p) r.0.parent || wants p r.0) ≡ true = or_left (is_some_and (same p) r.0.parent) (wants p r.0) (ap (is_some_and (same p)) parent ∙ same-refl p) in
      let fields : r.0.fields ≡ a.fields = ap (λ (t : Core). t.fields) r.2 ∙ sym (fields-same x a w.0 at w.1) in
      ⊎_elim
      (λ (t : is_in (taken q pasts fine) r.0.name ≡ true). taken-gone q pasts fine x (subst (λ y. is_in (taken q pasts fine) y ≡ true) (sym (same-true x r.0.name (found-name g.working x r.0 r.1))) t))
      (λ (t : list_any (λ y. goes_with y r.0) (taken q pasts fine) ≡ true). due-gone q pasts fine x a at (or_right (is_in (taken q pasts fine) a.name) _
      (any-within (λ y. takes_along (after_puts q) (taken q pasts fine) y a) (taken q pasts fine) (removed q) (λ y i. taken-gone q pasts fine y i)
      (any-weaker (λ y. goes_with y r.0) (λ y. takes_along (after_puts q) (taken q pasts fine) y a) (λ y e. or_left (goes_with y a) _ (sym (goes-by_fields y r.0 a fields) ∙ e)) (taken q pasts fine) t))))
      (exempt (is_some_and (same p) r.0.parent || wants p r.0) (is_in (taken q pasts fine) r.0.name) (list_any (λ y. goes_with y r.0) (taken q pasts fine)) child unheld)

  goes_by : (b : Bool) (x p : List ℕ) (a : Record) → is_in (taken q pasts fine) p ≡ b → record_at (after_puts q) x ≡ Some a → a.parent ≡ Some p → is_in (removed q) p ≡ true → is_in (removed q) x ≡ true
  goes_by true x p a takes at is gone = child-goes x p a at is takes
  goes_by false x p a takes at is gone = along-gone q pasts fine x p a at gone
      (or_right (goes_with p a) _ (or_left (not (is_in (taken q pasts fine) p) && is_some_and (is_ancestor (after_puts q) p) a.parent) (is_share_of p a)
      (and_from (not (is_in (taken q pasts fine) p)) _ (ap not takes) (ap (is_some_and (is_ancestor (after_puts q) p)) is ∙ is_ancestor_from (after_puts q) p p (here p refl)))))

  -- no parent goes while its child stays
  pub parent-stays : (x p : List ℕ) (a : Record) → record_at (after_puts q) x ≡ Some a → a.parent ≡ Some p → is_in (removed q) x ≡ false → is_in (removed q) p ≡ false
  parent-stays x p a at is stays = false_from_ne_true (is_in (removed q) p) (λ e. both_ways (is_in (removed q) x) stays (goes_by (is_in (taken q pasts fine) p) x p a refl at is e))
