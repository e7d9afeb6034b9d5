-- In the shared scope operations that put find the same sights where what the user sees is the same, and the past of what they offer.
use Rattle.std.proofs.Common.{◌≡◌, ℕ, suc, List, [], ◌∷◌, length, Bool, true, false, cond, not, ◌&&◌, ◌||◌, refl, sym, ap, ◌∙◌, subst, map, Some, None, Option, ⊎_elim}
use Rattle.std.specs.Prelude.{filter, filter_map, fold, is_some, option_map, if◌then◌else◌}
use Rattle.std.specs.Option.{option_map_or}
use Rattle.std.specs.List.{list_any, cons_option}
use Rattle.std.proofs.Math.Bool.{and-false, or-false}
use Rattle.std.proofs.lemmas.Bool.{both_ways, not-true, and_parts, and_from, or_cases, true_from_ne_false, false_from_ne_true, cond-true}
use Rattle.std.proofs.lemmas.Option.{same_Some}
use Rattle.ck_base.specs.declared.key.ZoneKey.{ZoneKey}
use Rattle.ck_base.specs.declared.scope.Scope.TheVariants.{Shared}
use Rattle.share_records.specs.declared.share.Share.{Share as ShareOf}
use Rattle.record_model.specs.declared.records.Record.{Record}
use Rattle.name_rules.specs.Options.{is_some_and}
use Rattle.name_rules.proofs.NameLemmas.{same-true, same-refl}
use Rattle.zone_model.specs.declared.operations.Past.{Past}
use Rattle.zone_model.specs.declared.commits.Write.TheVariants.{Put}
use Rattle.zone_model.specs.declared.commits.Act.TheVariants.{Writes}
use Rattle.zone_model.specs.Names.{same, is_in}
use Rattle.zone_model.specs.Records.{record_at, is_there, is_share, share_of}
use Rattle.zone_model.specs.Zones.{after_write}
use Rattle.zone_model.specs.Views.{is_visible}
use Rattle.zone_model.specs.Requests.{Caller, NamedOp, is_deletion, makes_new, has_share_type, root_given, names_deleted, puts_in}
use Rattle.zone_model.specs.Putting.{new_record, written_over}
use Rattle.zone_model.specs.Working.{is_share_of, is_new_share_of, with_puts, mark_of}
use Rattle.zone_model.specs.Grounds.{is_taken_by_deletion}
use Rattle.zone_model.specs.PutChecks.{is_new, is_missing}
use Rattle.zone_model.specs.Cascade.{removed_names}
use Rattle.zone_model.specs.Effect.{Request, working, is_asked, is_marked, is_put, is_left, body_without, after_leaving, after_puts, removed, stamp, stamped, write_as, is_unmarked, is_written, final, write_of, writes}
use Rattle.zone_laws.specs.Laws.{IsPermittedOp}
use Rattle.zone_laws.proofs.RecordLaws.{none-some, found-name, found-kept, found-dropped}
use Rattle.zone_laws.proofs.OrderLaws.{ascending-some, ascending-act}
use Rattle.zone_laws.proofs.WorkingLaws.{put_at, put_over, found-working}
use Rattle.zone_laws.proofs.AfterLaws.{ascending-working, settle, found-settled, found-nothing}
use Rattle.zone_laws.proofs.CoreLaws.{Core, share-core, root_begun, new-root, none_put}
use Rattle.zone_laws.proofs.JudgeLaws.{there-found}
use Rattle.zone_laws.proofs.AloneLaws.{any_none, some_not, none_reached}
use Rattle.zone_laws.proofs.KeptLaws.{ground, IsFine, checked, is-new, seen-in-working, new-in-working, after_is}
use Rattle.zone_laws.proofs.ParentLaws.{after_in_order}
use Rattle.zone_laws.proofs.HoldLaws.{seen-stays}
use Rattle.zone_laws.proofs.MarkLaws.{any-found}
use Rattle.board_laws.proofs.ViewAfterLaws.{same_rows, Becomes, seen_alike_after}

right_of : (a b : Bool) → a ≡ true → (a && b) ≡ false → b ≡ false
right_of true b is e = e
right_of false b is e = absurd (both_ways false refl is)

shared_is : (o : Option ShareOf) (x : List ℕ) → is_some_and (λ (s : ShareOf). same x s.root) o ≡ true → is_some o ≡ true
shared_is None x e = e
shared_is (Some s) x e = refl

-- ---- one put, where the user sees these records

module _ (user : List ℕ) (key : ZoneKey) (moment : ℕ) (seen : List Record) (op : NamedOp) (pasts : List Past) where
  abbrev its_caller : Caller
  its_caller = record { user = user; scope = Shared; key = key }

  abbrev name : List ℕ
  name = op.name

  -- in a zone with these records, and these counts of puts
  abbrev pub request_in : List Record → (List ℕ → ℕ) → Request
  request_in rows puts = record { caller = its_caller; moment = moment; seen = seen; rows = rows; puts = puts; ops = op ∷ [] }

  module _ (rows : List Record) (puts : List ℕ → ℕ) (puts_one : is_deletion op.kind ≡ false) where
    abbrev q : Request
    q = request_in rows puts

    none_deleted : names_deleted (op ∷ []) ≡ []
    none_deleted = ap (λ d. map (λ (p : NamedOp). p.name) (cond d (op ∷ []) [])) puts_one

    pub none_removed : removed q ≡ []
    none_removed = ap (λ names. removed_names (after_puts q) (filter (is_taken_by_deletion its_caller seen) names)) none_deleted ∙ none_reached (after_puts q) (length (after_puts q))

    none_left : (r : Record) → is_left q r ≡ false
    none_left r = ap (λ names. is_in names r.name && (is_share r && is_there seen r.name)) none_deleted

    stays : (r : Record) → after_leaving q r ≡ r
    stays r = ap (λ b. if b then record r { body = body_without user r.body } else r) (none_left r)

    none_unmarked : (r : Record) → is_unmarked q [] r ≡ false
    none_unmarked r = any_none (λ (s : Record). is_share_of r.name s && false) (after_puts q) (λ s. and-false (is_share_of r.name s))

    written_is : (r : Record) → is_written q [] r ≡ is_put q r.name
    written_is r = (λ i. is_put q r.name || (none_left r i || none_unmarked r i)) ∙ or-false (is_put q r.name)

    final_is : (r : Record) → final q [] r ≡ stamped q r
    final_is r = ap (λ b. record (stamped q r) { share = if b then None else r.share }) (none_unmarked r)

    written_by : (b : Bool) (r : Record) → write_as false b r ≡ (if b then Some (Put r) else None)
    written_by true r = refl
    written_by false r = refl

    write_is : (r : Record) → write_of q [] r ≡ (if is_put q r.name then Some (Put (stamped q r)) else None)
    write_is r = (λ i. write_as false (written_is r i) (final_is r i)) ∙ written_by (is_put q r.name) (stamped q r)

    settled_is : (b : Bool) (r : Record) → is_put q r.name ≡ b → settle q [] r ≡ (if b then stamped q r else r)
    settled_is b r is = (λ i. if written_is r i then final_is r i else r) ∙ ap (λ c. if c then stamped q r else r) is

    module _ (fine : IsFine q pasts) (permitted : IsPermittedOp (ground q pasts) op) where
      puts_are : puts_in (op ∷ []) ≡ op ∷ []
      puts_are = ap (λ d. cond (not d) (op ∷ []) []) puts_one

      found_put : (s : Bool) (x : List ℕ) (p : NamedOp) → same x name ≡ s → cond s (Some op) None ≡ Some p → (x ≡ name) × (p ≡ op)
      found_put true x p is e = (same-true x name is, sym (ap (λ o. option_map_or (λ (t : NamedOp). t) o op) e))
      found_put false x p is e = absurd (none_put p e)

      put_is : (x : List ℕ) (p : NamedOp) → put_at (puts_in (op ∷ [])) x ≡ Some p → (x ≡ name) × (p ≡ op)
      put_is x p e = found_put (same x name) x p refl (ap (λ ps. put_at ps x) (sym puts_are) ∙ e)

      -- it begins no share
      new_is_plain : (x : List ℕ) (w : Record) → record_at seen x ≡ None → record_at (working q) x ≡ Some w → is_share w ≡ false
      new_is_plain x w unseen is =
          let new = new-in-working q pasts fine x w unseen is in
          let p = put_is x new.put new.at in
          let free : is_there seen name ≡ false = subst (λ y. is_there seen y ≡ false) p.0 (there-found seen x ∙ ap is_some unseen) in
          let makes : makes_new op.kind ≡ true = ap (λ (t : NamedOp). makes_new t.kind) (sym p.1) ∙ new.makes in
          let typed : has_share_type op.draft ≡ false = right_of (not (is_there seen name)) _ (ap not free) (right_of (makes_new op.kind) _ makes ((permitted.put puts_one).new free).0) in
          share-core w ∙ ap (λ (c : Core). is_some c.root) new.is ∙ ap is_some (new-root new.put) ∙ ap (λ (t : NamedOp). is_some (root_begun t.draft)) p.1
          ∙ ap (λ b. is_some (if b then root_given op.draft else None)) typed

      no_mark : (x : List ℕ) → is_marked q x ≡ false
      no_mark x = false_from_ne_true (is_marked q x) (λ e.
          let t = any-found (is_new_share_of seen x) (working q) (ascending-working q fine.seen_in_order) e in
          let parts = and_parts (is_share_of x t.0) _ t.2 in
          let unseen : record_at seen t.0.name ≡ None = some_not (record_at seen t.0.name) (sym (there-found seen t.0.name) ∙ not-true (is_there seen t.0.name) parts.1) in
          both_ways (is_share t.0) (new_is_plain t.0.name t.0 unseen t.1) (shared_is (share_of t.0) x parts.0))

      -- nothing else is put
      only_its_name : (x : List ℕ) → is_put q x ≡ true → x ≡ name
      only_its_name x e =
          let asked : is_asked q x ≡ true = ⊎_elim (λ (a : is_asked q x ≡ true). a) (λ (m : is_marked q x ≡ true). absurd (both_ways (is_marked q x) (no_mark x) m)) (or_cases (is_asked q x) (is_marked q x) e) in
          same-true x name (sym (or-false (same x name)) ∙ ap (list_any (λ (p : NamedOp). same x p.name)) (sym puts_are) ∙ asked)

      working_by : (o : Option Record) (x : List ℕ) → record_at seen x ≡ o → is_put q x ≡ true → (w : Record) × (record_at (working q) x ≡ Some w)
      working_by (Some v) x is e = seen-stays q pasts fine x v is
      working_by None x unseen e =
          let its = only_its_name x e in
          let at : put_at (puts_in (op ∷ [])) x ≡ Some op = ap (λ ps. put_at ps x) puts_are ∙ cond-true (same x name) (Some op) None (subst (λ y. same x y ≡ true) its (same-refl x)) in
          let new : is_new (ground q pasts) op ≡ true = is-new q pasts fine x op at unseen in
          let makes : makes_new op.kind ≡ true = true_from_ne_false (makes_new op.kind)
          (λ m. both_ways (is_missing (ground q pasts) op) (checked q pasts fine x op at).found (and_from (not (makes_new op.kind)) _ (ap not m) new)) in
          let mark : Record → Record = λ r. record r { share = mark_of Shared seen (op ∷ []) (with_puts seen (op ∷ [])) r } in (
            mark (new_record op),
            found-working seen Shared (op ∷ []) x
                ∙ ap (λ i. option_map mark (put_over seen i (record_at seen x))) at
                ∙ ap (λ o. option_map mark (option_map_or Some (written_over op o) (record_at seen x))) (ap (record_at seen) (sym its) ∙ unseen)
                ∙ ap (λ b. option_map mark (option_map_or Some (if b then Some (new_record op) else None) (record_at seen x))) makes,
          )

      working_at : (x : List ℕ) → is_put q x ≡ true → (w : Record) × (record_at (working q) x ≡ Some w)
      working_at x e = working_by (record_at seen x) x refl e

      plain_by : (o : Option Record) (x : List ℕ) (w : Record) → record_at seen x ≡ o → is_put q x ≡ true → record_at (working q) x ≡ Some w → is_share w ≡ false
      plain_by None x w is e at = new_is_plain x w is at
      plain_by (Some v) x w is e at =
          let its = only_its_name x e in
          let old = ((permitted.put puts_one).old (subst (λ y. is_there seen y ≡ true) its (there-found seen x ∙ ap is_some is))).1 in
          share-core w ∙ ap is_some (seen-in-working q pasts fine x v w is at).root ∙ sym (share-core v) ∙ sym (ap (is_some_and is_share) is) ∙ ap (λ y. is_some_and is_share (record_at seen y)) its ∙ old

      parent_by : (o : Option Record) (x : List ℕ) (w z : Record) → record_at seen x ≡ o → record_at (working q) x ≡ Some w → record_at rows x ≡ Some z → w.parent ≡ z.parent
      parent_by None x w z is at there = absurd (none-some (record_at rows x) z (new-in-working q pasts fine x w is at).absent there)
      parent_by (Some v) x w z is at there = (seen-in-working q pasts fine x v w is at).parent ∙ ap (λ (r : Record). r.parent) (same_Some v z (sym (fine.part.part x v is) ∙ there))

      -- ---- after it

      put_after : (x : List ℕ) (w : Record) → is_put q x ≡ true → record_at (working q) x ≡ Some w → record_at (after_puts q) x ≡ Some w
      put_after x w e is = after_is q pasts fine true (Some w) (record_at rows x) x e is refl ∙ ap Some (stays w)

      abbrev after : List Record
      after = fold after_write rows (writes q [])

      found_after : (x : List ℕ) (w : Record) → is_put q x ≡ true → record_at (working q) x ≡ Some w → record_at after x ≡ Some (stamped q w)
      found_after x w e is =
          found-settled q [] fine.seen_in_order x w (after_in_order q pasts fine) (put_after x w e is)
          ∙ ap Some (settled_is true w (subst (λ y. is_put q y ≡ true) (same-true x w.name (found-name (working q) x w is)) e))

      rest_by : (o : Option Record) (x : List ℕ) → record_at rows x ≡ o → is_put q x ≡ false → record_at after x ≡ o
      rest_by None x is off = found-nothing q [] fine.seen_in_order x (after_in_order q pasts fine) (after_is q pasts fine false (record_at (working q) x) None x off refl is)
      rest_by (Some z) x is off =
          found-settled q [] fine.seen_in_order x z (after_in_order q pasts fine) (after_is q pasts fine false (record_at (working q) x) (Some z) x off refl is ∙ ap Some (stays z))
          ∙ ap Some (settled_is false z (subst (λ y. is_put q y ≡ false) (same-true x z.name (found-name rows x z is)) off))

      becomes : seen ≡ filter (is_visible rows user) rows → (left : List ℕ → Option Record) → ((x : List ℕ) (w : Record) → is_put q x ≡ true → record_at (working q) x ≡ Some w → left x ≡ Some (stamped q w))
          → Becomes user seen rows after (is_put q) left
      becomes view left left_is = record {
        ascending = fine.rows_in_order;
        ascending_after = ascending-act (record { there = true; rows = rows }) (Writes (writes q [])) fine.rows_in_order;
        view = view;
        formed = fine.formed;
        found = λ x e. let w = working_at x e in found_after x w.0 e w.1 ∙ sym (left_is x w.0 e w.1);
        plain = λ x f e is.
            let w = working_at x e in
            subst (λ (r : Record). is_share r ≡ false) (same_Some (stamped q w.0) f (sym (left_is x w.0 e w.1) ∙ is)) (plain_by (record_at seen x) x w.0 refl e w.1);
        parent = λ x f z e is there.
            let w = working_at x e in
            ap (λ (r : Record). r.parent) (sym (same_Some (stamped q w.0) f (sym (left_is x w.0 e w.1) ∙ is))) ∙ parent_by (record_at seen x) x w.0 z refl w.1 there;
        rest = λ x off. rest_by (record_at rows x) x refl off;
      }

  -- ---- in two zones

  module _ (rows rows_too : List Record) (puts puts_too : List ℕ → ℕ) (puts_one : is_deletion op.kind ≡ false) (fine : IsFine (request_in rows puts) pasts) (fine_too : IsFine (request_in rows_too puts_too) pasts)
      (permitted : IsPermittedOp (ground (request_in rows puts) pasts) op) (counted : puts name ≡ puts_too name) (taken : is_there rows name ≡ is_there rows_too name) where
    abbrev one : Request
    one = request_in rows puts

    abbrev other : Request
    other = request_in rows_too puts_too

    stamped_alike : (r : Record) → is_put one r.name ≡ true → stamped one r ≡ stamped other r
    stamped_alike r e =
        let its = sym (only_its_name rows puts puts_one fine permitted r.name e) in
        let c = subst (λ y. puts y ≡ puts_too y) its counted in
        let t = subst (λ y. is_there rows y ≡ is_there rows_too y) its taken in
        λ i. record r { tag = suc (c i); created = if t i then r.created else stamp one; modified = stamp one }

    write_by : (b : Bool) (r : Record) → is_put one r.name ≡ b → (if b then Some (Put (stamped one r)) else None) ≡ (if b then Some (Put (stamped other r)) else None)
    write_by true r is = ap (λ s. Some (Put s)) (stamped_alike r is)
    write_by false r is = refl

    write_alike : (r : Record) → write_of one [] r ≡ write_of other [] r
    write_alike r = write_is rows puts puts_one r ∙ write_by (is_put one r.name) r refl ∙ sym (write_is rows_too puts_too puts_one r)

    abbrev chosen : List Record → List Record
    chosen rs = filter (λ (r : Record). is_put one r.name) rs

    chosen_step : (b : Bool) (r : Record) (rs some : List Record) → is_put one r.name ≡ b → filter_map (write_of one []) rs ≡ filter_map (write_of one []) some
        → cons_option (write_of one [] r) (filter_map (write_of one []) rs) ≡ filter_map (write_of one []) (cond b (r ∷ some) some)
    chosen_step true r rs some is ih = ap (cons_option (write_of one [] r)) ih
    chosen_step false r rs some is ih = ap (λ o. cons_option o (filter_map (write_of one []) rs)) (write_is rows puts puts_one r ∙ ap (λ b. if b then Some (Put (stamped one r)) else None) is) ∙ ih

    -- just what is put is written
    chosen_written : (rs : List Record) → filter_map (write_of one []) rs ≡ filter_map (write_of one []) (chosen rs)
    chosen_written [] = refl
    chosen_written (r ∷ rs) = chosen_step (is_put one r.name) r rs (chosen rs) refl (chosen_written rs)

    chosen_by : (b : Bool) (x : List ℕ) → is_put one x ≡ b → record_at (chosen (after_puts one)) x ≡ record_at (chosen (after_puts other)) x
    chosen_by true x is =
        let w = working_at rows puts puts_one fine permitted x is in
        found-kept (is_put one) (after_puts one) x is ∙ put_after rows puts puts_one fine permitted x w.0 is w.1
        ∙ sym (found-kept (is_put one) (after_puts other) x is ∙ put_after rows_too puts_too puts_one fine_too permitted x w.0 is w.1)
    chosen_by false x is = found-dropped (is_put one) (after_puts one) x is ∙ sym (found-dropped (is_put one) (after_puts other) x is)

    chosen_alike : chosen (after_puts one) ≡ chosen (after_puts other)
    chosen_alike = same_rows (chosen (after_puts one)) (chosen (after_puts other))
        (ascending-some (λ (r : Record). is_put one r.name) (after_puts one) (after_in_order one pasts fine)) (ascending-some (λ (r : Record). is_put one r.name) (after_puts other) (after_in_order other pasts fine_too))
        (λ x f e. sym (chosen_by (is_put one x) x refl) ∙ e) (λ x f e. chosen_by (is_put one x) x refl ∙ e)

    pub writes_alike : writes one [] ≡ writes other []
    writes_alike = chosen_written (after_puts one) ∙ ap (filter_map (write_of one [])) chosen_alike ∙ sym (chosen_written (after_puts other)) ∙ (λ i. filter_map (λ r. write_alike r i) (after_puts other))

    abbrev left : List ℕ → Option Record
    left x = option_map (stamped one) (record_at (working one) x)

    module _ (view : seen ≡ filter (is_visible rows user) rows) (view_too : seen ≡ filter (is_visible rows_too user) rows_too) where
      first_becomes : Becomes user seen rows (after rows puts puts_one fine permitted) (is_put one) left
      first_becomes = becomes rows puts puts_one fine permitted view left (λ x w e is. ap (option_map (stamped one)) is)

      other_becomes : Becomes user seen rows_too (after rows_too puts_too puts_one fine_too permitted) (is_put one) left
      other_becomes = becomes rows_too puts_too puts_one fine_too permitted view_too left
          (λ x w e is. ap (option_map (stamped one)) is ∙ ap Some (stamped_alike w (subst (λ y. is_put one y ≡ true) (same-true x w.name (found-name (working one) x w is)) e)))

      pub view_after : filter (is_visible (fold after_write rows (writes one [])) user) (fold after_write rows (writes one []))
          ≡ filter (is_visible (fold after_write rows_too (writes other [])) user) (fold after_write rows_too (writes other []))
      view_after = seen_alike_after user seen rows rows_too (fold after_write rows (writes one [])) (fold after_write rows_too (writes other [])) (is_put one) left first_becomes other_becomes

      there_by : (b : Bool) (x : List ℕ) → is_put one x ≡ b → is_there rows x ≡ is_there rows_too x → is_there (fold after_write rows (writes one [])) x ≡ is_there (fold after_write rows_too (writes other [])) x
      there_by true x is same_there = there-found (fold after_write rows (writes one [])) x ∙ ap is_some (first_becomes.found x is ∙ sym (other_becomes.found x is)) ∙ sym (there-found (fold after_write rows_too (writes other [])) x)
      there_by false x is same_there =
          there-found (fold after_write rows (writes one [])) x ∙ ap is_some (first_becomes.rest x is) ∙ sym (there-found rows x) ∙ same_there ∙ there-found rows_too x
          ∙ sym (ap is_some (other_becomes.rest x is)) ∙ sym (there-found (fold after_write rows_too (writes other [])) x)

      pub there_alike : (x : List ℕ) → is_there rows x ≡ is_there rows_too x → is_there (fold after_write rows (writes one [])) x ≡ is_there (fold after_write rows_too (writes other [])) x
      there_alike x same_there = there_by (is_put one x) x refl same_there
