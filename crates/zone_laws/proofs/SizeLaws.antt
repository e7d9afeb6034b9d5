-- Of a request without a fault: no record that it writes passes a limit.
use Rattle.std.proofs.Common.{◌≡◌, ℕ, suc, ◌+◌, ◌≤◌, List, [], ◌∷◌, Bool, true, false, cond, not, ◌&&◌, refl, sym, ap, ◌∙◌, subst, arith, Some, None, Option, length, length-append}
use Rattle.std.specs.Prelude.{filter, filter_map, fold, nat_le, nat_lt, sum_by, if◌then◌else◌}
use Rattle.std.specs.Option.{option_map_or}
use Rattle.std.specs.List.{cons_option}
use Rattle.std.proofs.lemmas.Bool.{both_ways, and_parts, and_from, or_parts, ltb-false}
use Rattle.std.proofs.lemmas.Bool.Decides.{nat_tests}
use Rattle.std.proofs.lemmas.Option.{same_Some}
use Rattle.ck_base.specs.Order.{is_before}
use Rattle.share_records.specs.declared.participant.Participant.{Participant}
use Rattle.share_records.specs.declared.participant.Wanted.{Wanted}
use Rattle.share_records.specs.declared.share.Share.{Share as ShareOf}
use Rattle.record_model.specs.declared.draft.Draft.{Draft}
use Rattle.record_model.specs.declared.records.Body.{Body}
use Rattle.record_model.specs.declared.records.Body.TheVariants.{Plain, Share}
use Rattle.record_model.specs.declared.records.Record.{Record}
use Rattle.record_model.specs.RecordSizes.{size_of_field, size_of_record}
use Rattle.zone_model.specs.declared.operations.Past.{Past}
use Rattle.zone_model.specs.Limits.{most_participants, most_record_size}
use Rattle.zone_model.specs.Names.{same}
use Rattle.name_rules.specs.Options.{is_some_and, is_none_or}
use Rattle.record_model.specs.RecordForms.{share_in}
use Rattle.zone_model.specs.Records.{record_at}
use Rattle.zone_model.specs.Requests.{NamedOp, makes_new, changes_old, puts_in, has_share_type, root_given}
use Rattle.zone_model.specs.Sharing.{share_after}
use Rattle.share_records.specs.ShareLists.{participant_at, kept_as, with_participant, rewritten, is_refused_list, first_share}
use Rattle.zone_model.specs.Putting.{new_record, changed_record, written_over, body_after}
use Rattle.zone_laws.specs.LawfulTests.{has_good_parent, has_good_root, has_good_mark, is_within_limits}
use Rattle.zone_model.specs.Effect.{Request, working, body_without, is_put, is_left, after_leaving, after_puts}
use Rattle.share_records.proofs.ListLemmas.{refused-is}
use Rattle.name_rules.proofs.NameLemmas.{same-true, before-asym}
use Rattle.zone_laws.proofs.RecordLaws.{none-some}
use Rattle.zone_laws.proofs.WorkingLaws.{put_at, put_over, found-puts}
use Rattle.zone_laws.proofs.CoreLaws.{put-name}
use Rattle.zone_laws.proofs.KeptLaws.{IsFine, checked, after_is, fits}
use Rattle.zone_laws.proofs.RootLaws.{unmarked}

-- ---- lengths

shorter_step : {X : Type 0} (b : Bool) (x : X) (some : List X) (n : ℕ) → length some ≤ n → length (cond b (x ∷ some) some) ≤ suc n
shorter_step true x some n le = omega (arith, le)
shorter_step false x some n le = omega (arith, le)

length-filter : {X : Type 0} (p : X → Bool) (xs : List X) → length (filter p xs) ≤ length xs
length-filter p [] = omega arith
length-filter p (x ∷ xs) = shorter_step (p x) x (filter p xs) (length xs) (length-filter p xs)

mapped_step : {Y : Type 0} (o : Option Y) (some : List Y) (n : ℕ) → length some ≤ n → length (cons_option o some) ≤ suc n
mapped_step None some n le = omega (arith, le)
mapped_step (Some y) some n le = omega (arith, le)

length-filter_map : {X Y : Type 0} (f : X → Option Y) (xs : List X) → length (filter_map f xs) ≤ length xs
length-filter_map f [] = omega arith
length-filter_map f (x ∷ xs) = mapped_step (f x) (filter_map f xs) (length xs) (length-filter_map f xs)

apart_step : (a b : Bool) (x : Participant) (fs bs : List Participant) (n : ℕ) → (a ≡ true → b ≡ false) → length fs + length bs ≤ n → length (cond a (x ∷ fs) fs) + length (cond b (x ∷ bs) bs) ≤ suc n
apart_step true true x fs bs n apart le = absurd (both_ways true (apart refl) refl)
apart_step true false x fs bs n apart le = omega (arith, le)
apart_step false true x fs bs n apart le = omega (arith, le)
apart_step false false x fs bs n apart le = omega (arith, le)

apart : (u : List ℕ) (ps : List Participant) → length (filter (λ (p : Participant). is_before p.user u) ps) + length (filter (λ (p : Participant). is_before u p.user) ps) ≤ length ps
apart u [] = omega arith
apart u (p ∷ ps) = apart_step (is_before p.user u) (is_before u p.user) p (filter (λ (r : Participant). is_before r.user u) ps) (filter (λ (r : Participant). is_before u r.user) ps) (length ps) (before-asym p.user u) (apart u ps)

length-with : (ps : List Participant) (p : Participant) → length (with_participant ps p) ≤ suc (length ps)
length-with ps p =
    let front = filter (λ (r : Participant). is_before r.user p.user) ps in
    let back = filter (λ (r : Participant). is_before p.user r.user) ps in
    omega (arith, length-append front (p ∷ back), apart p.user ps)

length-fold : (some ps : List Participant) → length (fold with_participant ps some) ≤ length ps + length some
length-fold [] ps = omega arith
length-fold (p ∷ some) ps = omega (arith, length-fold some (with_participant ps p), length-with ps p)

-- a list that the owner gives has no more than it says
length-rewritten : (old : List Participant) (wanted : List Wanted) → length (rewritten old wanted) ≤ length wanted
length-rewritten old wanted =
    let f : Wanted → Option Participant = λ w. kept_as w.kind w (participant_at old w.user) in
    omega (arith, length-fold (filter_map f wanted) [], length-filter_map f wanted)

-- ---- shares within the limit

abbrev IsFew : Option ShareOf → Type 0
IsFew o = is_none_or (λ (s : ShareOf). nat_le (length s.participants) most_participants) o ≡ true

le_true : (m n : ℕ) → m ≤ n → nat_le m n ≡ true
le_true m n e = grind (arith, nat_tests, e)

le_from : (m n : ℕ) → nat_le m n ≡ true → m ≤ n
le_from m n e = grind (arith, nat_tests, e)

few_fewer : (m n : ℕ) → m ≤ n → nat_le n most_participants ≡ true → nat_le m most_participants ≡ true
few_fewer m n e f = le_true m most_participants (omega (arith, e, le_from n most_participants f))

few_wanted : (owner : List ℕ) (old : List Participant) (o : Option (List Wanted)) → is_some_and (is_refused_list owner) o ≡ false → nat_le (length old) most_participants ≡ true
    → nat_le (length (option_map_or (rewritten old) o old)) most_participants ≡ true
few_wanted owner old None fine few = few
few_wanted owner old (Some wanted) fine few =
    let short : length wanted ≤ most_participants = ltb-false most_participants (length wanted) (or_parts (nat_lt most_participants (length wanted)) _ (sym (refused-is owner wanted) ∙ fine)).0 in
    le_true (length (rewritten old wanted)) most_participants (omega (arith, length-rewritten old wanted, short))

few_after : (owner : List ℕ) (b : Body) (d : Draft) → is_some_and (is_refused_list owner) d.participants ≡ false → IsFew (share_in b) → IsFew (share_in (body_after b d))
few_after owner Plain d fine few = refl
few_after owner (Share s) d fine few = few_wanted owner s.participants d.participants fine few

few_new : (owner : List ℕ) (h : Bool) (o : Option (List ℕ)) (d : Draft) (guid : List ℕ) → is_some_and (is_refused_list owner) d.participants ≡ false
    → IsFew (share_in (if h then option_map_or (λ root. Share (share_after (first_share root guid) d)) o Plain else Plain))
few_new owner true None d guid fine = refl
few_new owner true (Some x) d guid fine = few_wanted owner [] d.participants fine refl
few_new owner false o d guid fine = refl

few_without : (u : List ℕ) (b : Body) → IsFew (share_in b) → IsFew (share_in (body_without u b))
few_without u Plain few = few
few_without u (Share s) few = few_fewer (length (filter (λ (p : Participant). not (same u p.user)) s.participants)) (length s.participants) (length-filter (λ (p : Participant). not (same u p.user)) s.participants) few

-- ---- records within the limits

-- it depends on fields and body alone
pub within-same : (r s : Record) → r.fields ≡ s.fields → r.body ≡ s.body → is_within_limits r ≡ is_within_limits s
within-same r s fields body =
    ap (λ f. nat_le (sum_by size_of_field f) most_record_size && is_none_or (λ (t : ShareOf). nat_le (length t.participants) most_participants) (share_in r.body)) fields
    ∙ ap (λ b. nat_le (sum_by size_of_field s.fields) most_record_size && is_none_or (λ (t : ShareOf). nat_le (length t.participants) most_participants) (share_in b)) body

within_left : (q : Request) (b : Bool) (r : Record) → is_within_limits r ≡ true → is_within_limits (if b then record r { body = body_without q.caller.user r.body } else r) ≡ true
within_left q true r e = let parts = and_parts (nat_le (size_of_record r) most_record_size) _ e in and_from (nat_le (size_of_record r) most_record_size) _ parts.0 (few_without q.caller.user r.body parts.1)
within_left q false r e = e

within-leaving : (q : Request) (r : Record) → is_within_limits r ≡ true → is_within_limits (after_leaving q r) ≡ true
within-leaving q r e = within_left q (is_left q r) r e

module _ (q : Request) (pasts : List Past) (fine : IsFine q pasts) where
  within-zone : (x : List ℕ) (z : Record) → record_at q.rows x ≡ Some z → is_within_limits z ≡ true
  within-zone x z there = (and_parts (has_good_mark q.rows z) _ (and_parts (has_good_root q.rows z) _ (and_parts (has_good_parent q.rows z) _ (fits q pasts fine x z there)).1).1).1

  -- what a put writes is not too large
  not_large : (x : List ℕ) (p : NamedOp) (r : Record) → put_at (puts_in q.ops) x ≡ Some p → written_over p (record_at q.seen x) ≡ Some r → nat_le (size_of_record r) most_record_size ≡ true
  not_large x p r at e =
      let name : x ≡ p.name = same-true x p.name (put-name (puts_in q.ops) x p at) in
      let small = (checked q pasts fine x p at).small in
      let written : written_over p (record_at q.seen p.name) ≡ Some r = ap (λ y. written_over p (record_at q.seen y)) (sym name) ∙ e in
      le_true (size_of_record r) most_record_size (ltb-false most_record_size (size_of_record r)
      (sym (ap (is_some_and (λ (s : Record). nat_lt most_record_size (size_of_record s))) written) ∙ small))

  old_within : (b : Bool) (x : List ℕ) (p : NamedOp) (v r : Record) → put_at (puts_in q.ops) x ≡ Some p → record_at q.seen x ≡ Some v → changes_old p.kind ≡ b
      → option_map_or Some (if b then Some (changed_record p v) else None) (Some v) ≡ Some r → is_within_limits r ≡ true
  old_within true x p v r at seen changes e =
      let z = within-zone x v (fine.part.part x v seen) in
      let size = not_large x p (changed_record p v) at (ap (written_over p) seen ∙ ap (λ c. if c then Some (changed_record p v) else None) changes) in
      subst (λ (t : Record). is_within_limits t ≡ true) (same_Some (changed_record p v) r e)
      (and_from (nat_le (size_of_record (changed_record p v)) most_record_size) _ size (few_after q.caller.key.owner v.body p.draft (checked q pasts fine x p at).listed (and_parts (nat_le (size_of_record v) most_record_size) _ z).1))
  old_within false x p v r at seen changes e = subst (λ (t : Record). is_within_limits t ≡ true) (same_Some v r e) (within-zone x v (fine.part.part x v seen))

  new_within : (b : Bool) (x : List ℕ) (p : NamedOp) (r : Record) → put_at (puts_in q.ops) x ≡ Some p → record_at q.seen x ≡ None → makes_new p.kind ≡ b
      → option_map_or Some (if b then Some (new_record p) else None) None ≡ Some r → is_within_limits r ≡ true
  new_within true x p r at unseen makes e =
      let size = not_large x p (new_record p) at (ap (written_over p) unseen ∙ ap (λ c. if c then Some (new_record p) else None) makes) in
      subst (λ (t : Record). is_within_limits t ≡ true) (same_Some (new_record p) r e)
      (and_from (nat_le (size_of_record (new_record p)) most_record_size) _ size (few_new q.caller.key.owner (has_share_type p.draft) (root_given p.draft) p.draft p.guid (checked q pasts fine x p at).listed))
  new_within false x p r at unseen makes e = absurd (none-some None r refl e)

  over_within : (i : Option NamedOp) (o : Option Record) (x : List ℕ) (r : Record) → put_at (puts_in q.ops) x ≡ i → record_at q.seen x ≡ o → put_over q.seen i o ≡ Some r → is_within_limits r ≡ true
  over_within None None x r at seen e = absurd (none-some None r refl e)
  over_within None (Some v) x r at seen e = subst (λ (t : Record). is_within_limits t ≡ true) (same_Some v r e) (within-zone x v (fine.part.part x v seen))
  over_within (Some p) None x r at seen e =
      let name : x ≡ p.name = same-true x p.name (put-name (puts_in q.ops) x p at) in
      new_within (makes_new p.kind) x p r at seen refl (ap (λ o. option_map_or Some (written_over p o) None) (sym (ap (record_at q.seen) (sym name) ∙ seen)) ∙ e)
  over_within (Some p) (Some v) x r at seen e =
      let name : x ≡ p.name = same-true x p.name (put-name (puts_in q.ops) x p at) in
      old_within (changes_old p.kind) x p v r at seen refl (ap (λ o. option_map_or Some (written_over p o) (Some v)) (sym (ap (record_at q.seen) (sym name) ∙ seen)) ∙ e)

  within-working : (x : List ℕ) (w : Record) → record_at (working q) x ≡ Some w → is_within_limits w ≡ true
  within-working x w is =
      let r = unmarked q pasts fine x w is in
      let e = over_within (put_at (puts_in q.ops) x) (record_at q.seen x) x r.0 refl refl (sym (found-puts q.seen q.ops x) ∙ r.1) in
      subst (λ (t : Record). is_within_limits t ≡ true) r.2 e

  after_by : (b : Bool) (w z : Option Record) (x : List ℕ) (a : Record) → is_put q x ≡ b → record_at (working q) x ≡ w → record_at q.rows x ≡ z → record_at (after_puts q) x ≡ Some a → is_within_limits a ≡ true
  after_by false w None x a put is there at = absurd (none-some None a refl (sym (after_is q pasts fine false w None x put is there) ∙ at))
  after_by false w (Some z) x a put is there at = subst (λ (t : Record). is_within_limits t ≡ true) (same_Some (after_leaving q z) a (sym (after_is q pasts fine false w (Some z) x put is there) ∙ at)) (within-leaving q z (within-zone x z there))
  after_by true None None x a put is there at = absurd (none-some None a refl (sym (after_is q pasts fine true None None x put is there) ∙ at))
  after_by true None (Some z) x a put is there at = subst (λ (t : Record). is_within_limits t ≡ true) (same_Some (after_leaving q z) a (sym (after_is q pasts fine true None (Some z) x put is there) ∙ at)) (within-leaving q z (within-zone x z there))
  after_by true (Some w) z x a put is there at = subst (λ (t : Record). is_within_limits t ≡ true) (same_Some (after_leaving q w) a (sym (after_is q pasts fine true (Some w) z x put is there) ∙ at)) (within-leaving q w (within-working x w is))

  -- no record after the puts passes a limit
  pub within-after : (x : List ℕ) (a : Record) → record_at (after_puts q) x ≡ Some a → is_within_limits a ≡ true
  within-after x a at = after_by (is_put q x) (record_at (working q) x) (record_at q.rows x) x a refl refl refl at
