-- Nobody is let in by a rewritten list, and leaving takes the permission away.
use Rattle.std.proofs.Common.{◌≡◌, ℕ, List, [], ◌∷◌, Bool, true, false, cond, not, ◌&&◌, ◌||◌, refl, sym, ap, ◌∙◌, subst, Some, None, Option, inl, inr, ⊎_elim}
use Rattle.std.specs.Prelude.{◌⊎◌, filter, filter_map, fold, nat_le, if◌then◌else◌}
use Rattle.std.specs.Option.{option_map_or}
use Rattle.std.specs.List.{list_any, cons_option}
use Rattle.std.proofs.lemmas.Bool.{both_ways, and_parts, and_from, or_left, or_right, or_cases, cond-false}
use Rattle.std.proofs.lemmas.List.Folds.{list_any-append}
use Rattle.name_rules.specs.Options.{is_some_and}
use Rattle.name_rules.proofs.NameLemmas.{same-true, same-sym_false}
use Rattle.ck_base.specs.Order.{is_before}
use Rattle.share_records.specs.declared.permission.Permission.{Permission}
use Rattle.share_records.specs.declared.participant.PartKind.{PartKind}
use Rattle.share_records.specs.declared.participant.Participant.{Participant}
use Rattle.share_records.specs.declared.participant.Wanted.{Wanted}
use Rattle.share_records.specs.declared.share.Share.{Share as ShareOf}
use Rattle.share_records.specs.Permissions.{rank, is_public, permission_as, permission_given, has_accepted}
use Rattle.share_records.specs.ShareLists.{participant_at, kept_as, with_participant, rewritten}
use Rattle.zone_model.specs.Names.{same}
use Rattle.zone_model.specs.Sharing.{share_after}
use Rattle.zone_laws.specs.People.{is_let_in, NobodyIsLetIn}

-- ---- lists

any_kept : {X : Type 0} (p q : X → Bool) (xs : List X) → list_any p (filter q xs) ≡ true → list_any p xs ≡ true
any_kept p q [] e = e
any_kept p q (x ∷ xs) e = by (q x) (any_kept p q xs) e
  where
    by : (b : Bool) → (list_any p (filter q xs) ≡ true → list_any p xs ≡ true) → list_any p (cond b (x ∷ filter q xs) (filter q xs)) ≡ true → (p x || list_any p xs) ≡ true
    by true ih f = ⊎_elim (λ (h : p x ≡ true). or_left (p x) _ h) (λ (h : list_any p (filter q xs) ≡ true). or_right (p x) _ (ih h)) (or_cases (p x) (list_any p (filter q xs)) f)
    by false ih f = or_right (p x) _ (ih f)

module _ (p : Participant → Bool) where
  any_with : (ps : List Participant) (r : Participant) → list_any p (with_participant ps r) ≡ true → (p r ≡ true) ⊎ (list_any p ps ≡ true)
  any_with ps r e =
      let front = filter (λ (q : Participant). is_before q.user r.user) ps in
      let back = filter (λ (q : Participant). is_before r.user q.user) ps in
      ⊎_elim
      (λ (h : list_any p front ≡ true). inr (any_kept p (λ (q : Participant). is_before q.user r.user) ps h))
      (λ (h : (p r || list_any p back) ≡ true). ⊎_elim
      (λ (i : p r ≡ true). inl i)
      (λ (i : list_any p back ≡ true). inr (any_kept p (λ (q : Participant). is_before r.user q.user) ps i))
      (or_cases (p r) (list_any p back) h))
      (or_cases (list_any p front) (p r || list_any p back) (sym (list_any-append p front (r ∷ back)) ∙ e))

  any_folded : (some ps : List Participant) → list_any p (fold with_participant ps some) ≡ true → (list_any p some ≡ true) ⊎ (list_any p ps ≡ true)
  any_folded [] ps e = inr e
  any_folded (r ∷ some) ps e = ⊎_elim
      (λ (h : list_any p some ≡ true). inl (or_right (p r) _ h))
      (λ (h : list_any p (with_participant ps r) ≡ true). ⊎_elim
      (λ (i : p r ≡ true). let j : list_any p (r ∷ some) ≡ true = or_left (p r) (list_any p some) i in inl j)
      (λ (i : list_any p ps ≡ true). inr i)
      (any_with ps r h))
      (any_folded some (with_participant ps r) e)

-- ---- a list that the owner gives

module _ (u : List ℕ) where
  abbrev is_in_now : Participant → Bool
  is_in_now p = same u p.user && p.accepted

  accepted_step : (s : Bool) (p : Participant) (o : Option Participant) (rest : Bool) → same u p.user ≡ s → (is_some_and (λ (q : Participant). q.accepted) o ≡ true → rest ≡ true)
      → is_some_and (λ (q : Participant). q.accepted) (cond s (Some p) o) ≡ true → (is_in_now p || rest) ≡ true
  accepted_step true p o rest is ih e = or_left (is_in_now p) rest (and_from (same u p.user) p.accepted is e)
  accepted_step false p o rest is ih e = or_right (is_in_now p) rest (ih e)

  -- whom a list has as one who has accepted is let in by it
  accepted_in : (ps : List Participant) → is_some_and (λ (q : Participant). q.accepted) (participant_at ps u) ≡ true → is_let_in u ps ≡ true
  accepted_in [] e = absurd (both_ways false refl e)
  accepted_in (p ∷ ps) e = accepted_step (same u p.user) p (participant_at ps u) (is_let_in u ps) refl (accepted_in ps) e

  one_only : (b : Bool) → (b || false) ≡ true → b ≡ true
  one_only true f = refl
  one_only false f = f

  found_step : (s : Bool) (r q : Participant) (o : Option Participant) (rest : Bool) → is_in_now q ≡ true → (o ≡ Some q → rest ≡ true) → cond s (Some r) o ≡ Some q → (is_in_now r || rest) ≡ true
  found_step true r q o rest h ih g = or_left (is_in_now r) rest (ap (λ (f : Option Participant). option_map_or is_in_now f false) g ∙ h)
  found_step false r q o rest h ih g = or_right (is_in_now r) rest (ih g)

  found_any : (ps : List Participant) (x : List ℕ) (q : Participant) → participant_at ps x ≡ Some q → is_in_now q ≡ true → is_let_in u ps ≡ true
  found_any [] x q f h = absurd (both_ways false refl (ap (λ (o : Option Participant). option_map_or (λ _. true) o false) f))
  found_any (r ∷ ps) x q f h = found_step (same x r.user) r q (participant_at ps x) (is_let_in u ps) h (λ g. found_any ps x q g h) f

  public_step : (b : Bool) (w : Wanted) (p : Participant) (old : List Participant) → participant_at old w.user ≡ Some p → list_any is_in_now (cons_option (if b then Some p else None) []) ≡ true → is_let_in u old ≡ true
  public_step true w p old is f = found_any old w.user p is (one_only (is_in_now p) f)
  public_step false w p old is f = absurd (both_ways false refl f)

  kept_step : (kind : PartKind) (w : Wanted) (old : List Participant) (o : Option Participant) → participant_at old w.user ≡ o → list_any is_in_now (cons_option (kept_as kind w o) []) ≡ true → is_let_in u old ≡ true
  kept_step PartKind.Member w old o is e =
      let parts = and_parts (same u w.user) (is_some_and (λ (q : Participant). q.accepted) o) (one_only _ e) in
      accepted_in old (ap (is_some_and (λ (q : Participant). q.accepted)) (ap (participant_at old) (same-true u w.user parts.0) ∙ is) ∙ parts.1)
  kept_step PartKind.Public w old None is e = absurd (both_ways false refl e)
  kept_step PartKind.Public w old (Some p) is e = public_step (is_public p.kind) w p old is e

  first_or_rest : (o : Option Participant) (some : List Participant) → list_any is_in_now (cons_option o some) ≡ true → (list_any is_in_now (cons_option o []) ≡ true) ⊎ (list_any is_in_now some ≡ true)
  first_or_rest None some e = inr e
  first_or_rest (Some p) some e = ⊎_elim (λ (h : is_in_now p ≡ true). inl (or_left (is_in_now p) false h)) (λ (h : list_any is_in_now some ≡ true). inr h) (or_cases (is_in_now p) (list_any is_in_now some) e)

  kept_in : (old : List Participant) (wanted : List Wanted) → list_any is_in_now (filter_map (λ (w : Wanted). kept_as w.kind w (participant_at old w.user)) wanted) ≡ true → is_let_in u old ≡ true
  kept_in old [] e = absurd (both_ways false refl e)
  kept_in old (w ∷ wanted) e = ⊎_elim
      (λ (h : list_any is_in_now (cons_option (kept_as w.kind w (participant_at old w.user)) []) ≡ true). kept_step w.kind w old (participant_at old w.user) refl h)
      (λ (h : list_any is_in_now (filter_map (λ (v : Wanted). kept_as v.kind v (participant_at old v.user)) wanted) ≡ true). kept_in old wanted h)
      (first_or_rest (kept_as w.kind w (participant_at old w.user)) (filter_map (λ (v : Wanted). kept_as v.kind v (participant_at old v.user)) wanted) e)

  rewritten_in : (old : List Participant) (wanted : List Wanted) → is_let_in u (rewritten old wanted) ≡ true → is_let_in u old ≡ true
  rewritten_in old wanted e = ⊎_elim
      (λ (h : list_any is_in_now (filter_map (λ (w : Wanted). kept_as w.kind w (participant_at old w.user)) wanted) ≡ true). kept_in old wanted h)
      (λ (h : false ≡ true). absurd (both_ways false refl h))
      (any_folded is_in_now (filter_map (λ (w : Wanted). kept_as w.kind w (participant_at old w.user)) wanted) [] e)

  -- who has a permission has accepted
  given_by : (b : Bool) (given : Permission) → nat_le 1 (rank (if b then given else Permission.Nothing)) ≡ true → b ≡ true
  given_by true given f = refl
  given_by false given f = f

  given_accepted : (public : Permission) (p : Participant) → nat_le 1 (rank (permission_given public p)) ≡ true → p.accepted ≡ true
  given_accepted public p e = given_by p.accepted (permission_as p.kind public p.permission) e

  permitted_accepted : (public : Permission) (o : Option Participant) → nat_le 1 (rank (option_map_or (permission_given public) o Permission.Nothing)) ≡ true → is_some_and (λ (q : Participant). q.accepted) o ≡ true
  permitted_accepted public None e = e
  permitted_accepted public (Some p) e = given_accepted public p e

  pub accepted-let_in : (s : ShareOf) → has_accepted u s ≡ true → is_let_in u s.participants ≡ true
  accepted-let_in s e = accepted_in s.participants (permitted_accepted s.public (participant_at s.participants u) e)

  put_in : (o : Option (List Wanted)) (ps : List Participant) → is_let_in u (option_map_or (rewritten ps) o ps) ≡ true → is_let_in u ps ≡ true
  put_in None ps e = e
  put_in (Some wanted) ps e = rewritten_in ps wanted e

-- ---- leaving

gone_step : (b : Bool) (u : List ℕ) (p : Participant) (some : List Participant) → same u p.user ≡ b → participant_at some u ≡ None → participant_at (cond (not b) (p ∷ some) some) u ≡ None
gone_step true u p some is ih = ih
gone_step false u p some is ih = cond-false (same u p.user) (Some p) (participant_at some u) is ∙ ih

pub gone : (u : List ℕ) (ps : List Participant) → participant_at (filter (λ (p : Participant). not (same u p.user)) ps) u ≡ None
gone u [] = refl
gone u (p ∷ ps) = gone_step (same u p.user) u p (filter (λ (q : Participant). not (same u q.user)) ps) refl (gone u ps)

stays_step : (b : Bool) (u v : List ℕ) (p : Participant) (some : List Participant) (o : Option Participant) → same u p.user ≡ b → (same u p.user ≡ true → same v p.user ≡ false) → participant_at some v ≡ o
    → participant_at (cond (not b) (p ∷ some) some) v ≡ cond (same v p.user) (Some p) o
stays_step true u v p some o is apart ih = ih ∙ sym (cond-false (same v p.user) (Some p) o (apart is))
stays_step false u v p some o is apart ih = ap (λ f. cond (same v p.user) (Some p) f) ih

stays : (u v : List ℕ) (ps : List Participant) → same u v ≡ false → participant_at (filter (λ (p : Participant). not (same u p.user)) ps) v ≡ participant_at ps v
stays u v [] ne = refl
stays u v (p ∷ ps) ne = stays_step (same u p.user) u v p (filter (λ (q : Participant). not (same u q.user)) ps) (participant_at ps v) refl
    (λ is. subst (λ y. same v y ≡ false) (same-true u p.user is) (same-sym_false u v ne)) (stays u v ps ne)

pub nobody_let_in : NobodyIsLetIn
nobody_let_in = record {
  rewritten = rewritten_in;
  put = λ u s d e. put_in u d.participants s.participants (accepted-let_in u (share_after s d) e);
  first = λ u root guid. refl;
  left = λ u s. ap (λ o. option_map_or (permission_given s.public) o Permission.Nothing) (gone u s.participants);
  others = λ u v s ne. ap (λ o. option_map_or (permission_given s.public) o Permission.Nothing) (stays u v s.participants ne);
}
