-- Participants put one after another.
use Rattle.std.proofs.Common.{◌≡◌, ℕ, suc, List, [], ◌∷◌, ◌++◌, Bool, true, false, cond, refl, sym, ap, ◌∙◌, subst, Some, None, Option, drop, append_assoc, ⊎_elim}
use Rattle.std.specs.Prelude.{filter, filter_map, fold, slice_set}
use Rattle.std.specs.List.{insert, cons_option}
use Rattle.std.proofs.lemmas.Bool.{and_parts, and_from, both_ways}
use Rattle.std.proofs.lemmas.List.Elements.{filter-append}
use Rattle.ck_base.specs.Order.{is_before}
use Rattle.name_rules.specs.Names.{same}
use Rattle.name_rules.proofs.NameLemmas.{same-true, three_ways, before-asym, before-irrefl}
use Rattle.share_records.specs.declared.participant.Participant.{Participant}
use Rattle.share_records.specs.declared.participant.Wanted.{Wanted}
use Rattle.share_records.specs.ShareLists.{with_participant}
use Rattle.zone_puts.specs.Participants.{AreUsersInOrder, place_of, is_at, kept_of, with_kept, is_other}
use Rattle.zone_puts.proofs.OrderedLemmas.{before, behind, all_before, all_behind, passes, fails, further, behind_kept, behind_gone, tail_ordered, tail_behind, all_past, filter_ordered, before_passed}

abbrev user_of : Participant → List ℕ
user_of p = p.user

-- ---- in the place of one

-- the first stands before: the rest is as it is
step_ahead : (p q : Participant) (ps : List Participant) → is_before q.user p.user ≡ true → with_participant (q ∷ ps) p ≡ q ∷ with_participant ps p
step_ahead p q ps e = λ i. passes (before user_of p.user) q ps e i ++ p ∷ fails (behind user_of p.user) q ps (before-asym q.user p.user e) i

-- all stand behind
all_back : (p : Participant) (ps : List Participant) → all_behind user_of p.user ps ≡ true → with_participant ps p ≡ p ∷ ps
all_back p ps all = λ i. behind_gone user_of p.user ps all i ++ p ∷ behind_kept user_of p.user ps all i

place_ahead : (u : List ℕ) (q : Participant) (ps : List Participant) → is_before q.user u ≡ true → place_of u (q ∷ ps) ≡ suc (place_of u ps)
place_ahead u q ps e = ap (λ b. cond b (suc (place_of u ps)) 0) e

place_here : (u : List ℕ) (q : Participant) (ps : List Participant) → is_before q.user u ≡ false → place_of u (q ∷ ps) ≡ 0
place_here u q ps e = ap (λ b. cond b (suc (place_of u ps)) 0) e

pub inserted : (p : Participant) (ps : List Participant) → AreUsersInOrder ps → is_at p.user (drop (place_of p.user ps) ps) ≡ false
    → insert ps (place_of p.user ps) p ≡ with_participant ps p
inserted p [] up other = refl
inserted p (q ∷ ps) up other = by_test (is_before q.user p.user) refl (λ e. inserted p ps (tail_ordered user_of q ps up) (ap (λ n. is_at p.user (drop n (q ∷ ps))) (sym (place_ahead p.user q ps e)) ∙ other))
  where
    by_test : (b : Bool) → is_before q.user p.user ≡ b
        → (is_before q.user p.user ≡ true → insert ps (place_of p.user ps) p ≡ with_participant ps p)
        → insert (q ∷ ps) (place_of p.user (q ∷ ps)) p ≡ with_participant (q ∷ ps) p
    by_test true e rest = ap (λ n. insert (q ∷ ps) n p) (place_ahead p.user q ps e) ∙ ap (λ qs. q ∷ qs) (rest e) ∙ sym (step_ahead p q ps e)
    by_test false e rest = ap (λ n. insert (q ∷ ps) n p) (place_here p.user q ps e) ∙ sym (all_back p (q ∷ ps) (⊎_elim
        (λ (f : is_before q.user p.user ≡ true). absurd (both_ways (is_before q.user p.user) e f))
        (⊎_elim
        (λ (f : same q.user p.user ≡ true). absurd (both_ways (same q.user p.user) (ap (λ n. is_at p.user (drop n (q ∷ ps))) (sym (place_here p.user q ps e)) ∙ other) f))
        (λ (f : is_before p.user q.user ≡ true). and_from (is_before p.user q.user) _ f (all_past user_of p.user q ps up e)))
        (three_ways q.user p.user)))

pub replaced : (p : Participant) (ps : List Participant) → AreUsersInOrder ps → is_at p.user (drop (place_of p.user ps) ps) ≡ true
    → slice_set ps (place_of p.user ps) p ≡ with_participant ps p
replaced p [] up here = absurd (both_ways false refl here)
replaced p (q ∷ ps) up here = by_test (is_before q.user p.user) refl (λ e. replaced p ps (tail_ordered user_of q ps up) (ap (λ n. is_at p.user (drop n (q ∷ ps))) (sym (place_ahead p.user q ps e)) ∙ here))
  where
    by_test : (b : Bool) → is_before q.user p.user ≡ b
        → (is_before q.user p.user ≡ true → slice_set ps (place_of p.user ps) p ≡ with_participant ps p)
        → slice_set (q ∷ ps) (place_of p.user (q ∷ ps)) p ≡ with_participant (q ∷ ps) p
    by_test true e rest = ap (λ n. slice_set (q ∷ ps) n p) (place_ahead p.user q ps e) ∙ ap (λ qs. q ∷ qs) (rest e) ∙ sym (step_ahead p q ps e)
    by_test false e rest =
        let is : q.user ≡ p.user = same-true q.user p.user (ap (λ n. is_at p.user (drop n (q ∷ ps))) (sym (place_here p.user q ps e)) ∙ here) in
        let all : all_behind user_of p.user ps ≡ true = subst (λ u. all_behind user_of u ps ≡ true) is (tail_behind user_of q ps up) in
        ap (λ n. slice_set (q ∷ ps) n p) (place_here p.user q ps e)
        ∙ sym (all_back p ps all)
        ∙ sym (λ i. fails (before user_of p.user) q ps e i ++ p ∷ fails (behind user_of p.user) q ps (subst (λ u. is_before p.user u ≡ false) (sym is) (before-irrefl p.user)) i)

-- ---- all of them

joined_order : (p : Participant) (qs ps : List Participant) → all_before user_of p.user qs ≡ true → all_behind user_of p.user ps ≡ true
    → AreUsersInOrder qs → AreUsersInOrder ps → AreUsersInOrder (qs ++ p ∷ ps)
joined_order p [] ps low high up rest = and_from (all_behind user_of p.user ps) _ high rest
joined_order p (q ∷ qs) ps low high up rest = let parts = and_parts (is_before q.user p.user) _ low in
    and_from (all_behind user_of q.user (qs ++ p ∷ ps)) _ (ahead q qs parts.0 (tail_behind user_of q qs up)) (joined_order p qs ps parts.1 high (tail_ordered user_of q qs up) rest)
  where
    ahead : (q : Participant) (qs : List Participant) → is_before q.user p.user ≡ true → all_behind user_of q.user qs ≡ true → all_behind user_of q.user (qs ++ p ∷ ps) ≡ true
    ahead q [] e all = and_from (is_before q.user p.user) _ e (further user_of q.user p.user ps e high)
    ahead q (r ∷ qs) e all = let parts = and_parts (is_before q.user r.user) _ all in and_from (is_before q.user r.user) _ parts.0 (ahead q qs e parts.1)

behind_all : (u : List ℕ) (ps : List Participant) → all_behind user_of u (filter (behind user_of u) ps) ≡ true
behind_all u [] = refl
behind_all u (p ∷ ps) = by_test (behind user_of u p) refl (behind_all u ps)
  where
    by_test : (b : Bool) → behind user_of u p ≡ b → all_behind user_of u (filter (behind user_of u) ps) ≡ true
        → all_behind user_of u (cond b (p ∷ filter (behind user_of u) ps) (filter (behind user_of u) ps)) ≡ true
    by_test true e rest = and_from (behind user_of u p) _ e rest
    by_test false e rest = rest

put_ordered : (ps : List Participant) (p : Participant) → AreUsersInOrder ps → AreUsersInOrder (with_participant ps p)
put_ordered ps p up =
    joined_order p (filter (before user_of p.user) ps) (filter (behind user_of p.user) ps) (before_passed user_of p.user ps) (behind_all p.user ps)
    (filter_ordered user_of (before user_of p.user) ps up) (filter_ordered user_of (behind user_of p.user) ps up)

kept_ordered : (ps : List Participant) (o : Option Participant) → AreUsersInOrder ps → AreUsersInOrder (with_kept ps o)
kept_ordered ps None up = up
kept_ordered ps (Some p) up = put_ordered ps p up

-- those that are left of the wanted, put after these
abbrev pub all_put : List Participant → List Participant → List Wanted → List Participant
all_put old ps ws = fold with_participant ps (filter_map (kept_of old) ws)

kept_first : (ps qs : List Participant) (o : Option Participant) → fold with_participant ps (cons_option o qs) ≡ fold with_participant (with_kept ps o) qs
kept_first ps qs None = refl
kept_first ps qs (Some p) = refl

-- the wanted from a place on, put after what is done
pub record IsPutting (old now first : List Participant) (wanted wanted_left : List Wanted) : Type 0 where
  pub done : all_put old now wanted_left ≡ all_put old first wanted
  pub ordered : AreUsersInOrder now

pub one_put : (old ps ps_now ps_first : List Participant) (wanted : List Wanted) (w : Wanted) (ws : List Wanted)
    → IsPutting old ps ps_first wanted (w ∷ ws) → ps_now ≡ with_kept ps (kept_of old w) → IsPutting old ps_now ps_first wanted ws
one_put old ps ps_now ps_first wanted w ws putting is = record {
  done = ap (λ qs. all_put old qs ws) is ∙ sym (kept_first ps (filter_map (kept_of old) ws) (kept_of old w)) ∙ putting.done;
  ordered = subst AreUsersInOrder (sym is) (kept_ordered ps (kept_of old w) putting.ordered);
}

-- ---- without a user

pub one_left : (u : List ℕ) (ps left : List Participant) (p : Participant) (rest rest_now first : List Participant)
    → filter (is_other u) ps ++ rest ≡ first → ps ≡ left ++ p ∷ [] → rest_now ≡ filter (is_other u) (p ∷ []) ++ rest → filter (is_other u) left ++ rest_now ≡ first
one_left u ps left p rest rest_now first done is kept =
    ap (λ qs. filter (is_other u) left ++ qs) kept ∙ sym (append_assoc (filter (is_other u) left) (filter (is_other u) (p ∷ [])) rest)
    ∙ ap (λ qs. qs ++ rest) (sym (filter-append (is_other u) left (p ∷ []))) ∙ ap (λ qs. filter (is_other u) qs ++ rest) (sym is) ∙ done
