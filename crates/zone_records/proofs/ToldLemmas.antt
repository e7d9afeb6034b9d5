-- What is told goes on from one commit to the next.
use Rattle.std.proofs.Common.{◌≡◌, ◌+◌, ℕ, List, [], ◌∷◌, ◌++◌, true, false, cond, refl, sym, ap, ◌∙◌, subst, arith}
use Rattle.std.specs.Prelude.{count_by, if◌then◌else◌}
use Rattle.ck_base.specs.declared.key.ZoneKey.{ZoneKey}
use Rattle.record_model.specs.declared.subscription.Subscription.{Subscription}
use Rattle.zone_model.specs.declared.commits.Commit.{Commit}
use Rattle.zone_model.specs.Names.{same_key}
use Rattle.zone_model.specs.Zones.{Zone, zone_at, after_act, act_puts, puts_at}
use Rattle.zone_model.specs.Subscriptions.{subscriptions_at, subscriptions_after}
use Rattle.zone_model.specs.Histories.{EachAfter}
use Rattle.zone_model.specs.Lawful.{IsLawful}
use Rattle.zone_laws.proofs.NameLaws.{key-refl}
use Rattle.zone_laws.proofs.LogLaws.{zone-snoc, puts-append, subscriptions-snoc, other_changes_nothing}
use Rattle.zone_records.specs.Told.{Told, puts_told, told_first, IsLeftBy, IsLeft, MayBeNext, Follows}

-- ---- one more of a list

nil_none : {X : Type 0} (before : List X) (y : X) (after : List X) → [] ≡ before ++ y ∷ after → ⊥
nil_none [] y after is = cc
nil_none (b ∷ bs) y after is = cc

pub each-nil : {X : Type 0} (IsSo : List X → X → Type 0) → EachAfter IsSo []
each-nil IsSo before y after is = absurd (nil_none before y after is)

same_head : {X : Type 0} (x y : X) (xs ys : List X) → x ∷ xs ≡ y ∷ ys → x ≡ y
same_head x y xs ys is = cc

same_tail : {X : Type 0} (x y : X) (xs ys : List X) → x ∷ xs ≡ y ∷ ys → xs ≡ ys
same_tail x y xs ys is = cc

snoc_at : {X : Type 0} (IsSo : List X → X → Type 0) (xs : List X) (x : X) (before : List X) (y : X) (after : List X) → EachAfter IsSo xs → IsSo xs x → xs ++ x ∷ [] ≡ before ++ y ∷ after → IsSo before y
snoc_at IsSo [] x [] y after each last is = subst (IsSo []) (same_head x y [] after is) last
snoc_at IsSo [] x (b ∷ bs) y after each last is = absurd (nil_none bs y after (same_tail x b [] (bs ++ y ∷ after) is))
snoc_at IsSo (z ∷ zs) x [] y after each last is = subst (IsSo []) (same_head z y (zs ++ x ∷ []) after is) (each [] z zs refl)
snoc_at IsSo (z ∷ zs) x (b ∷ bs) y after each last is =
    subst (λ h. IsSo (h ∷ bs) y) (same_head z b (zs ++ x ∷ []) (bs ++ y ∷ after) is)
    (snoc_at (λ l u. IsSo (z ∷ l) u) zs x bs y after (λ front u back e. each (z ∷ front) u back (ap (λ l. z ∷ l) e)) last (same_tail z b (zs ++ x ∷ []) (bs ++ y ∷ after) is))

pub each-snoc : {X : Type 0} (IsSo : List X → X → Type 0) (xs : List X) (x : X) → EachAfter IsSo xs → IsSo xs x → EachAfter IsSo (xs ++ x ∷ [])
each-snoc IsSo xs x each last before y after is = snoc_at IsSo xs x before y after each last is

-- ---- what is told

-- no commits leave the first of a zone
pub left-first : (key : ZoneKey) → IsLeft (told_first key)
left-first key = record { log = []; lawful = each-nil IsLawful; left = record { zone = refl; subscriptions = refl; puts = λ x. refl } }

nothing-more : (n : ℕ) → 0 + n ≡ n
nothing-more n = omega arith

one_put : (c : Commit) (key : ZoneKey) (x : List ℕ) → same_key key c.key ≡ true → puts_at (c ∷ []) key x ≡ (if act_puts x c.act then 1 else 0)
one_put c key x here = ap (λ b. count_by (λ (d : Commit). act_puts x d.act) (cond b (c ∷ []) [])) here ∙ nothing-more (cond (act_puts x c.act) 1 0)

-- a commit of the zone goes on from what is told
pub left-after : (log : List Commit) (s t : Told) (c : Commit) → IsLeftBy log s → c.key ≡ s.key → Follows s c t → IsLeftBy (log ++ c ∷ []) t
left-after log s t c left named follows =
    let here : same_key s.key c.key ≡ true = subst (λ k. same_key s.key k ≡ true) (sym named) (key-refl s.key) in
    record {
      zone = ap (zone_at (log ++ c ∷ [])) follows.key ∙ zone-snoc log c s.key ∙ ap (λ b. cond b (after_act (zone_at log s.key) c.act) (zone_at log s.key)) here
          ∙ ap (λ (z : Zone). after_act z c.act) left.zone ∙ sym follows.zone;
      subscriptions = ap (subscriptions_at (log ++ c ∷ [])) follows.key ∙ subscriptions-snoc log c s.key ∙ ap (λ b. cond b (subscriptions_after (subscriptions_at log s.key) c.act) (subscriptions_at log s.key)) here
          ∙ ap (λ (subs : List Subscription). subscriptions_after subs c.act) left.subscriptions ∙ sym follows.subscriptions;
      puts = λ x. ap (λ k. puts_at (log ++ c ∷ []) k x) follows.key ∙ puts-append log (c ∷ []) s.key x ∙ ap (λ n. n + puts_at (c ∷ []) s.key x) (left.puts x)
          ∙ ap (λ n. puts_told s x + n) (one_put c s.key x here) ∙ sym (follows.puts x);
    }

-- a commit of another zone changes nothing of what is told
pub left-other : (log : List Commit) (s : Told) (c : Commit) → IsLeftBy log s → same_key s.key c.key ≡ false → IsLeftBy (log ++ c ∷ []) s
left-other log s c left other = record {
  zone = other_changes_nothing.zone log c s.key other ∙ left.zone;
  subscriptions = other_changes_nothing.subscriptions log c s.key other ∙ left.subscriptions;
  puts = λ x. other_changes_nothing.puts log c s.key x other ∙ left.puts x;
}

pub left-next : (s t : Told) (c : Commit) → MayBeNext s c → Follows s c t → IsLeft t
left-next s t c may follows = record { log = may.log ++ c ∷ []; lawful = each-snoc IsLawful may.log c may.lawful may.next; left = left-after may.log s t c may.left may.same_zone follows }
