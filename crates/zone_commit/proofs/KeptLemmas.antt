-- What is told of a kept zone, before and after an act.
use Rattle.std.proofs.Common.{◌≡◌, ◌+◌, ℕ, List, [], ◌∷◌, Bool, true, false, cond, not, refl, sym, ap, ◌∙◌, subst, Some, None}
use Rattle.std.specs.Prelude.{unwrap_or, if◌then◌else◌}
use Rattle.std.specs.Map.{lookup}
use Rattle.std.specs.Ordering.{nat_cmp}
use Rattle.std.specs.Cmp.Lexicographic.{slice_cmp}
use Rattle.std.specs.BTreeMap.{values, is_at}
use Rattle.std.proofs.lemmas.Bool.{both_ways}
use Rattle.std.proofs.lemmas.Map.Text.{is_eq-slice_cmp}
use Rattle.ck_base.specs.declared.key.ZoneKey.{ZoneKey}
use Rattle.ck_base.specs.declared.scope.Scope.TheVariants.{Private}
use Rattle.record_model.specs.declared.subscription.Subscription.{Subscription}
use Rattle.zone_model.specs.declared.commits.Commit.{Commit}
use Rattle.zone_model.specs.Names.{same, is_default}
use Rattle.zone_model.specs.Records.{record_at}
use Rattle.zone_model.specs.Views.{view_of_zone, nowhere}
use Rattle.zone_model.specs.Zones.{Zone, after_act, act_puts}
use Rattle.zone_model.specs.Subscriptions.{subscriptions_after}
use Rattle.zone_records.specs.Told.{Told, told_first, IsLeft, Follows}
use Rattle.zone_records.proofs.ToldLemmas.{left-first}
use Rattle.zone_commit.specs.Maps.{RowMap, CountMap, count_at}
use Rattle.zone_commit.specs.Kept.{zone_by, told_by}

lookup-same : (es : List (List ℕ × ℕ)) (x : List ℕ) → lookup (same x) es ≡ lookup (is_at (slice_cmp nat_cmp x)) es
lookup-same [] x = refl
lookup-same (e ∷ es) x = ap (λ b. cond b (Some e.1) (lookup (same x) es)) (sym (is_eq-slice_cmp x e.0)) ∙ ap (λ o. cond (is_at (slice_cmp nat_cmp x) e.0) (Some e.1) o) (lookup-same es x)

-- the count of a name is the one that is told
pub count-told : (counts : CountMap) (x : List ℕ) → unwrap_or (lookup (same x) counts.entries) 0 ≡ count_at counts x
count-told counts x = ap (λ o. unwrap_or o 0) (lookup-same counts.entries x)

pub told-first : (key : ZoneKey) (here : Bool) (rows : RowMap) (counts : CountMap) (subs : List Subscription) → here ≡ is_default key → values rows ≡ [] → counts.entries ≡ [] → subs ≡ []
    → told_by key here rows counts subs ≡ told_first key
told-first key here rows counts subs h r c s =
    ap (λ b. record { key = key; zone = record { there = b; rows = values rows }; subscriptions = subs; counts = counts.entries }) h
    ∙ ap (λ vs. record { key = key; zone = record { there = is_default key; rows = vs }; subscriptions = subs; counts = counts.entries }) r
    ∙ ap (λ es. record { key = key; zone = record { there = is_default key; rows = [] }; subscriptions = subs; counts = es }) c
    ∙ ap (λ ss. record { key = key; zone = record { there = is_default key; rows = [] }; subscriptions = ss; counts = [] }) s

pub first-left : (key : ZoneKey) (t : Told) → t ≡ told_first key → IsLeft t
first-left key t is = subst IsLeft (sym is) (left-first key)

-- what is told after an act follows from what was told before it
pub acted : (key : ZoneKey) (c : Commit) (here here' : Bool) (rows rows' : RowMap) (counts counts' : CountMap) (subs subs' : List Subscription)
    → zone_by here' rows' ≡ after_act (zone_by here rows) c.act → subs' ≡ subscriptions_after subs c.act
    → ((x : List ℕ) → count_at counts' x ≡ count_at counts x + (if act_puts x c.act then 1 else 0))
    → Follows (told_by key here rows counts subs) c (told_by key here' rows' counts' subs')
acted key c here here' rows rows' counts counts' subs subs' zone subscriptions puts = record {
  key = refl;
  zone = zone;
  subscriptions = subscriptions;
  puts = λ x. count-told counts' x ∙ puts x ∙ ap (λ n. n + (if act_puts x c.act then 1 else 0)) (sym (count-told counts x));
}

-- ---- what the owner sees

not_false : (b : Bool) → not b ≡ false → b ≡ true
not_false true is = refl
not_false false is = absurd (both_ways true is refl)

-- the test for another name was negative
pub not-another : (other : Bool) (x y user owner : List ℕ) → other ≡ not (same x y) → other ≡ false → x ≡ user → y ≡ owner → same user owner ≡ true
not-another other x y user owner told is first second = ap (λ n. same n owner) (sym first) ∙ ap (same x) (sym second) ∙ not_false (same x y) (sym told ∙ is)

pub seen-by_owner : (z : Zone) (user : List ℕ) (key : ZoneKey) (x : List ℕ) → same user key.owner ≡ true → z.there ≡ true → record_at z.rows x ≡ record_at (view_of_zone z user Private key).rows x
seen-by_owner z user key x owner there =
    sym (ap (λ b. record_at (if b then (if z.there then record { here = true; rows = z.rows } else nowhere) else nowhere).rows x) owner ∙ ap (λ b. record_at (if b then record { here = true; rows = z.rows } else nowhere).rows x) there)

pub not-seen_by_others : (z : Zone) (user : List ℕ) (key : ZoneKey) (x : List ℕ) → same user key.owner ≡ false → None ≡ record_at (view_of_zone z user Private key).rows x
not-seen_by_others z user key x other = sym (ap (λ b. record_at (if b then (if z.there then record { here = true; rows = z.rows } else nowhere) else nowhere).rows x) other)

either_way : (b : Bool) (z : Zone) (x : List ℕ) → z.there ≡ false → record_at (if b then (if z.there then record { here = true; rows = z.rows } else nowhere) else nowhere).rows x ≡ None
either_way true z x gone = ap (λ b. record_at (if b then record { here = true; rows = z.rows } else nowhere).rows x) gone
either_way false z x gone = refl

pub not-seen_absent : (z : Zone) (user : List ℕ) (key : ZoneKey) (x : List ℕ) → z.there ≡ false → None ≡ record_at (view_of_zone z user Private key).rows x
not-seen_absent z user key x gone = sym (either_way (same user key.owner) z x gone)
