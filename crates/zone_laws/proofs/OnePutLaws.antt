-- Zones after commits that put one record each.
use Rattle.std.proofs.Common.{◌≡◌, ℕ, suc, ◌+◌, List, [], ◌∷◌, ◌++◌, Bool, true, false, cond, ◌&&◌, ◌||◌, refl, sym, ap, ◌∙◌, arith, Some, None, Option}
use Rattle.std.specs.Prelude.{count_by, is_some, if◌then◌else◌, option_and_then}
use Rattle.std.specs.Option.{option_map_or}
use Rattle.std.specs.List.{AllByRecursion}
use Rattle.std.proofs.lemmas.Bool.{both_ways}
use Rattle.std.proofs.lemmas.List.Sums.{fold-append, sum_by-append}
use Rattle.ck_base.specs.declared.key.ZoneKey.{ZoneKey}
use Rattle.record_model.specs.declared.records.Record.{Record}
use Rattle.zone_model.specs.declared.commits.Write.TheVariants.{Put, Remove, PutRemove}
use Rattle.zone_model.specs.declared.commits.Act.{Act}
use Rattle.zone_model.specs.declared.commits.Act.TheVariants.{Writes, MakeZone, DropZone, SetSubscription, DropSubscription}
use Rattle.zone_model.specs.declared.commits.Commit.{Commit}
use Rattle.zone_model.specs.Names.{same, same_key, is_default}
use Rattle.name_rules.specs.Options.{or_else}
use Rattle.zone_model.specs.Records.{record_at}
use Rattle.zone_model.specs.Zones.{Zone, zone_at, after_act, act_puts, puts_at}
use Rattle.plain_creates.specs.OnePuts.{commit_of_put, only_put, IsOnePut, put_by, last_put, count_puts}
use Rattle.zone_laws.specs.Laws.{OnePutMore, PutsAreFound}
use Rattle.zone_laws.proofs.NameLaws.{key-refl}
use Rattle.zone_laws.proofs.RecordLaws.{found-with}
use Rattle.zone_laws.proofs.LogLaws.{zone-snoc, puts-append}
use Rattle.zone_laws.proofs.EntryLaws.{Grown, empty, one_more, grown}
use Rattle.zone_laws.proofs.JudgeLaws.{there-found}

-- ---- one commit

zone_put : (log : List Commit) (key : ZoneKey) (user : List ℕ) (moment : ℕ) (r : Record) → zone_at (log ++ commit_of_put key user moment r ∷ []) key ≡ after_act (zone_at log key) (Writes (Put r ∷ []))
zone_put log key user moment r = zone-snoc log (commit_of_put key user moment r) key
    ∙ ap (λ b. if b then after_act (zone_at log key) (Writes (Put r ∷ [])) else zone_at log key) (key-refl key)

one_counted : (s : Bool) (n : ℕ) → n + (0 + cond s 1 0) ≡ (if s then suc n else n)
one_counted true n = omega arith
one_counted false n = omega arith

puts_step : (s : Bool) → (0 + cond (s || false) 1 0) ≡ (0 + cond s 1 0)
puts_step true = refl
puts_step false = refl

pub one_put_more : OnePutMore
one_put_more = record {
  there = λ log key user moment r. ap (λ (z : Zone). z.there) (zone_put log key user moment r);
  found = λ log key user moment r x. ap (λ (z : Zone). record_at z.rows x) (zone_put log key user moment r) ∙ found-with (zone_at log key).rows r x;
  counted = λ log key user moment r x.
      let c = commit_of_put key user moment r in
      puts-append log (c ∷ []) key x
      ∙ ap (λ b. puts_at log key x + count_by (λ (d : Commit). act_puts x d.act) (cond b (c ∷ []) [])) (key-refl key)
      ∙ ap (λ n. puts_at log key x + n) (puts_step (same x r.name))
      ∙ one_counted (same x r.name) (puts_at log key x);
}

-- ---- commits that all put one record

found_by : (s : Bool) (r : Record) (o : Option Record) → cond s (Some r) o ≡ or_else (if s then Some r else None) o
found_by true r o = refl
found_by false r o = refl

abbrev put_at : Bool → List ℕ → Act → Option Record
put_at k x a = option_and_then (λ (r : Record). if k && same x r.name then Some r else None) (only_put a)

found_step : (k : Bool) (a : Act) (z : Zone) (x : List ℕ) → is_some (only_put a) ≡ true → record_at (if k then after_act z a else z).rows x ≡ or_else (put_at k x a) (record_at z.rows x)
found_step k (Writes []) z x one = absurd (both_ways false refl one)
found_step true (Writes (Put r ∷ [])) z x one = found-with z.rows r x ∙ found_by (same x r.name) r (record_at z.rows x)
found_step false (Writes (Put r ∷ [])) z x one = refl
found_step k (Writes (Remove y ∷ [])) z x one = absurd (both_ways false refl one)
found_step k (Writes (PutRemove y ∷ [])) z x one = absurd (both_ways false refl one)
found_step k (Writes (w ∷ v ∷ ws)) z x one = absurd (both_ways false refl one)
found_step k MakeZone z x one = absurd (both_ways false refl one)
found_step k DropZone z x one = absurd (both_ways false refl one)
found_step k (SetSubscription s) z x one = absurd (both_ways false refl one)
found_step k (DropSubscription scope id) z x one = absurd (both_ways false refl one)

counted_by : (s : Bool) (r : Record) → (0 + cond (s || false) 1 0) ≡ (0 + cond (is_some (if s then Some r else None)) 1 0)
counted_by true r = refl
counted_by false r = refl

counted_step : (k : Bool) (a : Act) (c : Commit) (x : List ℕ) → c.act ≡ a → is_some (only_put a) ≡ true
    → count_by (λ (d : Commit). act_puts x d.act) (cond k (c ∷ []) []) ≡ (0 + cond (is_some (put_at k x a)) 1 0)
counted_step k (Writes []) c x is one = absurd (both_ways false refl one)
counted_step true (Writes (Put r ∷ [])) c x is one = ap (λ a. 0 + cond (act_puts x a) 1 0) is ∙ counted_by (same x r.name) r
counted_step false (Writes (Put r ∷ [])) c x is one = refl
counted_step k (Writes (Remove y ∷ [])) c x is one = absurd (both_ways false refl one)
counted_step k (Writes (PutRemove y ∷ [])) c x is one = absurd (both_ways false refl one)
counted_step k (Writes (w ∷ v ∷ ws)) c x is one = absurd (both_ways false refl one)
counted_step k MakeZone c x is one = absurd (both_ways false refl one)
counted_step k DropZone c x is one = absurd (both_ways false refl one)
counted_step k (SetSubscription s) c x is one = absurd (both_ways false refl one)
counted_step k (DropSubscription scope id) c x is one = absurd (both_ways false refl one)

all_but_last : {X : Type 0} (P : X → Type 0) (xs : List X) (x : X) → AllByRecursion P (xs ++ x ∷ []) → AllByRecursion P xs × P x
all_but_last P [] x all = (tt, all.0)
all_but_last P (y ∷ ys) x all = let rest = all_but_last P ys x all.1 in ((all.0, rest.0), rest.1)

last_more : (key : ZoneKey) (x : List ℕ) (log : List Commit) (c : Commit) → last_put key x (log ++ c ∷ []) ≡ or_else (put_by key x c) (last_put key x log)
last_more key x log c = fold-append (λ found d. or_else (put_by key x d) found) None log (c ∷ [])

count_more : (key : ZoneKey) (x : List ℕ) (log : List Commit) (c : Commit) → count_puts key x (log ++ c ∷ []) ≡ count_puts key x log + (0 + cond (is_some (put_by key x c)) 1 0)
count_more key x log c = sum_by-append (λ d. cond (is_some (put_by key x d)) 1 0) log (c ∷ [])

found_grown : (log : List Commit) (key : ZoneKey) (x : List ℕ) → Grown log → AllByRecursion IsOnePut log → record_at (zone_at log key).rows x ≡ last_put key x log
found_grown _ key x empty all = refl
found_grown _ key x (one_more log c before) all =
    let parts = all_but_last IsOnePut log c all in
    ap (λ (z : Zone). record_at z.rows x) (zone-snoc log c key)
    ∙ found_step (same_key key c.key) c.act (zone_at log key) x parts.1
    ∙ ap (or_else (put_by key x c)) (found_grown log key x before parts.0)
    ∙ sym (last_more key x log c)

counted_grown : (log : List Commit) (key : ZoneKey) (x : List ℕ) → Grown log → AllByRecursion IsOnePut log → puts_at log key x ≡ count_puts key x log
counted_grown _ key x empty all = refl
counted_grown _ key x (one_more log c before) all =
    let parts = all_but_last IsOnePut log c all in
    puts-append log (c ∷ []) key x
    ∙ ap (λ n. puts_at log key x + n) (counted_step (same_key key c.key) c.act c x refl parts.1)
    ∙ ap (λ n. n + (0 + cond (is_some (put_by key x c)) 1 0)) (counted_grown log key x before parts.0)
    ∙ sym (count_more key x log c)

both_none : (o p : Option Record) → or_else o p ≡ None → (o ≡ None) × (p ≡ None)
both_none None p e = (refl, e)
both_none (Some r) p e = absurd (both_ways true (ap (λ (q : Option Record). option_map_or (λ _. true) q false) e) refl)

never_grown : (log : List Commit) (key : ZoneKey) (x : List ℕ) → Grown log → last_put key x log ≡ None → count_puts key x log ≡ 0
never_grown _ key x empty none = refl
never_grown _ key x (one_more log c before) none =
    let parts = both_none (put_by key x c) (last_put key x log) (sym (last_more key x log c) ∙ none) in
    count_more key x log c
    ∙ ap (λ n. n + (0 + cond (is_some (put_by key x c)) 1 0)) (never_grown log key x before parts.1)
    ∙ ap (λ (o : Option Record). 0 + (0 + cond (is_some o) 1 0)) parts.0

stays_step : (k : Bool) (a : Act) (z : Zone) → is_some (only_put a) ≡ true → (if k then after_act z a else z).there ≡ z.there
stays_step true (Writes ws) z one = refl
stays_step false (Writes ws) z one = refl
stays_step k MakeZone z one = absurd (both_ways false refl one)
stays_step k DropZone z one = absurd (both_ways false refl one)
stays_step k (SetSubscription s) z one = absurd (both_ways false refl one)
stays_step k (DropSubscription scope id) z one = absurd (both_ways false refl one)

zone_grown : (log : List Commit) (key : ZoneKey) → Grown log → AllByRecursion IsOnePut log → (zone_at log key).there ≡ is_default key
zone_grown _ key empty all = refl
zone_grown _ key (one_more log c before) all =
    let parts = all_but_last IsOnePut log c all in
    ap (λ (z : Zone). z.there) (zone-snoc log c key) ∙ stays_step (same_key key c.key) c.act (zone_at log key) parts.1 ∙ zone_grown log key before parts.0

pub puts_found : PutsAreFound
puts_found = record {
  zone = λ log key all. zone_grown log key (grown log) all;
  found = λ log key x all. found_grown log key x (grown log) all;
  there = λ log key x all. there-found (zone_at log key).rows x ∙ ap is_some (found_grown log key x (grown log) all);
  counted = λ log key x all. counted_grown log key x (grown log) all;
  never = λ log key x none. never_grown log key x (grown log) none;
}
