-- Operations that a request has name no record twice and give no root twice.
use Rattle.std.proofs.Common.{◌≡◌, ℕ, zero, suc, ◌<◌, List, [], ◌∷◌, map, length, take, Bool, true, false, cond, not, ◌||◌, Option, Some, None, option_map, option_and_then, slice_get, refl, sym, ap, ◌∙◌, subst, arith}
use Rattle.std.specs.Prelude.{nat_lt, filter_map, if◌then◌else◌}
use Rattle.std.specs.Option.{option_or, option_map_or}
use Rattle.std.specs.List.{list_any, cons_option, AllByRecursion}
use Rattle.std.proofs.lemmas.Bool.{both_ways, or_parts, or_from, ltb-true, ltb-false}
use Rattle.std.proofs.lemmas.Option.{slice_get_within}
use Rattle.record_model.specs.declared.draft.ForRoot.{ForRoot}
use Rattle.zone_model.specs.declared.operations.Op.{Op}
use Rattle.zone_model.specs.Names.{same, is_in, has_twice}
use Rattle.zone_model.specs.GivenNames.{share_root_of, if_any, again, again_at, first_of, named_again}
use Rattle.zone_model.specs.OpForms.{IsMeantWhere, IsMeantOp}
use Rattle.zone_model.specs.Requests.{NamedOp, is_deletion, root_given, puts_in, roots_in}
use Rattle.zone_laws.specs.Laws.{IsGivenPut}
use Rattle.zone_laws.specs.MeantRequests.{as_given, AreNamed, IsDrawn, MeantRequestsAreLawful}
use Rattle.zone_laws.proofs.LawfulLaws.{effects_lawful}
use Rattle.zone_laws.proofs.MarkLaws.{twice_rest}

-- ---- no operation names one again

none_before : {A : Type 0} (o p : Option A) → option_or o p ≡ None → o ≡ None
none_before None p none = refl
none_before (Some x) p none = absurd (cc none)

none_behind : {A : Type 0} (o p : Option A) → option_or o p ≡ None → p ≡ None
none_behind None p none = none
none_behind (Some x) p none = absurd (cc none)

none_at : {A : Type 0} (at : ℕ → Option A) (n j : ℕ) → j < n → first_of at n ≡ None → at j ≡ None
none_at at zero j within none = let no : ⊥ = omega (arith, within) in absurd no
none_at at (suc n) j within none = by (nat_lt j n) refl (λ less. none_at at n j less (none_before (first_of at n) (at n) none)) where
  by : (b : Bool) → nat_lt j n ≡ b → (j < n → at j ≡ None) → at j ≡ None
  by true e earlier = earlier (ltb-true j n e)
  by false e earlier = let last : n ≡ j = omega (arith, within, ltb-false j n e) in subst (λ k. at k ≡ None) last (none_behind (first_of at n) (at n) none)

never : (ops : List Op) → named_again ops ≡ None → (j : ℕ) (x : Op) → slice_get ops j ≡ Some x → again (take j ops) x ≡ None
never ops none j x is =
    sym (ap (option_and_then (again (take j ops))) is) ∙ none_at (again_at ops) (length ops) j (slice_get_within ops j x is) none

-- ---- what is given, by some part of the operations, is given once

module _ (given : Op → Option (List ℕ)) where
  abbrev gives : List ℕ → Op → Bool
  gives name op = option_map_or (λ other. same other name) (given op) false

  -- what an operation gives, none before it gives
  abbrev IsOnce : List Op → Type 0
  IsOnce ops = (j : ℕ) (x : Op) → slice_get ops j ≡ Some x → if_any gives (take j ops) (given x) ≡ None

  fewer : (op : Op) (earlier : List Op) (o : Option (List ℕ)) → if_any gives (op ∷ earlier) o ≡ None → if_any gives earlier o ≡ None
  fewer op earlier None none = refl
  fewer op earlier (Some a) none = by (gives a op) (list_any (gives a) earlier) none where
    by : (b c : Bool) → (if b || c then Some a else None) ≡ None → (if c then Some a else None) ≡ None
    by true c e = absurd (cc e)
    by false c e = e

  once_rest : (op : Op) (ops : List Op) → IsOnce (op ∷ ops) → IsOnce ops
  once_rest op ops once j x is = fewer op (take j ops) (given x) (once (suc j) x is)

  taken : (op : Op) (earlier : List Op) (a b : List ℕ) → given op ≡ Some a → same a b ≡ true → if_any gives (op ∷ earlier) (Some b) ≡ Some b
  taken op earlier a b is e = ap (λ (o : Option (List ℕ)). if (option_map_or (λ other. same other b) o false || list_any (gives b) earlier) then Some b else None) is
      ∙ ap (λ t. if (t || list_any (gives b) earlier) then Some b else None) e

  apart : (op x : Op) (earlier : List Op) (a b : List ℕ) → given op ≡ Some a → given x ≡ Some b → if_any gives (op ∷ earlier) (given x) ≡ None → same a b ≡ false
  apart op x earlier a b is at none = by (same a b) refl where
    by : (t : Bool) → same a b ≡ t → same a b ≡ false
    by false e = e
    by true e = absurd (cc (taken op earlier a b is e, ap (if_any gives (op ∷ earlier)) at, none))

  -- a name that no operation gives
  not_among : (a : List ℕ) (ops : List Op) → ((j : ℕ) (x : Op) → slice_get ops j ≡ Some x → (b : List ℕ) → given x ≡ Some b → same a b ≡ false) → is_in (filter_map given ops) a ≡ false
  not_among a [] differs = refl
  not_among a (x ∷ ops) differs = by (given x) refl (not_among a ops (λ j. differs (suc j))) where
    by : (o : Option (List ℕ)) → given x ≡ o → is_in (filter_map given ops) a ≡ false → is_in (cons_option o (filter_map given ops)) a ≡ false
    by None e rest = rest
    by (Some b) e rest = or_from (same a b) _ (differs zero x refl b e) rest

  given_once : (ops : List Op) → IsOnce ops → has_twice (filter_map given ops) ≡ false
  given_once [] once = refl
  given_once (op ∷ ops) once = by (given op) refl (given_once ops (once_rest op ops once)) where
    by : (o : Option (List ℕ)) → given op ≡ o → has_twice (filter_map given ops) ≡ false → has_twice (cons_option o (filter_map given ops)) ≡ false
    by None e rest = rest
    by (Some a) e rest =
        let alone : is_in (filter_map given ops) a ≡ false = not_among a ops (λ j x is b at. apart op x (take j ops) a b e at (once (suc j) x is)) in
        ap (λ t. if t then true else has_twice (filter_map given ops)) alone ∙ rest

-- ---- the roots of puts are among those of all operations

same_root : (o : Option ForRoot) → option_map_or (λ (f : ForRoot). Some f.name) o None ≡ option_map (λ (f : ForRoot). f.name) o
same_root None = refl
same_root (Some f) = refl

abbrev root_of : NamedOp → Option (List ℕ)
root_of op = root_given op.draft

abbrev all_roots : List NamedOp → List (List ℕ)
all_roots ops = filter_map (λ (op : NamedOp). share_root_of (as_given op)) ops

out_of_rest : (o : Option (List ℕ)) (xs : List (List ℕ)) (a : List ℕ) → is_in (cons_option o xs) a ≡ false → is_in xs a ≡ false
out_of_rest None xs a out = out
out_of_rest (Some b) xs a out = (or_parts (same a b) (is_in xs a) out).1

out_of_both : (o : Option (List ℕ)) (xs ys : List (List ℕ)) (a : List ℕ) → is_in (cons_option o xs) a ≡ false → is_in ys a ≡ false → is_in (cons_option o ys) a ≡ false
out_of_both None xs ys a out rest = rest
out_of_both (Some b) xs ys a out rest = or_from (same a b) (is_in ys a) (or_parts (same a b) (is_in xs a) out).0 rest

once_of_fewer : (o : Option (List ℕ)) (xs ys : List (List ℕ)) → ((a : List ℕ) → is_in xs a ≡ false → is_in ys a ≡ false) → has_twice (cons_option o xs) ≡ false → has_twice ys ≡ false
    → has_twice (cons_option o ys) ≡ false
once_of_fewer None xs ys within once rest = rest
once_of_fewer (Some a) xs ys within once rest = by (is_in xs a) refl once where
  by : (b : Bool) → is_in xs a ≡ b → (if b then true else has_twice xs) ≡ false → has_twice (a ∷ ys) ≡ false
  by true e f = absurd (both_ways true f refl)
  by false e f = ap (λ t. if t then true else has_twice ys) (within a e) ∙ rest

puts_within : (ops : List NamedOp) (a : List ℕ) → is_in (all_roots ops) a ≡ false → is_in (filter_map root_of (puts_in ops)) a ≡ false
puts_within [] a out = refl
puts_within (op ∷ ops) a out = by (is_deletion op.kind) (puts_within ops a (out_of_rest (share_root_of (as_given op)) _ a out)) where
  by : (d : Bool) → is_in (filter_map root_of (puts_in ops)) a ≡ false → is_in (filter_map root_of (cond (not d) (op ∷ puts_in ops) (puts_in ops))) a ≡ false
  by true later = later
  by false later = ap (λ o. is_in (cons_option o (filter_map root_of (puts_in ops))) a) (same_root op.draft.for_root) ∙ out_of_both (share_root_of (as_given op)) (all_roots ops) _ a out later

puts_once : (ops : List NamedOp) → has_twice (all_roots ops) ≡ false → has_twice (filter_map root_of (puts_in ops)) ≡ false
puts_once [] once = refl
puts_once (op ∷ ops) once = by (is_deletion op.kind) (puts_once ops (twice_rest (share_root_of (as_given op)) _ once)) where
  by : (d : Bool) → has_twice (filter_map root_of (puts_in ops)) ≡ false → has_twice (filter_map root_of (cond (not d) (op ∷ puts_in ops) (puts_in ops))) ≡ false
  by true later = later
  by false later =
      ap (λ o. has_twice (cons_option o (filter_map root_of (puts_in ops)))) (same_root op.draft.for_root)
      ∙ once_of_fewer (share_root_of (as_given op)) (all_roots ops) _ (puts_within ops) once later

-- ---- puts as they are given

meant_put : (op : NamedOp) → is_deletion op.kind ≡ false → IsMeantOp (as_given op) → IsDrawn op → IsGivenPut op
meant_put op put meant drawn = record { name = drawn.name; meant = subst (λ b. IsMeantWhere b op.draft) put meant.draft; drawn = drawn.guid }

puts_given : (ops : List NamedOp) → AllByRecursion IsMeantOp (map as_given ops) → AllByRecursion IsDrawn ops → AllByRecursion IsGivenPut (puts_in ops)
puts_given [] meant drawn = tt
puts_given (op ∷ ops) meant drawn = by (is_deletion op.kind) refl (puts_given ops meant.1 drawn.1) where
  by : (d : Bool) → is_deletion op.kind ≡ d → AllByRecursion IsGivenPut (puts_in ops) → AllByRecursion IsGivenPut (cond (not d) (op ∷ puts_in ops) (puts_in ops))
  by true e later = later
  by false e later = (meant_put op e meant.0 drawn.0, later)

-- ---- requests

roots_named : (named : List NamedOp) → filter_map share_root_of (map as_given named) ≡ all_roots named
roots_named [] = refl
roots_named (op ∷ named) = ap (cons_option (share_root_of (as_given op))) (roots_named named)

pub names_once : (ops : List Op) → named_again ops ≡ None → has_twice (filter_map (λ (op : Op). op.draft.name) ops) ≡ false
names_once ops none = given_once (λ op. op.draft.name) ops (λ j x is. none_before _ _ (never ops none j x is))

pub roots_once : (ops : List Op) (named : List NamedOp) → named_again ops ≡ None → AreNamed ops named → has_twice (roots_in named) ≡ false
roots_once ops named none are =
    let once = given_once share_root_of ops (λ j x is. none_behind _ _ (never ops none j x is)) in
    puts_once named (ap has_twice (sym (roots_named named) ∙ ap (filter_map share_root_of) are) ∙ once)

pub meant_lawful : MeantRequestsAreLawful
meant_lawful = record {
  names = λ ops meant. names_once ops meant.once;
  roots = λ ops named meant are. roots_once ops named meant.once are;
  puts = λ ops named meant are drawn. puts_given named (subst (AllByRecursion IsMeantOp) (sym are) meant.meant) drawn;
  commits = λ caller moment log atomic ops named lawful there meant are.
      effects_lawful.requests caller moment log atomic named lawful there (roots_once ops named meant.once are);
}
