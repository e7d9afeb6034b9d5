-- Loops over operations.
use Rattle.std.proofs.Common.{◌≡◌, ℕ, zero, suc, ◌+◌, ◌-◌, ◌<◌, ◌≤◌, List, [], ◌∷◌, ◌++◌, length, take, drop, get_or, map, Option, None, Some, option_and_then, refl, sym, ap, subst, ◌∙◌, append_assoc, arith}
use Rattle.std.specs.Prelude.{Result, Ok, Err, ok_or}
use Rattle.std.specs.Option.{option_or}
use Rattle.std.proofs.lemmas.List.{drop_more, take_more, length-append}
use Rattle.std.proofs.lemmas.Option.{slice_get_read}
use Rattle.serde_json.specs.View.{view}
use Rattle.serde_json.specs.declared.value.Value.{Value as Json}
use Rattle.ck_base.specs.declared.key.ZoneKey.{ZoneKey}
use Rattle.field_values.specs.Results.{result_map, result_and_then}
use Rattle.zone_model.specs.declared.operations.Op.{Op}
use Rattle.modify_ops.specs.declared.fault.BadOps.{BadOps}
use Rattle.modify_ops.specs.declared.fault.BadOps.TheVariants.{BadOp}
use Rattle.modify_ops.specs.Forms.{op_of, ops_from}
use Rattle.zone_model.specs.GivenNames.{again, again_at, first_of, named_again}

-- ---- names that come again

module _ {A : Type 0} where
  none_before : (o p : Option A) → option_or o p ≡ None → o ≡ None
  none_before None p none = refl
  none_before (Some x) p none = absurd (cc none)

  -- where so many places have nothing, fewer have nothing
  none_of_fewer : (at : ℕ → Option A) (more n m : ℕ) → m ≡ n + more → first_of at m ≡ None → first_of at n ≡ None
  none_of_fewer at zero n m is none = let same : m ≡ n = omega (arith, is) in subst (λ k. first_of at k ≡ None) same none
  none_of_fewer at (suc more) n zero is none = let no : ⊥ = omega (arith, is) in absurd no
  none_of_fewer at (suc more) n (suc m) is none = none_of_fewer at more n m (omega (arith, is)) (none_before (first_of at m) (at m) none)

  -- more places change nothing
  first_of_more : (at : ℕ → Option A) (more n m : ℕ) (x : A) → m ≡ n + more → first_of at n ≡ Some x → first_of at m ≡ Some x
  first_of_more at zero n m x is first = let same : n ≡ m = omega (arith, is) in subst (λ k. first_of at k ≡ Some x) same first
  first_of_more at (suc more) n zero x is first = let no : ⊥ = omega (arith, is) in absurd no
  first_of_more at (suc more) n (suc m) x is first = rw (first_of_more at more n m x (omega (arith, is)) first) refl

module _ (ops : List Op) (i : ℕ) (op : Op) (within : i < length ops) (at : op ≡ get_or ops i op) where
  next : again_at ops i ≡ again (take i ops) op
  next = ap (option_and_then (again (take i ops))) (slice_get_read ops (length ops) i op refl within at)

  -- the next operation names one again
  pub again_here : (name : List ℕ) → again (take i ops) op ≡ Some name → first_of (again_at ops) i ≡ None → named_again ops ≡ Some name
  again_here name is so_far =
      let here : first_of (again_at ops) (suc i) ≡ Some name = rw (so_far, next) is in
      first_of_more (again_at ops) (length ops - suc i) (suc i) (length ops) name (omega (arith, within)) here

  -- it names none again
  pub again_later : again (take i ops) op ≡ None → first_of (again_at ops) i ≡ None → first_of (again_at ops) (i + 1) ≡ None
  again_later is so_far =
      let later : first_of (again_at ops) (suc i) ≡ None = rw (so_far, next) is in
      let one : suc i ≡ i + 1 = omega arith in
      subst (λ n. first_of (again_at ops) n ≡ None) one later

pub never_again : (ops : List Op) (i : ℕ) → length ops ≤ i → first_of (again_at ops) i ≡ None → named_again ops ≡ None
never_again ops i past so_far =
    none_of_fewer (again_at ops) (i - length ops) (length ops) i (omega (arith, past)) so_far

-- ---- reading one after another

-- with one more there are as many as were looked at
pub one_longer : (items : List Json) (i : ℕ) (item : Json) (done more : List Op) (op : Op) → i < length items → more ≡ done ++ op ∷ [] → length done ≡ length (take i items)
    → length more ≡ length (take (i + 1) items)
one_longer items i item done more op within pushed so_far =
    let longer : length (take (i + 1) items) ≡ length (take i items) + 1 = ap length (take_more items i item within) ∙ length-append (take i items) (get_or items i item ∷ []) in
    omega (arith, ap length pushed, length-append done (op ∷ []), so_far, longer)

behind_more : {E : Type 0} (done : List Op) (op : Op) (rest : Result (List Op) E)
    → result_map (λ ops. done ++ ops) (result_and_then (λ ops. Ok (op ∷ ops)) rest) ≡ result_map (λ ops. (done ++ op ∷ []) ++ ops) rest
behind_more done op (Ok ops) = ap Ok (sym (append_assoc done (op ∷ []) ops))
behind_more done op (Err e) = refl

module _ (here : ZoneKey) (caller : List ℕ) where
  abbrev from : ℕ → List Json → Result (List Op) BadOps
  from place items = ops_from here caller place (map view items)

  module _ (items : List Json) (i : ℕ) (item : Json) (done : List Op) (within : i < length items) (at : item ≡ get_or items i item)
      (so_far : from 0 items ≡ result_map (λ ops. done ++ ops) (from i (drop i items))) where
    step : from i (drop i items) ≡ result_and_then (λ op. result_and_then (λ ops. Ok (op ∷ ops)) (from (suc i) (drop (i + 1) items))) (ok_or (op_of here caller (view item)) (BadOp i))
    step = ap (from i) (drop_more items i item within ∙ ap (λ x. x ∷ drop (i + 1) items) (sym at))

    -- an operation was read that stands next
    pub op_read : (op : Op) (more : List Op) → Ok op ≡ ok_or (op_of here caller (view item)) (BadOp i) → more ≡ done ++ op ∷ []
        → from 0 items ≡ result_map (λ ops. more ++ ops) (from (i + 1) (drop (i + 1) items))
    op_read op more read grown =
        let later = from (suc i) (drop (i + 1) items) in
        let one : suc i ≡ i + 1 = omega arith in
        so_far ∙ ap (result_map (λ ops. done ++ ops)) step
        ∙ ap (λ r. result_map (λ ops. done ++ ops) (result_and_then (λ op. result_and_then (λ ops. Ok (op ∷ ops)) later) r)) (sym read)
        ∙ behind_more done op later ∙ ap (λ xs. result_map (λ ops. xs ++ ops) later) (sym grown)
        ∙ ap (λ n. result_map (λ ops. more ++ ops) (from n (drop (i + 1) items))) one

    -- what stands next is none
    pub op_refused : (fault : BadOps) → ok_or (op_of here caller (view item)) (BadOp i) ≡ Err fault → Err fault ≡ from 0 items
    op_refused fault refused =
        sym (so_far ∙ ap (result_map (λ ops. done ++ ops)) step
        ∙ ap (λ r. result_map (λ (ops : List Op). done ++ ops) (result_and_then (λ op. result_and_then (λ ops. Ok (op ∷ ops)) (from (suc i) (drop (i + 1) items))) r)) refused)
