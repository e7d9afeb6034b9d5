-- The faults of operations, one after another.
use Rattle.std.proofs.Common.{◌≡◌, ℕ, ◌<◌, ◌+◌, List, [], ◌∷◌, ◌++◌, refl, sym, ap, ◌∙◌, Option, map, take, length, get_or, true, false}
use Rattle.std.specs.Prelude.{if◌then◌else◌}
use Rattle.std.specs.List.{zip}
use Rattle.std.proofs.lemmas.List.{append-nil, append_assoc, take_more}
use Rattle.zone_model.specs.declared.outcomes.OpFault.{OpFault}
use Rattle.zone_model.specs.Views.{fronts}
use Rattle.zone_model.specs.Requests.{NamedOp as Named}
use Rattle.zone_model.specs.Grounds.{Grounds}
use Rattle.zone_model.specs.Judging.{fault_behind, faults_of, has_fault, together}
use Rattle.zone_judging.specs.declared.request.NamedOp.{NamedOp}
use Rattle.zone_judging.specs.Asked.{named}
use Rattle.zone_judging.specs.Judged.{refused}

-- of the operations, where these come before them
abbrev pub faults_after : Grounds → List Named → List Named → List (Option OpFault)
faults_after g before [] = []
faults_after g before (op ∷ ops) = fault_behind g before op ∷ faults_after g (before ++ op ∷ []) ops

abbrev judged : Grounds → List Named × Named → Option OpFault
judged g x = fault_behind g x.0 x.1

moved : (before : List Named) (op : Named) (fs : List (List Named)) → map (λ f. before ++ f) (map (λ f. op ∷ f) fs) ≡ map (λ f. (before ++ op ∷ []) ++ f) fs
moved before op [] = refl
moved before op (f ∷ fs) = λ i. sym (append_assoc before (op ∷ []) f) i ∷ moved before op fs i

unmoved : (fs : List (List Named)) → map (λ (f : List Named). f) fs ≡ fs
unmoved [] = refl
unmoved (f ∷ fs) = ap (λ (more : List (List Named)). f ∷ more) (unmoved fs)

told_behind : (ops before : List Named) (g : Grounds) → map (judged g) (zip (map (λ f. before ++ f) (fronts ops)) ops) ≡ faults_after g before ops
told_behind [] before g = refl
told_behind (op ∷ ops) before g =
    ap (λ front. fault_behind g front op ∷ map (judged g) (zip (map (λ f. before ++ f) (map (λ f. op ∷ f) (fronts ops))) ops)) (append-nil before)
    ∙ ap (λ fs. fault_behind g before op ∷ map (judged g) (zip fs ops)) (moved before op (fronts ops))
    ∙ ap (λ fs. fault_behind g before op ∷ fs) (told_behind ops (before ++ op ∷ []) g)

pub faults_start : (g : Grounds) (ops : List Named) → faults_of g ops ≡ faults_after g [] ops
faults_start g ops = ap (λ fs. map (judged g) (zip fs ops)) (sym (unmoved (fronts ops))) ∙ told_behind ops [] g

after_more : (g : Grounds) (before ops : List Named) (op : Named) → faults_after g before (ops ++ op ∷ []) ≡ faults_after g before ops ++ fault_behind g (before ++ ops) op ∷ []
after_more g before [] op = ap (λ (front : List Named). fault_behind g front op ∷ []) (sym (append-nil before))
after_more g before (p ∷ ops) op =
    ap (λ fs. fault_behind g before p ∷ fs) (after_more g (before ++ p ∷ []) ops op)
    ∙ ap (λ (front : List Named). fault_behind g before p ∷ (faults_after g (before ++ p ∷ []) ops ++ fault_behind g front op ∷ [])) (append_assoc before (p ∷ []) ops)

mapped : (xs : List NamedOp) (x : NamedOp) → map named (xs ++ x ∷ []) ≡ map named xs ++ named x ∷ []
mapped [] x = refl
mapped (y ∷ xs) x = ap (λ (ys : List Named). named y ∷ ys) (mapped xs x)

-- with one operation more
pub faults_more : (g : Grounds) (ops : List NamedOp) (i : ℕ) (d : NamedOp) → i < length ops
    → faults_after g [] (map named (take (i + 1) ops)) ≡ faults_after g [] (map named (take i ops)) ++ fault_behind g (map named (take i ops)) (named (get_or ops i d)) ∷ []
faults_more g ops i d l = ap (λ (xs : List NamedOp). faults_after g [] (map named xs)) (take_more ops i d l)
    ∙ ap (faults_after g []) (mapped (take i ops) (get_or ops i d)) ∙ after_more g [] (map named (take i ops)) (named (get_or ops i d))

-- ---- refused together

pub together_then : (faults : List (Option OpFault)) → has_fault faults ≡ true → map refused faults ≡ together faults
together_then faults e = ap (λ b. if b then map refused faults else faults) (sym e)

pub together_else : (faults : List (Option OpFault)) → has_fault faults ≡ false → faults ≡ together faults
together_else faults e = ap (λ b. if b then map refused faults else faults) (sym e)
