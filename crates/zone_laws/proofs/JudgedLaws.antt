-- The faults of operations, one after another, where the names of earlier puts are carried along.
use Rattle.std.proofs.Common.{◌≡◌, ℕ, List, [], ◌∷◌, ◌++◌, Bool, true, false, cond, not, ◌||◌, refl, sym, ap, ◌∙◌, Option, map}
use Rattle.std.specs.Prelude.{filter, if◌then◌else◌}
use Rattle.std.specs.List.{zip}
use Rattle.std.proofs.lemmas.List.{append-nil, append_assoc}
use Rattle.zone_model.specs.declared.outcomes.OpFault.{OpFault}
use Rattle.zone_model.specs.declared.outcomes.OpFault.TheVariants.{Exists, NotFound, Conflict, BadRequest, AccessDenied, Validating}
use Rattle.zone_model.specs.Names.{same, is_in}
use Rattle.zone_model.specs.Views.{fronts}
use Rattle.zone_model.specs.Requests.{NamedOp, is_deletion, names_put}
use Rattle.zone_model.specs.Grounds.{Grounds, first_fault}
use Rattle.zone_model.specs.PutChecks.{is_in_view, is_hidden, has_shared_root, is_missing, is_in_conflict, has_bad_form, is_denied, is_dangling, fault_of_put}
use Rattle.zone_model.specs.DeletionChecks.{fault_of_deletion}
use Rattle.zone_model.specs.Judging.{fault_behind, faults_of}

-- the first check that fails for each operation, if one does, where puts with these names come earlier
abbrev pub faults_from : Grounds → List (List ℕ) → List NamedOp → List (Option OpFault)
faults_from g earlier [] = []
faults_from g earlier (op ∷ ops) =
    if is_deletion op.kind then fault_of_deletion g op ∷ faults_from g earlier ops
    else fault_of_put g op earlier ∷ faults_from g (op.name ∷ earlier) ops

-- of the earlier names it counts whether the own one is among them
same_fault : (g : Grounds) (p : NamedOp) (some more : List (List ℕ)) → is_in some p.name ≡ is_in more p.name → fault_of_put g p some ≡ fault_of_put g p more
same_fault g p some more e = ap (λ again. first_fault (
    (is_in_view g p || (is_hidden g p || (again || has_shared_root g p)), Exists)
    ∷ (is_missing g p, NotFound)
    ∷ (is_in_conflict g p, Conflict)
    ∷ (has_bad_form g p, BadRequest)
    ∷ (is_denied g p, AccessDenied)
    ∷ (is_dangling g p, Validating)
    ∷ [])) e

-- ---- the names of puts, with one operation more at their end

abbrev with_one : Bool → Bool → Bool → Bool
with_one deletes own rest = if deletes then rest else own || rest

abbrev puts : List NamedOp → List NamedOp
puts ops = filter (λ (op : NamedOp). not (is_deletion op.kind)) ops

head_put : (d : Bool) (b : NamedOp) (bs : List NamedOp) (x : List ℕ) → is_in (map (λ (o : NamedOp). o.name) (cond (not d) (b ∷ puts bs) (puts bs))) x ≡ with_one d (same x b.name) (is_in (names_put bs) x)
head_put true b bs x = refl
head_put false b bs x = refl

or_turned : (a b c : Bool) → (a || (b || c)) ≡ (b || (a || c))
or_turned true true c = refl
or_turned true false c = refl
or_turned false b c = refl

both_turned : (d e a b c : Bool) → with_one d a (with_one e b c) ≡ with_one e b (with_one d a c)
both_turned true e a b c = refl
both_turned false true a b c = refl
both_turned false false a b c = or_turned a b c

last_put : (before : List NamedOp) (op : NamedOp) (x : List ℕ) → is_in (names_put (before ++ op ∷ [])) x ≡ with_one (is_deletion op.kind) (same x op.name) (is_in (names_put before) x)
last_put [] op x = head_put (is_deletion op.kind) op [] x
last_put (b ∷ before) op x =
    let own = same x op.name in
    let first = same x b.name in
    head_put (is_deletion b.kind) b (before ++ op ∷ []) x
    ∙ ap (with_one (is_deletion b.kind) first) (last_put before op x)
    ∙ both_turned (is_deletion b.kind) (is_deletion op.kind) first own (is_in (names_put before) x)
    ∙ ap (with_one (is_deletion op.kind) own) (sym (head_put (is_deletion b.kind) b before x))

-- ---- each operation by those before it

abbrev judged : Grounds → List NamedOp × NamedOp → Option OpFault
judged g x = fault_behind g x.0 x.1

moved : (before : List NamedOp) (op : NamedOp) (fs : List (List NamedOp)) → map (λ f. before ++ f) (map (λ f. op ∷ f) fs) ≡ map (λ f. (before ++ op ∷ []) ++ f) fs
moved before op [] = refl
moved before op (f ∷ fs) = λ i. sym (append_assoc before (op ∷ []) f) i ∷ moved before op fs i

unmoved : (fs : List (List NamedOp)) → map (λ (f : List NamedOp). f) fs ≡ fs
unmoved [] = refl
unmoved (f ∷ fs) = ap (λ (more : List (List NamedOp)). f ∷ more) (unmoved fs)

one_more : (d : Bool) (g : Grounds) (op : NamedOp) (before ops : List NamedOp) (earlier : List (List ℕ)) (more : List (Option OpFault))
    → ((x : List ℕ) → is_in (names_put before) x ≡ is_in earlier x)
    → ((some : List (List ℕ)) → ((x : List ℕ) → with_one d (same x op.name) (is_in (names_put before) x) ≡ is_in some x) → more ≡ faults_from g some ops)
    → (if d then fault_of_deletion g op else fault_of_put g op (names_put before)) ∷ more
    ≡ (if d then fault_of_deletion g op ∷ faults_from g earlier ops else fault_of_put g op earlier ∷ faults_from g (op.name ∷ earlier) ops)
one_more true g op before ops earlier more alike rest = ap (λ fs. fault_of_deletion g op ∷ fs) (rest earlier alike)
one_more false g op before ops earlier more alike rest =
    ap (λ fault. fault ∷ more) (same_fault g op (names_put before) earlier (alike op.name))
    ∙ ap (λ fs. fault_of_put g op earlier ∷ fs) (rest (op.name ∷ earlier) (λ x. ap (λ b. same x op.name || b) (alike x)))

told_behind : (ops before : List NamedOp) (g : Grounds) (earlier : List (List ℕ)) → ((x : List ℕ) → is_in (names_put before) x ≡ is_in earlier x)
    → map (judged g) (zip (map (λ f. before ++ f) (fronts ops)) ops) ≡ faults_from g earlier ops
told_behind [] before g earlier alike = refl
told_behind (op ∷ ops) before g earlier alike =
    ap (λ front. fault_behind g front op ∷ map (judged g) (zip (map (λ f. before ++ f) (map (λ f. op ∷ f) (fronts ops))) ops)) (append-nil before)
    ∙ ap (λ fs. fault_behind g before op ∷ map (judged g) (zip fs ops)) (moved before op (fronts ops))
    ∙ one_more (is_deletion op.kind) g op before ops earlier (map (judged g) (zip (map (λ f. (before ++ op ∷ []) ++ f) (fronts ops)) ops)) alike
    (λ some are. told_behind ops (before ++ op ∷ []) g some (λ x. last_put before op x ∙ are x))

pub faults_told : (g : Grounds) (ops : List NamedOp) → faults_of g ops ≡ faults_from g [] ops
faults_told g ops = ap (λ fs. map (judged g) (zip fs ops)) (sym (unmoved (fronts ops))) ∙ told_behind ops [] g [] (λ x. refl)
