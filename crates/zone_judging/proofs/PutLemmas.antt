-- Which names operations put.
use Rattle.std.proofs.Common.{◌≡◌, ℕ, List, [], ◌∷◌, Bool, true, false, cond, not, ◌&&◌, ◌||◌, refl, sym, ap, ◌∙◌, map, Option, None, Some, find}
use Rattle.std.specs.Prelude.{is_some, option_map}
use denote.Ref.{Bor}
use Rattle.std.specs.List.{list_any}
use Rattle.zone_model.specs.Names.{same, is_in}
use Rattle.zone_model.specs.Requests.{NamedOp as Named, is_deletion, names_put, puts_in}
use Rattle.zone_judging.specs.declared.request.NamedOp.{NamedOp}
use Rattle.zone_judging.specs.Asked.{named, puts}
use Rattle.zone_judging.specs.Made.{first_put}

puts_step : (d : Bool) (p : Named) (ps : List Named) (x : List ℕ) → is_in (map (λ (o : Named). o.name) (cond (not d) (p ∷ ps) ps)) x ≡ ((not d && same x p.name) || is_in (map (λ (o : Named). o.name) ps) x)
puts_step true p ps x = refl
puts_step false p ps x = refl

pub one_puts : (ops : List NamedOp) (x : List ℕ) → list_any (puts x) ops ≡ is_in (names_put (map named ops)) x
one_puts [] x = refl
one_puts (p ∷ ops) x = ap (λ b. puts x p || b) (one_puts ops x)
    ∙ sym (puts_step (is_deletion p.op.now.kind) (named p) (puts_in (map named ops)) x)

-- ---- the first put of a name

found_step : (d s : Bool) (p : NamedOp) (ops : List NamedOp) (x : List ℕ) → is_deletion p.op.now.kind ≡ d → same x p.name.now ≡ s
    → find (λ (q : Named). same x q.name) (puts_in (map named ops)) ≡ option_map named (find (puts x) ops)
    → find (λ (q : Named). same x q.name) (cond (not d) (named p ∷ puts_in (map named ops)) (puts_in (map named ops))) ≡ option_map named (cond (not d && s) (Some p) (find (puts x) ops))
found_step true s p ops x is at rest = rest
found_step false true p ops x is at rest = ap (λ b. cond b (Some (named p)) (find (λ (q : Named). same x q.name) (puts_in (map named ops)))) at
found_step false false p ops x is at rest = ap (λ b. cond b (Some (named p)) (find (λ (q : Named). same x q.name) (puts_in (map named ops)))) at ∙ rest

found_named : (ops : List NamedOp) (x : List ℕ) → find (λ (q : Named). same x q.name) (puts_in (map named ops)) ≡ option_map named (find (puts x) ops)
found_named [] x = refl
found_named (p ∷ ops) x = found_step (is_deletion p.op.now.kind) (same x p.name.now) p ops x refl refl (found_named ops x)

now_named : (o : Option (Bor NamedOp)) → option_map (λ (p : Bor NamedOp). named p.now) o ≡ option_map named (option_map (λ (p : Bor NamedOp). p.now) o)
now_named None = refl
now_named (Some p) = refl

pub put_found : (o : Option (Bor NamedOp)) (ops : List NamedOp) (x : List ℕ) → option_map (λ (p : Bor NamedOp). p.now) o ≡ find (puts x) ops → option_map (λ (p : Bor NamedOp). named p.now) o ≡ first_put (map named ops) x
put_found o ops x is = now_named o ∙ ap (option_map named) is ∙ sym (found_named ops x)

some_named : (o : Option (Bor NamedOp)) → is_some (option_map (λ (p : Bor NamedOp). named p.now) o) ≡ is_some o
some_named None = refl
some_named (Some p) = refl

pub made_there : (o : Option (Bor NamedOp)) (m : Option Named) → option_map (λ (p : Bor NamedOp). named p.now) o ≡ m → is_some o ≡ is_some m
made_there o m is = sym (some_named o) ∙ ap is_some is
