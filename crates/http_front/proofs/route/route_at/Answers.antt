use Rattle.std.proofs.Common.{◌≡◌, None, sym, ap, ◌∙◌, arith}
use Rattle.matchit.specs.Seek.{first}
use Rattle.http_front.specs.Matching.{path_rows}
use Rattle.http_front.specs.Routes.{route_by}
use Rattle.http_front.proofs.MatchLemmas.{are_bytes}
use Rattle.http_front.proofs.TakenLemmas.{taken, unmatched, no_text}
use Rattle.http_front.proofs.route.route_at.Goals as goal

pub returns-in_default : goal.returns-in_default
returns-in_default c = sym (no_text c.args.method.now c.args.path.now c.in_default.ensures.cases.0)

pub returns-in_default-at : goal.returns-in_default-at
returns-in_default-at c =
    let none : first path_rows c.args.path.now ≡ None = rw (c.requires, c.in-Ok.ensures.cases.0) at c.in_default-at.ensures.missing in
    sym (unmatched c.args.method.now c.args.path.now (are_bytes c.args.path.now (λ i. let fits = c.type_inv.path i in omega arith)) none)

pub segments_of-requires : goal.segments_of-requires
segments_of-requires c =
    let bytes = are_bytes c.args.path.now (λ i. let fits = c.type_inv.path i in omega arith) in
    let is = taken c.in-Ok-at.found.params c.args.path.now bytes c.in-Ok.ensures.cases.1 (c.in-Ok-at.ensures.path ∙ c.in-Ok.ensures.cases.0) (rw (c.requires, c.in-Ok.ensures.cases.0) at c.in-Ok-at.ensures.found) in
    is.texts

pub returns-in-Some : goal.returns-in-Some
returns-in-Some c =
    let bytes = are_bytes c.args.path.now (λ i. let fits = c.type_inv.path i in omega arith) in
    let is = taken c.in-Ok-at.found.params c.args.path.now bytes c.in-Ok.ensures.cases.1 (c.in-Ok-at.ensures.path ∙ c.in-Ok.ensures.cases.0) (rw (c.requires, c.in-Ok.ensures.cases.0) at c.in-Ok-at.ensures.found) in
    c.route_by.ensures ∙ ap (route_by c.args.method.now) (c.in-Some.ensures ∙ is.segments)

pub returns-in-None : goal.returns-in-None
returns-in-None c =
    let bytes = are_bytes c.args.path.now (λ i. let fits = c.type_inv.path i in omega arith) in
    let is = taken c.in-Ok-at.found.params c.args.path.now bytes c.in-Ok.ensures.cases.1 (c.in-Ok-at.ensures.path ∙ c.in-Ok.ensures.cases.0) (rw (c.requires, c.in-Ok.ensures.cases.0) at c.in-Ok-at.ensures.found) in
    ap (route_by c.args.method.now) (c.in-None.ensures ∙ is.segments)
