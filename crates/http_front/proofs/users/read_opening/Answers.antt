use Rattle.std.proofs.Common.{arith, refl}
use Rattle.http_front.proofs.UsersLemmas.{opening_of_line}
use Rattle.http_front.proofs.users.read_opening.Goals as goal

pub returns-in_err-container : goal.returns-in_err-container
returns-in_err-container c = rw (c.from_residual.ensures, c.in_err-container.ensures.pieces) refl

pub returns-in_err-environment : goal.returns-in_err-environment
returns-in_err-environment c =
    rw (c.from_residual-in_err-environment.ensures, c.in_ok-container.ensures.pieces, c.in_err-environment.ensures.pieces) refl

pub returns-then-is_part-2 : goal.returns-then-is_part-2
returns-then-is_part-2 c =
    let read = opening_of_line c.args.line.now c.in_ok-container.container.now c.in_ok-container.rest.now c.in_ok-environment.environment.now c.in_ok-environment.api_token.now c.in_ok-container.ensures.pieces c.in_ok-environment.ensures.pieces in
    grind (arith, read)

pub returns-else-is_part : goal.returns-else-is_part
returns-else-is_part c =
    let read = opening_of_line c.args.line.now c.in_ok-container.container.now c.in_ok-container.rest.now c.in_ok-environment.environment.now c.in_ok-environment.api_token.now c.in_ok-container.ensures.pieces c.in_ok-environment.ensures.pieces in
    grind (arith, read)
