use Rattle.std.proofs.Common.{arith, refl}
use Rattle.http_front.proofs.UsersLemmas.{pair_of_line}
use Rattle.http_front.proofs.users.read_pair.Goals as goal

pub returns-in_err-web_token : goal.returns-in_err-web_token
returns-in_err-web_token c = rw (c.from_residual.ensures, c.in_err-web_token.ensures.pieces) refl

pub returns-then-is_none : goal.returns-then-is_none
returns-then-is_none c =
    let read = pair_of_line c.args.earlier.now c.args.line.now c.in_ok-web_token.web_token.now c.in_ok-web_token.user.now c.in_ok-web_token.ensures.pieces in
    grind (arith, read)

pub returns-else-is_part : goal.returns-else-is_part
returns-else-is_part c =
    let read = pair_of_line c.args.earlier.now c.args.line.now c.in_ok-web_token.web_token.now c.in_ok-web_token.user.now c.in_ok-web_token.ensures.pieces in
    grind (arith, read)
