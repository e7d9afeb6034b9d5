use Rattle.std.proofs.Common.{arith, refl, sym, ◌∙◌, ◌≡◌, ◌++◌, ◌∷◌, [], Some, None}
use Rattle.http_front.specs.Users.{parts_of, pair_of}
use Rattle.http_front.proofs.UsersLemmas.{line_bad, line_good, user_is_part}
use Rattle.http_front.proofs.users.read_pairs.Goals as goal

pub returns-in_default-read_pair : goal.returns-in_default-read_pair
returns-in_default-read_pair c =
    let none : pair_of c.loop-line.users (parts_of c.in-Some.line.now) ≡ None = rw c.as_slice.ensures at (sym c.in_default-read_pair.ensures) in
    λ _. sym (c.loop-line.invariant.0 ∙ line_bad c.loop-line.number c.loop-line.users c.loop-line.rest.now c.in-Some.line.now c.in-Some.later.now c.in-Some.ensures.pieces none)

pub name_of_user-requires : goal.name_of_user-requires
name_of_user-requires c =
    user_is_part c.as_slice.result.now c.in-Some.line.now (c.in-Some-read_pair.web_token.now, c.in-Some-read_pair.user.now) (sym c.in-Some-read_pair.ensures)

pub loop-line-preserved : goal.loop-line-preserved
loop-line-preserved c =
    let some : pair_of c.loop-line.users (parts_of c.in-Some.line.now) ≡ Some (c.in-Some-read_pair.web_token.now, c.in-Some-read_pair.user.now) = rw c.as_slice.ensures at (sym c.in-Some-read_pair.ensures) in
    let pushed : c.loop-line.users ++ (c.in-Some-read_pair.web_token.now, c.in-Some-read_pair.user.now) ∷ [] ≡ c.push.new.self = cc (c.in_ok-push.ensures.ok, c.in_ok-web_token.ensures, c.in_ok-name_of_user.ensures) in (
      c.loop-line.invariant.0
          ∙ line_good c.loop-line.number c.loop-line.users c.loop-line.rest.now c.in-Some.line.now c.in-Some.later.now (c.in-Some-read_pair.web_token.now, c.in-Some-read_pair.user.now) c.in-Some.ensures.pieces some
          ∙ rw pushed refl,
      omega (arith, c.in-Some.ensures.shorter),
    )
