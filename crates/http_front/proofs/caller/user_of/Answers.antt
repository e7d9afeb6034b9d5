use Rattle.std.proofs.Common.{◌≡◌, sym, rules}
use Rattle.http_front.proofs.UsersLemmas.{user_is_named}
use Rattle.http_front.proofs.caller.user_of.Goals as goal

pub returns-in_ok-clone-in-Some-clause-meant : goal.returns-in_ok-clone-in-Some-clause-meant
returns-in_ok-clone-in-Some-clause-meant c =
    let same : c.in_ok-clone-in-Some.field-0 ≡ c.in-Some.user.now = search rules in
    let named = user_is_named c.args.users.now.users c.args.web_token.now c.in-Some.user.now (sym c.in-Some.ensures) in
    let name = rw c.as_bytes-bytes.ensures.bytes at c.as_bytes-bytes.ensures.name in
    rw same (name, named)
