use Rattle.std.proofs.Common.{rules}
use Rattle.std.proofs.lemmas.List.{take_rest}
use Rattle.http_front.proofs.UsersLemmas.{pieces_none, pieces_some}
use Rattle.http_front.proofs.users.split_once.Goals as goal

pub returns-in_err-at-clause-pieces : goal.returns-in_err-at-clause-pieces
returns-in_err-at-clause-pieces c = search (rules, pieces_none)

pub returns-clause-pieces : goal.returns-clause-pieces
returns-clause-pieces c = rw take_rest (pieces_some _ _ _ (search rules))
