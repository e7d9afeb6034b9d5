use Rattle.std.proofs.Common.{◌≡◌, sym, Ok, Err, rules}
use Rattle.std.proofs.lemmas.Result.{err_from_is_err_and}
use Rattle.http_front.specs.declared.users.UsersFault.TheVariants.{BadLine}
use Rattle.http_front.specs.Users.{table_of}
use Rattle.http_front.proofs.UsersLemmas.{table_read, table_refused, table_spelled, refused_is_no_table}
use Rattle.http_front.proofs.users.read_users.Goals as goal

-- what the text says, by what was read of it
read : (c : goal.In_ok-read_pairs) → table_of c.args.bytes.now ≡ Ok (record { container = c.in_ok-from_slice.field-0; environment = c.in_ok-from_slice-2.field-0; api_token = c.in_ok-from_slice-3.field-0; users = c.in_ok-read_pairs.field-0 })
read c =
    rw (c.in_ok-from_slice.ensures, c.in_ok-from_slice-2.ensures, c.in_ok-from_slice-3.ensures)
    (table_read c.args.bytes.now c.in-Some.first.now c.in-Some.later.now c.in-Some-read_opening.container.now c.in-Some-read_opening.environment.now c.in-Some-read_opening.api_token.now c.in_ok-read_pairs.field-0 c.in-Some.ensures.pieces c.in-Some-read_opening.ensures (c.in_ok-read_pairs.ensures (λ e. cc)))

pub returns-clause-exact : goal.returns-clause-exact
returns-clause-exact c = λ _. sym (read c)

pub returns-clause-spelled : goal.returns-clause-spelled
returns-clause-spelled c = table_spelled c.args.bytes.now _ (read c)

pub returns-in_default-clause-refused : goal.returns-in_default-clause-refused
returns-in_default-clause-refused c = refused_is_no_table (Err (BadLine 1)) c.args.bytes.now (search rules)

pub returns-in_default-read_opening-clause-refused : goal.returns-in_default-read_opening-clause-refused
returns-in_default-read_opening-clause-refused c = refused_is_no_table (Err (BadLine 1)) c.args.bytes.now (search rules)

pub returns-in_err-read_pairs-clause-refused : goal.returns-in_err-read_pairs-clause-refused
returns-in_err-read_pairs-clause-refused c =
    let fault = err_from_is_err_and c.from_residual-in_err-read_pairs.result c.from_residual-in_err-read_pairs.ensures.1 in
    rw (fault.1, fault.2)
    (refused_is_no_table (Err c.in_err-read_pairs.field-0.0) c.args.bytes.now
    (λ other. table_refused c.args.bytes.now c.in-Some.first.now c.in-Some.later.now c.in-Some-read_opening.container.now c.in-Some-read_opening.environment.now c.in-Some-read_opening.api_token.now c.in_err-read_pairs.field-0.0 c.in-Some.ensures.pieces c.in-Some-read_opening.ensures (c.in_err-read_pairs.ensures (λ e. other (cc)))))

pub returns-in_err-read_pairs-clause-exact : goal.returns-in_err-read_pairs-clause-exact
returns-in_err-read_pairs-clause-exact c =
    let fault = err_from_is_err_and c.from_residual-in_err-read_pairs.result c.from_residual-in_err-read_pairs.ensures.1 in
    rw (fault.1, fault.2)
    (λ other. table_refused c.args.bytes.now c.in-Some.first.now c.in-Some.later.now c.in-Some-read_opening.container.now c.in-Some-read_opening.environment.now c.in-Some-read_opening.api_token.now c.in_err-read_pairs.field-0.0 c.in-Some.ensures.pieces c.in-Some-read_opening.ensures (c.in_err-read_pairs.ensures (λ e. other (cc))))
