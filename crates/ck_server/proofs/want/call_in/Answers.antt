use Rattle.ck_server.proofs.WantLemmas.{told_by_json}
use Rattle.ck_server.proofs.want.call_in.Goals as goal

pub returns-clause-call : goal.returns-clause-call
returns-clause-call c = told_by_json c.args.sender.now.route c.args.sender.now.user c.args.body.now c.read_call.result c.read_call.ensures.call c.read_call.ensures.none
