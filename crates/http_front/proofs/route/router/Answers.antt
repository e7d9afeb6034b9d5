use Rattle.matchit.proofs.OnLiterals.{matchit_on_literals}
use Rattle.http_front.proofs.route.router.Goals as goal

pub returns-in-Ok : goal.returns-in-Ok
unfolding matchit_on_literals
returns-in-Ok c = rw c.new-router.ensures at c.in-Ok.ensures.1
