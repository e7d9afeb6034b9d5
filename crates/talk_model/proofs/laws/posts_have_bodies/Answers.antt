use Rattle.talk_model.proofs.MethodLemmas.{posts_have_bodies}
use Rattle.talk_model.proofs.laws.posts_have_bodies.Goals as goal

pub returns : goal.returns
returns c = posts_have_bodies
