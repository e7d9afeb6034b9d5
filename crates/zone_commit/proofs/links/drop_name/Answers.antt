use Rattle.std.proofs.Common.{◌∙◌}
use Rattle.zone_commit.proofs.EntryLemmas.{keys-remove}
use Rattle.zone_commit.proofs.links.drop_name.Goals as goal

pub returns-then-len-gt0 : goal.returns-then-len-gt0
returns-then-len-gt0 c = c.remove-found.ensures.keys ∙ keys-remove c.args.names.now.keys c.args.name.now c.len.ensures.ordered
