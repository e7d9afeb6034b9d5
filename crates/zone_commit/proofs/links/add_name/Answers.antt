use Rattle.std.proofs.Common.{◌≡◌, ap, ◌∙◌, rules}
use Rattle.std.specs.BTreeSet.{insert_key}
use Rattle.zone_commit.proofs.OrderLemmas.{derived_cmp}
use Rattle.zone_commit.proofs.EntryLemmas.{keys-insert}
use Rattle.zone_commit.proofs.links.add_name.Goals as goal

pub returns : goal.returns
returns c =
    let named : c.in_ok-clone.field-0 ≡ c.args.name.now = search rules in
    c.in_ok-insert.ensures.keys ∙ ap (insert_key derived_cmp c.args.names.now.keys) named ∙ keys-insert c.args.names.now.keys c.args.name.now c.len-count.ensures.ordered
