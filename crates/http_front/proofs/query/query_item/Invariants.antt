use Rattle.std.proofs.Common.{◌≡◌, length}
use Rattle.form_urlencoded.specs.Parse.{pairs_left}
use Rattle.http_front.specs.Queries.{first_value, item_of}
use Rattle.http_front.proofs.query.query_item.Given as goal

abbrev pub invariant-loop-pair : goal.invariant-loop-pair
invariant-loop-pair l = item_of l.name l.target ≡ first_value l.name (pairs_left l.pairs)

abbrev pub decreases-loop-pair : goal.decreases-loop-pair
decreases-loop-pair l = length (pairs_left l.pairs)
