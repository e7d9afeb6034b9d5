use Rattle.std.proofs.Common.{◌≡◌, ◌+◌, ◌≤◌, [], length}
use Rattle.http_front.specs.Users.{lines_of, users_of}
use Rattle.http_front.proofs.users.read_pairs.Given as goal

abbrev pub invariant-loop-line : goal.invariant-loop-line
invariant-loop-line l = (users_of 2 [] (lines_of l.fn.text) ≡ users_of l.number l.users (lines_of l.rest)) × (l.number + length l.rest ≤ length l.fn.text + 2)

abbrev pub decreases-loop-line : goal.decreases-loop-line
decreases-loop-line l = length l.rest
