use Rattle.std.proofs.Common.{◌≡◌, ◌++◌, map, drop}
use Rattle.serde_json.specs.View.{view}
use Rattle.ck_records.specs.Shown.{with_statuses}
use Rattle.ck_records.proofs.shown_share.with_statuses.Given as goal

abbrev pub invariant-loop-wanted : goal.invariant-loop-wanted
invariant-loop-wanted l = with_statuses l.list (map view l.entries) ≡ l.participants.items ++ with_statuses (drop l.wanted-index l.list) (map view l.rest)
