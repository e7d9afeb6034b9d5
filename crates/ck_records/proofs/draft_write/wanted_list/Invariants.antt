use Rattle.std.proofs.Common.{◌≡◌, map, take}
use Rattle.serde_json.specs.View.{view}
use Rattle.ck_records.specs.DraftWriting.{wanted_data}
use Rattle.ck_records.proofs.draft_write.wanted_list.Given as goal

abbrev pub invariant-loop-wanted : goal.invariant-loop-wanted
invariant-loop-wanted l = map view l.items.items ≡ map wanted_data (take l.wanted-index l.list)
