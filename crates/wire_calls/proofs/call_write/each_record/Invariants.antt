use Rattle.std.proofs.Common.{◌≡◌, map, take}
use Rattle.serde_json.specs.View.{view}
use Rattle.ck_records.specs.Writing.{named_data}
use Rattle.wire_calls.proofs.call_write.each_record.Given as goal

abbrev pub invariant-loop-name : goal.invariant-loop-name
invariant-loop-name l = map view l.list.items ≡ map named_data (take l.name-index l.names)
