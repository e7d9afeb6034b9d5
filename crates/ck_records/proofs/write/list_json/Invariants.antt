use Rattle.std.proofs.Common.{◌≡◌, ◌∷◌, map, take}
use Rattle.serde_json.specs.View.{view}
use Rattle.ck_records.specs.Writing.{participant_data}
use Rattle.ck_records.proofs.write.list_json.Given as goal

abbrev pub invariant-loop-participant : goal.invariant-loop-participant
invariant-loop-participant l = map view l.list.items ≡ view l.fn.first ∷ map (participant_data l.public) (take l.participant-index l.participants)
