use Rattle.std.proofs.Common.{◌≡◌, take}
use Rattle.std.specs.List.{filter}
use Rattle.record_model.specs.Cutting.{is_among}
use Rattle.record_model.proofs.cutting.cut_fields.Given as goal

abbrev pub invariant-loop-field : goal.invariant-loop-field
invariant-loop-field l = l.kept.items ≡ filter (is_among l.names) (take l.field-index l.fields)
