use Rattle.std.proofs.Common.{take}
use Rattle.std.specs.List.{list_any}
use Rattle.zone_commit.specs.Maps.{Relinked, field_takes_along}
use Rattle.zone_commit.proofs.links.set_fields.Given as goal

abbrev pub invariant-loop-field : goal.invariant-loop-field
invariant-loop-field l = Relinked (λ x. list_any (field_takes_along x) (take l.field-index l.fields)) l.there l.name l.fn.links l.links
