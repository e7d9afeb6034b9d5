use Rattle.zone_laws.proofs.SameLaws.{record-true, record-refl, view-true, view-refl}
use Rattle.zone_laws.proofs.laws.alike_is_same.Goals as goal

pub returns : goal.returns
returns c = record { same = record-true; itself = record-refl; same_views = view-true; view_itself = view-refl }
