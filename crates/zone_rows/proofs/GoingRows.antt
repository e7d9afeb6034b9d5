-- What replies show of puts that go in the same request, at worked examples.
use Rattle.std.proofs.Common.{◌≡◌, List, [], ◌∷◌, ◌++◌, Some, None, refl, true}
use Rattle.std.specs.Prelude.{codes}
use Rattle.std.specs.Fmt.{digits}
use Rattle.ck_base.specs.declared.scope.Scope.TheVariants.{Private}
use Rattle.record_model.specs.declared.value.Action.TheVariants.{DeleteSelf}
use Rattle.record_model.specs.declared.value.Value.TheVariants.{Reference}
use Rattle.zone_model.specs.Requests.{NamedOp}
use Rattle.zone_model.specs.declared.commits.Act.TheVariants.{Writes}
use Rattle.zone_model.specs.declared.commits.Write.TheVariants.{Put}
use Rattle.zone_model.specs.declared.commits.Commit.{Commit}
use Rattle.zone_laws.specs.LawfulTests.{are_lawful}
use Rattle.zone_rows.proofs.ReferenceRows.{to, references_to, size_to}
use Rattle.zone_rows.proofs.RowWords.{ann, op_of, share_draft, update, delete, act, made, asked_by, told, put, gone}
use Rattle.zone_rows.proofs.RowRecords.{d, r, s, row, marks}

abbrev log : List Commit
log = made ++ act (Writes (Put (row d 1 None) ∷ Put (row r 1 None) ∷ [])) ∷ []

pub log_is_lawful : are_lawful [] log ≡ true
log_is_lawful = refl

-- a share of r, which is to be deleted with d, and so is made and goes at once
abbrev passing : List NamedOp
passing = update r 1 ∷ op_of (record (share_draft s r (Some (codes "1")) []) { fields = (codes "f", Some (Reference (to DeleteSelf d))) ∷ [] }) ∷ delete d 1 ∷ []

pub all_are_done : told (asked_by ann Private log true passing) ≡ put r 2 ∷ put s 1 ∷ gone d ∷ []
unfolding digits
all_are_done = rw (references_to (to DeleteSelf d), size_to (to DeleteSelf d)) refl

pub a_root_shows_the_share_that_goes_at_once : marks (asked_by ann Private log true passing).outcomes ≡ Some s ∷ None ∷ []
unfolding digits
a_root_shows_the_share_that_goes_at_once = rw (references_to (to DeleteSelf d), size_to (to DeleteSelf d)) refl
