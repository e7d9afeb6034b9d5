-- Requests whose operations have one name, which only names from words may have, at worked examples.
use Rattle.std.proofs.Common.{◌≡◌, List, [], ◌∷◌, refl, true, false}
use Rattle.std.specs.Fmt.{digits}
use Rattle.ck_base.specs.declared.scope.Scope.TheVariants.{Private}
use Rattle.zone_model.specs.declared.operations.OpKind.TheVariants.{ForceUpdate}
use Rattle.zone_model.specs.Requests.{NamedOp}
use Rattle.zone_model.specs.declared.outcomes.OpFault.TheVariants.{Exists, NotFound, Atomic}
use Rattle.zone_model.specs.declared.commits.Commit.{Commit}
use Rattle.zone_laws.specs.LawfulTests.{are_lawful}
use Rattle.zone_rows.proofs.RowWords.{op_as, ann, typed, create, update, delete, force_delete, made, asked_by, asks, told_ann, told, put, gone, refused}
use Rattle.zone_rows.proofs.RowRecords.{a, b}

pub a_name_is_put_once : told_ann made (create a ∷ create b ∷ create a ∷ []) ≡ refused Atomic ∷ refused Atomic ∷ refused Exists ∷ []
unfolding digits
a_name_is_put_once = refl

abbrev force_update : NamedOp
force_update = op_as ForceUpdate (typed a)

pub a_forced_put_is_one_too : told_ann made (create a ∷ force_update ∷ []) ≡ refused Atomic ∷ refused Exists ∷ []
unfolding digits
a_forced_put_is_one_too = refl

abbrev one : List Commit
one = asks made (create a ∷ [])

pub one_is_lawful : are_lawful [] one ≡ true
unfolding digits
one_is_lawful = refl

-- the name is taken, though the record could be changed
pub a_taken_name_before_a_conflict : told_ann one (update a 1 ∷ update a 7 ∷ []) ≡ refused Atomic ∷ refused Exists ∷ []
unfolding digits
a_taken_name_before_a_conflict = refl

-- a put that is refused comes earlier all the same
pub a_refused_put_comes_earlier : told_ann made (update a 1 ∷ create a ∷ []) ≡ refused NotFound ∷ refused Exists ∷ []
unfolding digits
a_refused_put_comes_earlier = refl

-- a deletion is no put
pub a_deletion_takes_no_name : told_ann made (force_delete a ∷ create a ∷ []) ≡ gone a ∷ put a 1 ∷ []
unfolding digits
a_deletion_takes_no_name = refl

pub it_is_made_lawfully : are_lawful [] (asks made (force_delete a ∷ create a ∷ [])) ≡ true
unfolding digits
it_is_made_lawfully = refl

-- one after another, no put comes earlier
pub apart_a_name_is_put_again : told (asked_by ann Private made false (create a ∷ force_update ∷ [])) ≡ put a 1 ∷ put a 2 ∷ []
unfolding digits
apart_a_name_is_put_again = refl

pub apart_it_goes_between : told (asked_by ann Private made false (create a ∷ delete a 1 ∷ create a ∷ [])) ≡ put a 1 ∷ gone a ∷ put a 2 ∷ []
unfolding digits
apart_it_goes_between = refl
