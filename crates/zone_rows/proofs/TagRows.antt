-- An absent tag is as stale as another one, at worked examples.
use Rattle.std.proofs.Common.{◌≡◌, List, [], ◌∷◌, None, refl, true}
use Rattle.std.specs.Fmt.{digits}
use Rattle.zone_model.specs.declared.operations.OpKind.{OpKind}
use Rattle.zone_model.specs.declared.operations.OpKind.TheVariants.{Update, ForceUpdate, Replace, ForceReplace, Delete, ForceDelete}
use Rattle.zone_model.specs.Requests.{NamedOp}
use Rattle.zone_model.specs.declared.outcomes.OpFault.TheVariants.{Conflict}
use Rattle.zone_model.specs.declared.commits.Commit.{Commit}
use Rattle.zone_laws.specs.LawfulTests.{are_lawful}
use Rattle.zone_rows.proofs.RowWords.{op_as, draft, op_of, share_draft, create, made, asks, told_ann, put, gone, shown}
use Rattle.zone_rows.proofs.RowRecords.{a, r, s}

-- an operation on a that gives no tag
abbrev untagged : OpKind → List NamedOp
untagged kind = op_as kind (draft a) ∷ []

abbrev one : List Commit
one = asks made (create a ∷ [])

pub one_is_lawful : are_lawful [] one ≡ true
unfolding digits
one_is_lawful = refl

pub an_update_wants_a_tag : told_ann one (untagged Update) ≡ shown Conflict a 1 ∷ []
unfolding digits
an_update_wants_a_tag = refl

pub a_replace_wants_a_tag : told_ann one (untagged Replace) ≡ shown Conflict a 1 ∷ []
unfolding digits
a_replace_wants_a_tag = refl

pub a_delete_wants_a_tag : told_ann one (untagged Delete) ≡ shown Conflict a 1 ∷ []
unfolding digits
a_delete_wants_a_tag = refl

pub a_forced_update_wants_none : told_ann one (untagged ForceUpdate) ≡ put a 2 ∷ []
unfolding digits
a_forced_update_wants_none = refl

pub a_forced_replace_wants_none : told_ann one (untagged ForceReplace) ≡ put a 2 ∷ []
unfolding digits
a_forced_replace_wants_none = refl

pub a_forced_delete_wants_none : told_ann one (untagged ForceDelete) ≡ gone a ∷ []
unfolding digits
a_forced_delete_wants_none = refl

pub forced_updates_are_lawful : are_lawful [] (asks one (untagged ForceUpdate)) ≡ true
unfolding digits
forced_updates_are_lawful = refl

pub forced_replaces_are_lawful : are_lawful [] (asks one (untagged ForceReplace)) ≡ true
unfolding digits
forced_replaces_are_lawful = refl

-- ---- the tag of a root

-- a share of r that gives no tag of it
abbrev untagged_share : NamedOp
untagged_share = op_of (share_draft s r None [])

abbrev root : List Commit
root = asks made (create r ∷ [])

pub root_is_lawful : are_lawful [] root ≡ true
unfolding digits
root_is_lawful = refl

pub a_root_that_is_there_wants_a_tag : told_ann root (untagged_share ∷ []) ≡ shown Conflict r 1 ∷ []
unfolding digits
a_root_that_is_there_wants_a_tag = refl

pub a_root_that_comes_with_it_wants_none : told_ann made (untagged_share ∷ create r ∷ []) ≡ put s 1 ∷ put r 1 ∷ []
unfolding digits
a_root_that_comes_with_it_wants_none = refl
