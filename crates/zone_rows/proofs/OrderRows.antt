-- Which check of a deletion comes first, and which fault a missing parent is, at worked examples.
use Rattle.std.proofs.Common.{◌≡◌, List, [], ◌∷◌, refl, true}
use Rattle.std.specs.Fmt.{digits}
use Rattle.ck_base.specs.declared.scope.Scope.TheVariants.{Shared}
use Rattle.share_records.specs.declared.permission.Permission.{Permission}
use Rattle.share_records.specs.declared.permission.Permission.TheVariants.{ReadOnly, ReadWrite}
use Rattle.zone_model.specs.Requests.{NamedOp}
use Rattle.zone_model.specs.declared.outcomes.OpFault.TheVariants.{NotFound, Conflict, AccessDenied, Validating, Atomic}
use Rattle.zone_model.specs.declared.commits.Commit.{Commit}
use Rattle.zone_laws.specs.LawfulTests.{are_lawful}
use Rattle.zone_rows.proofs.RowWords.{bob, create, create_under, delete, force_delete, invited, create_share, made, asked_by, asks, asks_shared, accepts, told, Told, put, gone, refused, shown}
use Rattle.zone_rows.proofs.RowRecords.{a, k, m, r, s, x}

-- r is shared with bob, and has a child x; a is hidden from bob
abbrev sharing : Permission → List Commit
sharing permission = accepts (asks (asks made (create a ∷ create r ∷ create_under x r ∷ [])) (create_share s r 1 (invited bob permission ∷ []) ∷ [])) bob s

abbrev reading : List Commit
reading = sharing ReadOnly

abbrev writing : List Commit
writing = sharing ReadWrite

pub reading_is_lawful : are_lawful [] reading ≡ true
unfolding digits
reading_is_lawful = refl

pub writing_is_lawful : are_lawful [] writing ≡ true
unfolding digits
writing_is_lawful = refl

-- what bob is told in the shared scope
abbrev told_bob : List Commit → List NamedOp → List Told
told_bob log ops = told (asked_by bob Shared log true ops)

pub a_missing_record_before_its_tag : told_bob reading (delete a 7 ∷ []) ≡ refused NotFound ∷ []
unfolding digits
a_missing_record_before_its_tag = refl

pub a_conflict_before_the_permission : told_bob reading (delete x 7 ∷ []) ≡ shown Conflict x 1 ∷ []
unfolding digits
a_conflict_before_the_permission = refl

pub a_reader_deletes_nothing : told_bob reading (delete x 1 ∷ []) ≡ refused AccessDenied ∷ []
unfolding digits
a_reader_deletes_nothing = refl

pub the_permission_before_what_holds_back : told_bob reading (delete r 2 ∷ []) ≡ refused AccessDenied ∷ []
unfolding digits
the_permission_before_what_holds_back = refl

-- a share goes by its root's owner alone, though nothing would hold the root back
pub a_shared_root_is_not_deleted : told_bob writing (delete x 1 ∷ delete r 2 ∷ []) ≡ refused Atomic ∷ refused AccessDenied ∷ []
unfolding digits
a_shared_root_is_not_deleted = refl

pub a_writer_deletes_what_has_no_share : told_bob writing (delete x 1 ∷ []) ≡ gone x ∷ []
unfolding digits
a_writer_deletes_what_has_no_share = refl

pub a_deletion_of_bobs_is_lawful : are_lawful [] (asks_shared writing bob (delete x 1 ∷ [])) ≡ true
unfolding digits
a_deletion_of_bobs_is_lawful = refl

-- below r, what bob made himself is held back by its child
pub a_child_holds_back_from_a_writer : told_bob (asks_shared writing bob (create_under k x ∷ [])) (force_delete x ∷ []) ≡ refused Validating ∷ []
unfolding digits
a_child_holds_back_from_a_writer = refl

pub a_child_of_bobs_is_lawful : are_lawful [] (asks_shared writing bob (create_under k x ∷ [])) ≡ true
unfolding digits
a_child_of_bobs_is_lawful = refl

-- ---- parents that are missing

pub a_missing_parent_is_not_denied : told_bob writing (create_under k m ∷ []) ≡ refused Validating ∷ []
unfolding digits
a_missing_parent_is_not_denied = refl

-- a hidden record is as if it was not there
pub a_hidden_parent_is_not_denied : told_bob writing (create_under k a ∷ []) ≡ refused Validating ∷ []
unfolding digits
a_hidden_parent_is_not_denied = refl

pub a_reader_is_denied_a_parent : told_bob reading (create_under k x ∷ []) ≡ refused AccessDenied ∷ []
unfolding digits
a_reader_is_denied_a_parent = refl

pub a_writer_may_have_a_parent : told_bob writing (create_under k x ∷ []) ≡ put k 1 ∷ []
unfolding digits
a_writer_may_have_a_parent = refl
