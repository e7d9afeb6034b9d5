-- Where shares may stand, and what may be a root or a parent, at worked examples.
use Rattle.std.proofs.Common.{◌≡◌, List, [], ◌∷◌, ◌++◌, Some, None, refl, true}
use Rattle.std.specs.Prelude.{codes}
use Rattle.std.specs.Fmt.{digits}
use Rattle.ck_base.specs.KnownNames.{own_default}
use Rattle.ck_base.specs.declared.scope.Scope.TheVariants.{Private, Shared}
use Rattle.share_records.specs.declared.permission.Permission.TheVariants.{Nothing, ReadWrite}
use Rattle.record_model.specs.declared.draft.ParentWish.TheVariants.{To}
use Rattle.zone_model.specs.Requests.{NamedOp}
use Rattle.zone_model.specs.declared.outcomes.OpFault.TheVariants.{BadRequest, AccessDenied, Validating, Atomic}
use Rattle.zone_model.specs.declared.commits.Act.TheVariants.{Writes}
use Rattle.zone_model.specs.declared.commits.Write.{Write}
use Rattle.zone_model.specs.declared.commits.Write.TheVariants.{Put}
use Rattle.zone_model.specs.declared.commits.Commit.{Commit}
use Rattle.zone_model.specs.Modifying.{modified}
use Rattle.zone_laws.specs.LawfulTests.{are_lawful}
use Rattle.zone_rows.proofs.RowWords.{ann, bob, op_of, share_draft, create_under, update, delete, create_share, act, act_at, made, asked_by, told_ann, Told, told, put, gone, refused}
use Rattle.zone_rows.proofs.RowRecords.{a, k, m, r, s, x, row, marked, member, share_row, marks}

-- r has the share s, by which bob may write
abbrev sharing : List Write
sharing = Put (marked (row r 1 None) s) ∷ Put (share_row s r Nothing (member bob ReadWrite true ∷ [])) ∷ []

-- a stands alone, and x below r
abbrev log : List Commit
log = made ++ act (Writes (Put (row a 1 None) ∷ sharing ++ Put (row x 1 (Some r)) ∷ [])) ∷ []

pub log_is_lawful : are_lawful [] log ≡ true
log_is_lawful = refl

abbrev told_bob : List NamedOp → List Told
told_bob ops = told (asked_by bob Shared log true ops)

-- ---- roots

pub a_share_is_made : told_ann log (create_share k a 1 [] ∷ []) ≡ put k 1 ∷ []
unfolding digits
a_share_is_made = refl

pub a_root_is_missing : told_ann log (create_share k m 1 [] ∷ []) ≡ refused Validating ∷ []
unfolding digits
a_root_is_missing = refl

pub a_share_is_no_root : told_ann log (create_share k s 1 [] ∷ []) ≡ refused Validating ∷ []
unfolding digits
a_share_is_no_root = refl

pub a_new_share_is_no_root : told_ann log (create_share k m 1 [] ∷ create_share m a 1 [] ∷ []) ≡ refused Validating ∷ refused Atomic ∷ []
unfolding digits
a_new_share_is_no_root = refl

pub only_owners_share : told_bob (create_share k x 1 [] ∷ []) ≡ refused AccessDenied ∷ []
unfolding digits
only_owners_share = refl

-- ---- parents

pub a_share_has_no_parent : told_ann log (op_of (record (share_draft k a (Some (codes "1")) []) { parent = To r }) ∷ []) ≡ refused BadRequest ∷ []
unfolding digits
a_share_has_no_parent = refl

pub a_share_is_no_parent : told_ann log (create_under k s ∷ []) ≡ refused Validating ∷ []
unfolding digits
a_share_is_no_parent = refl

-- a child that comes with the request holds its parent back
pub a_new_child_holds_back : told_ann log (create_under k a ∷ delete a 1 ∷ []) ≡ refused Atomic ∷ refused Validating ∷ []
unfolding digits
a_new_child_holds_back = refl

-- a new record is written as its parent is, which is new too
pub a_writer_may_have_a_new_parent : told_bob (create_under k m ∷ create_under m x ∷ []) ≡ put k 1 ∷ put m 1 ∷ []
unfolding digits
a_writer_may_have_a_new_parent = refl

-- ---- a default zone that a store left with a share

abbrev home : List Commit
home = act_at (own_default ann) (Writes sharing) ∷ []

pub home_is_lawful : are_lawful [] home ≡ true
home_is_lawful = refl

abbrev told_home : List NamedOp → List Told
told_home ops = told (modified (record { user = ann; scope = Private; key = own_default ann }) 1000 home true ops)

pub a_share_is_not_put_at_home : told_home (update s 1 ∷ []) ≡ refused BadRequest ∷ []
unfolding digits
a_share_is_not_put_at_home = refl

pub a_share_is_deleted_at_home : told_home (delete s 1 ∷ update r 2 ∷ []) ≡ gone s ∷ put r 3 ∷ []
unfolding digits
a_share_is_deleted_at_home = refl

-- ---- what a reply shows of a share that a participant leaves

pub a_root_keeps_a_share_that_is_left : marks (asked_by bob Shared log true (update r 1 ∷ delete s 1 ∷ [])).outcomes ≡ Some s ∷ []
unfolding digits
a_root_keeps_a_share_that_is_left = refl
