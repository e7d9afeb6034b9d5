-- The form of shares and of records that are none, at worked examples.
use Rattle.std.proofs.Common.{◌≡◌, ℕ, List, [], ◌∷◌, ◌++◌, Some, None, refl, true, length, Option, map}
use Rattle.std.specs.Prelude.{codes, decimal, option_map, option_and_then}
use Rattle.std.specs.List.{flat_map}
use Rattle.std.specs.Fmt.{digits}
use Rattle.share_records.specs.declared.permission.Permission.TheVariants.{ReadOnly, ReadWrite}
use Rattle.share_records.specs.declared.participant.Wanted.{Wanted}
use Rattle.share_records.specs.declared.share.Share.{Share as ShareOf}
use Rattle.record_model.specs.declared.draft.Draft.{Draft}
use Rattle.zone_model.specs.declared.operations.OpKind.TheVariants.{Update}
use Rattle.zone_model.specs.Requests.{NamedOp}
use Rattle.zone_model.specs.declared.outcomes.OpFault.TheVariants.{BadRequest}
use Rattle.zone_model.specs.declared.commits.Commit.{Commit}
use Rattle.zone_model.specs.Records.{record_at, share_of}
use Rattle.zone_model.specs.Zones.{zone_at}
use Rattle.zone_laws.specs.LawfulTests.{are_lawful}
use Rattle.zone_rows.proofs.RowWords.{op_as, bob, cat, notes, draft, typed, op_of, create, create_share, set_participants, invited, made, asks, told_ann, put, refused}
use Rattle.zone_rows.proofs.RowRecords.{a, r, s}

-- ---- who is listed

abbrev root : List Commit
root = asks made (create r ∷ [])

pub root_is_lawful : are_lawful [] root ≡ true
unfolding digits
root_is_lawful = refl

abbrev shared : List Commit
shared = asks root (create_share s r 1 (invited bob ReadOnly ∷ []) ∷ [])

pub shared_is_lawful : are_lawful [] shared ≡ true
unfolding digits
shared_is_lawful = refl

abbrev bob_twice : List Wanted
bob_twice = invited bob ReadOnly ∷ invited cat ReadOnly ∷ invited bob ReadWrite ∷ []

pub nobody_is_listed_twice : told_ann root (create_share s r 1 bob_twice ∷ []) ≡ refused BadRequest ∷ []
unfolding digits
nobody_is_listed_twice = refl

pub nobody_is_listed_twice_later : told_ann shared (set_participants s bob_twice ∷ []) ≡ refused BadRequest ∷ []
unfolding digits
nobody_is_listed_twice_later = refl

-- ---- how many are listed

abbrev ten : List ℕ
ten = codes "0123456789"

-- the users 00 to 99
abbrev hundred : List Wanted
hundred = flat_map (λ t. map (λ n. invited (t ∷ n ∷ []) ReadOnly) ten) ten

pub they_are_a_hundred : length hundred ≡ 100
they_are_a_hundred = refl

-- how many take part in the share
abbrev count_at : List Commit → List ℕ → Option ℕ
count_at log name = option_map (λ (t : ShareOf). length t.participants) (option_and_then share_of (record_at (zone_at log notes).rows name))

pub a_hundred_may_be_listed : told_ann root (create_share s r 1 hundred ∷ []) ≡ put s 1 ∷ []
unfolding digits
a_hundred_may_be_listed = refl

pub a_hundred_take_part : count_at (asks root (create_share s r 1 hundred ∷ [])) s ≡ Some 100
unfolding digits
a_hundred_take_part = refl

pub a_hundred_are_lawful : are_lawful [] (asks root (create_share s r 1 hundred ∷ [])) ≡ true
unfolding digits
a_hundred_are_lawful = refl

pub one_more_may_not_be_listed : told_ann root (create_share s r 1 (hundred ++ invited bob ReadOnly ∷ []) ∷ []) ≡ refused BadRequest ∷ []
unfolding digits
one_more_may_not_be_listed = refl

-- ---- records that are no shares

abbrev one : List Commit
one = asks made (create a ∷ [])

pub one_is_lawful : are_lawful [] one ≡ true
unfolding digits
one_is_lawful = refl

abbrev update_by : Draft → NamedOp
update_by given = op_as Update (record given { tag = Some (decimal 1) })

pub a_new_record_has_no_participants : told_ann made (op_of (record (typed a) { participants = Some [] }) ∷ []) ≡ refused BadRequest ∷ []
unfolding digits
a_new_record_has_no_participants = refl

pub a_record_gets_no_participants : told_ann one (update_by (record (draft a) { participants = Some (invited bob ReadOnly ∷ []) }) ∷ []) ≡ refused BadRequest ∷ []
unfolding digits
a_record_gets_no_participants = refl

pub a_new_record_has_no_root : told_ann root (op_of (record (typed a) { for_root = Some (record { name = r; tag = Some (decimal 1) }) }) ∷ []) ≡ refused BadRequest ∷ []
unfolding digits
a_new_record_has_no_root = refl

pub a_record_gets_no_root : told_ann one (update_by (record (draft a) { for_root = Some (record { name = a; tag = Some (decimal 1) }) }) ∷ []) ≡ refused BadRequest ∷ []
unfolding digits
a_record_gets_no_root = refl

pub a_record_gets_no_public_permission : told_ann one (update_by (record (draft a) { public = Some ReadOnly }) ∷ []) ≡ refused BadRequest ∷ []
unfolding digits
a_record_gets_no_public_permission = refl

-- on a share that is there the root is ignored
pub a_share_may_resend_another_root : told_ann shared (update_by (record (draft s) { for_root = Some (record { name = a; tag = None }) }) ∷ []) ≡ put s 2 ∷ []
unfolding digits
a_share_may_resend_another_root = refl

pub a_resent_root_is_lawful : are_lawful [] (asks shared (update_by (record (draft s) { for_root = Some (record { name = a; tag = None }) }) ∷ [])) ≡ true
unfolding digits
a_resent_root_is_lawful = refl
