-- What a put of a share leaves, who stays in it, and the share marks that replies show, at worked examples.
use Rattle.std.proofs.Common.{◌≡◌, ℕ, List, [], ◌∷◌, ◌++◌, Some, None, refl, true, false, Option}
use Rattle.std.specs.Prelude.{codes, decimal, option_map, option_and_then}
use Rattle.std.specs.Fmt.{digits}
use Rattle.ck_base.specs.declared.scope.Scope.TheVariants.{Private, Shared}
use Rattle.share_records.specs.declared.permission.Permission.{Permission}
use Rattle.share_records.specs.declared.permission.Permission.TheVariants.{Nothing, ReadOnly, ReadWrite}
use Rattle.share_records.specs.declared.participant.PartKind.TheVariants.{Public}
use Rattle.share_records.specs.declared.participant.Participant.{Participant}
use Rattle.share_records.specs.declared.participant.Wanted.{Wanted}
use Rattle.share_records.specs.declared.share.Share.{Share as ShareOf}
use Rattle.record_model.specs.declared.draft.Draft.{Draft}
use Rattle.zone_model.specs.declared.operations.OpKind.{OpKind}
use Rattle.zone_model.specs.declared.operations.OpKind.TheVariants.{Update, Replace, ForceReplace}
use Rattle.zone_model.specs.Requests.{NamedOp}
use Rattle.zone_model.specs.declared.commits.Act.TheVariants.{Writes}
use Rattle.zone_model.specs.declared.commits.Write.TheVariants.{Put}
use Rattle.zone_model.specs.declared.commits.Commit.{Commit}
use Rattle.zone_model.specs.Records.{record_at, share_of}
use Rattle.zone_model.specs.Zones.{zone_at}
use Rattle.zone_laws.specs.LawfulTests.{are_lawful}
use Rattle.zone_rows.proofs.RowWords.{op_as, ann, bob, cat, notes, draft, create, update, delete, invited, create_share, set_participants, act, made, asked_by, asks, seen}
use Rattle.zone_rows.proofs.RowRecords.{r, s, row, marked, member, stranger, share_row, marks}

-- ---- a share as it stands

abbrev root : List Commit
root = made ++ act (Writes (Put (row r 1 None) ∷ [])) ∷ []

pub root_is_lawful : are_lawful [] root ≡ true
root_is_lawful = refl

-- everyone may read, bob may write; bob and cat came in
abbrev opened : List Commit
opened = made ++ act (Writes (Put (marked (row r 1 None) s) ∷ Put (share_row s r ReadOnly (member bob ReadWrite true ∷ stranger cat ∷ [])) ∷ [])) ∷ []

pub opened_is_lawful : are_lawful [] opened ≡ true
opened_is_lawful = refl

-- the public permission, and who takes part
abbrev public_at : List Commit → Option Permission
public_at log = option_map (λ (t : ShareOf). t.public) (option_and_then share_of (record_at (zone_at log notes).rows s))

abbrev people_at : List Commit → Option (List Participant)
people_at log = option_map (λ (t : ShareOf). t.participants) (option_and_then share_of (record_at (zone_at log notes).rows s))

-- ---- what is not given stays

-- the log after a put of the share that gives this
abbrev after : OpKind → Draft → List Commit
after kind given = asks opened (op_as kind (record given { tag = Some (decimal 1) }) ∷ [])

abbrev nobody : Draft
nobody = record (draft s) { participants = Some [] }

pub an_update_leaves_the_public_permission : public_at (after Update nobody) ≡ Some ReadOnly
unfolding digits
an_update_leaves_the_public_permission = refl

pub a_replace_leaves_the_public_permission : public_at (after Replace nobody) ≡ Some ReadOnly
unfolding digits
a_replace_leaves_the_public_permission = refl

pub a_forced_replace_leaves_the_public_permission : public_at (after ForceReplace nobody) ≡ Some ReadOnly
unfolding digits
a_forced_replace_leaves_the_public_permission = refl

pub yet_the_list_is_the_new_one : people_at (after Replace nobody) ≡ Some []
unfolding digits
yet_the_list_is_the_new_one = refl

pub a_list_by_update_is_lawful : are_lawful [] (after Update nobody) ≡ true
unfolding digits
a_list_by_update_is_lawful = refl

pub a_list_by_replace_is_lawful : are_lawful [] (after Replace nobody) ≡ true
unfolding digits
a_list_by_replace_is_lawful = refl

pub a_list_by_forced_replace_is_lawful : are_lawful [] (after ForceReplace nobody) ≡ true
unfolding digits
a_list_by_forced_replace_is_lawful = refl

abbrev closed : Draft
closed = record (draft s) { public = Some Nothing }

pub an_update_leaves_the_participants : people_at (after Update closed) ≡ people_at opened
unfolding digits
an_update_leaves_the_participants = refl

pub a_replace_leaves_the_participants : people_at (after Replace closed) ≡ people_at opened
unfolding digits
a_replace_leaves_the_participants = refl

pub closing_by_update_is_lawful : are_lawful [] (after Update closed) ≡ true
unfolding digits
closing_by_update_is_lawful = refl

pub closing_by_replace_is_lawful : are_lawful [] (after Replace closed) ≡ true
unfolding digits
closing_by_replace_is_lawful = refl

pub a_new_share_is_lawful : are_lawful [] (asks root (create_share s r 1 [] ∷ [])) ≡ true
unfolding digits
a_new_share_is_lawful = refl

pub a_new_share_is_closed : public_at (asks root (create_share s r 1 [] ∷ [])) ≡ Some Nothing
unfolding digits
a_new_share_is_closed = refl

-- ---- who stays

-- the log after the owner lists these
abbrev listing : List Wanted → List Commit
listing wanted = asks opened (set_participants s wanted ∷ [])

abbrev as_public : List ℕ → Wanted
as_public u = record { user = u; kind = Public; permission = Nothing }

pub a_member_is_not_kept_as_a_stranger : people_at (listing (as_public bob ∷ as_public cat ∷ [])) ≡ Some (stranger cat ∷ [])
unfolding digits
a_member_is_not_kept_as_a_stranger = refl

pub the_member_is_out : seen (listing (as_public bob ∷ as_public cat ∷ [])) bob Shared ≡ []
unfolding digits
the_member_is_out = refl

pub listing_strangers_is_lawful : are_lawful [] (listing (as_public bob ∷ as_public cat ∷ [])) ≡ true
unfolding digits
listing_strangers_is_lawful = refl

abbrev amy : List ℕ
amy = codes "amy"

-- bob and cat are members, and amy too, who has not come in
abbrev members : List Commit
members = listing (invited cat ReadWrite ∷ invited bob ReadOnly ∷ invited amy ReadOnly ∷ [])

pub members_keep_their_acceptance : people_at members ≡ Some (member amy ReadOnly false ∷ member bob ReadOnly true ∷ member cat ReadWrite true ∷ [])
unfolding digits
members_keep_their_acceptance = refl

pub listing_members_is_lawful : are_lawful [] members ≡ true
unfolding digits
listing_members_is_lawful = refl

-- ---- the share marks that replies show

abbrev marks_shown : List Commit → List NamedOp → List (Option (List ℕ))
marks_shown log ops = marks (asked_by ann Private log true ops).outcomes

pub a_changed_root_shows_its_new_share : marks_shown root (update r 1 ∷ create_share s r 1 [] ∷ []) ≡ Some s ∷ None ∷ []
unfolding digits
a_changed_root_shows_its_new_share = refl

pub a_new_root_shows_its_new_share : marks_shown made (create_share s r 1 [] ∷ create r ∷ []) ≡ None ∷ Some s ∷ []
unfolding digits
a_new_root_shows_its_new_share = refl

pub a_root_shows_the_share_that_it_has : marks_shown opened (update r 1 ∷ []) ≡ Some s ∷ []
unfolding digits
a_root_shows_the_share_that_it_has = refl

pub a_root_shows_no_share_that_goes : marks_shown opened (update r 1 ∷ delete s 1 ∷ []) ≡ None ∷ []
unfolding digits
a_root_shows_no_share_that_goes = refl

pub a_new_root_is_lawful : are_lawful [] (asks made (create_share s r 1 [] ∷ create r ∷ [])) ≡ true
unfolding digits
a_new_root_is_lawful = refl
