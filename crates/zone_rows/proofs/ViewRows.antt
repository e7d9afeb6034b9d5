-- Who sees what of a zone, at worked examples.
use Rattle.std.proofs.Common.{◌≡◌, List, [], ◌∷◌, ◌++◌, Some, None, refl, true, false}
use Rattle.ck_base.specs.KnownNames.{own_default}
use Rattle.ck_base.specs.declared.scope.Scope.TheVariants.{Private, Shared}
use Rattle.share_records.specs.declared.permission.Permission.{Permission}
use Rattle.share_records.specs.declared.permission.Permission.TheVariants.{Nothing, ReadOnly}
use Rattle.share_records.specs.declared.participant.Participant.{Participant}
use Rattle.zone_model.specs.declared.commits.Act.TheVariants.{Writes}
use Rattle.zone_model.specs.declared.commits.Write.TheVariants.{Put}
use Rattle.zone_model.specs.declared.commits.Commit.{Commit}
use Rattle.zone_model.specs.Views.{view_of, nowhere}
use Rattle.zone_laws.specs.LawfulTests.{are_lawful}
use Rattle.zone_rows.proofs.RowWords.{ann, bob, cat, notes, act, act_at, made, seen}
use Rattle.zone_rows.proofs.RowRecords.{a, k, r, s, x, row, marked, member, stranger, share_row}

-- k stands below r, which has the share s, and x below k; a stands alone
abbrev shared_by : Permission → List Participant → List Commit
shared_by public people = made ++ act (Writes (Put (row a 1 None) ∷ Put (row k 1 (Some r)) ∷ Put (marked (row r 1 None) s) ∷ Put (share_row s r public people) ∷ Put (row x 1 (Some k)) ∷ [])) ∷ []

abbrev reading : List Commit
reading = shared_by Nothing (member bob ReadOnly true ∷ [])

pub reading_is_lawful : are_lawful [] reading ≡ true
reading_is_lawful = refl

pub a_root_covers_all_below : seen reading bob Shared ≡ (k, 1) ∷ (r, 1) ∷ (s, 1) ∷ (x, 1) ∷ []
a_root_covers_all_below = refl

pub an_owner_sees_all : seen reading ann Private ≡ (a, 1) ∷ (k, 1) ∷ (r, 1) ∷ (s, 1) ∷ (x, 1) ∷ []
an_owner_sees_all = refl

pub a_participant_sees_nothing_as_private : view_of reading bob Private notes ≡ nowhere
a_participant_sees_nothing_as_private = refl

pub others_see_nothing : view_of reading cat Shared notes ≡ nowhere
others_see_nothing = refl

-- ---- acceptance and the public permission

pub nobody_sees_before_accepting : view_of (shared_by ReadOnly (member bob ReadOnly false ∷ [])) bob Shared notes ≡ nowhere
nobody_sees_before_accepting = refl

abbrev open_to : Permission → List Commit
open_to public = shared_by public (stranger bob ∷ [])

pub open_is_lawful : are_lawful [] (open_to ReadOnly) ≡ true
open_is_lawful = refl

pub strangers_see_what_everyone_may : seen (open_to ReadOnly) bob Shared ≡ (k, 1) ∷ (r, 1) ∷ (s, 1) ∷ (x, 1) ∷ []
strangers_see_what_everyone_may = refl

pub strangers_see_nothing_of_a_closed_share : view_of (open_to Nothing) bob Shared notes ≡ nowhere
strangers_see_nothing_of_a_closed_share = refl

-- members have their own permission, whatever everyone may
pub members_see_all_the_same : seen (shared_by Nothing (member bob ReadOnly true ∷ [])) bob Shared ≡ seen (shared_by ReadOnly (member bob ReadOnly true ∷ [])) bob Shared
members_see_all_the_same = refl

-- ---- zones that are not in the shared scope, though a store may hold such shares

pub own_zones_are_not_shared : view_of (shared_by Nothing (member ann ReadOnly true ∷ [])) ann Shared notes ≡ nowhere
own_zones_are_not_shared = refl

pub such_a_list_is_lawful : are_lawful [] (shared_by Nothing (member ann ReadOnly true ∷ [])) ≡ true
such_a_list_is_lawful = refl

abbrev home : List Commit
home = act_at (own_default ann) (Writes (Put (marked (row r 1 None) s) ∷ Put (share_row s r Nothing (member bob ReadOnly true ∷ [])) ∷ [])) ∷ []

pub home_is_lawful : are_lawful [] home ≡ true
home_is_lawful = refl

pub default_zones_are_not_shared : view_of home bob Shared (own_default ann) ≡ nowhere
default_zones_are_not_shared = refl
