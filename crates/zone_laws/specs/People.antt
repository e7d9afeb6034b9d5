-- Who gets into a share and out of it.
use Rattle.std.specs.Prelude.{◌≡◌, ℕ, Bool, true, false, ◌&&◌, List}
use Rattle.std.specs.List.{list_any}
use Rattle.share_records.specs.declared.permission.Permission.{Permission}
use Rattle.share_records.specs.declared.participant.Participant.{Participant}
use Rattle.share_records.specs.declared.participant.Wanted.{Wanted}
use Rattle.share_records.specs.declared.share.Share.{Share as ShareOf}
use Rattle.share_records.specs.Permissions.{permission_in, has_accepted}
use Rattle.share_records.specs.ShareLists.{rewritten, first_share, share_without}
use Rattle.record_model.specs.declared.draft.Draft.{Draft}
use Rattle.zone_model.specs.Names.{same}
use Rattle.zone_model.specs.Sharing.{share_after}

-- the user is listed as one who has accepted
abbrev pub is_let_in : List ℕ → List Participant → Bool
is_let_in u ps = list_any (λ (p : Participant). same u p.user && p.accepted) ps

-- A list that the owner gives lets nobody in who had not accepted, and so no put of a share does; a share as it begins
-- lets nobody in. Whoever leaves a share has no permission in it any more, and all others have what they had.
pub record NobodyIsLetIn : Type 0 where
  pub rewritten : (u : List ℕ) (old : List Participant) (wanted : List Wanted)
      → is_let_in u (rewritten old wanted) ≡ true → is_let_in u old ≡ true
  pub put : (u : List ℕ) (s : ShareOf) (d : Draft) → has_accepted u (share_after s d) ≡ true
      → is_let_in u s.participants ≡ true
  pub first : (u root guid : List ℕ) → has_accepted u (first_share root guid) ≡ false
  pub left : (u : List ℕ) (s : ShareOf) → permission_in (share_without u s) u ≡ Permission.Nothing
  pub others : (u v : List ℕ) (s : ShareOf) → same u v ≡ false → permission_in (share_without u s) v ≡ permission_in s v
