-- Participants in the order of their users, and their places.
use Rattle.std.specs.Prelude.{◌≡◌, ℕ, suc, Bool, true, false, not, List, [], ◌∷◌, map, Option, if◌then◌else◌}
use Rattle.std.specs.Option.{option_map_or}
use Rattle.ck_base.specs.Order.{is_before, are_ascending}
use Rattle.name_rules.specs.Names.{same}
use Rattle.share_records.specs.declared.participant.Participant.{Participant}
use Rattle.share_records.specs.declared.participant.Wanted.{Wanted}
use Rattle.share_records.specs.ShareLists.{participant_at, kept_as, with_participant}

-- their users ascend
abbrev pub AreUsersInOrder : List Participant → Type 0
AreUsersInOrder ps = are_ascending (map (λ (p : Participant). p.user) ps) ≡ true

-- the place of the first whose user does not stand before this one
abbrev pub place_of : List ℕ → List Participant → ℕ
place_of u [] = 0
place_of u (p ∷ ps) = if is_before p.user u then suc (place_of u ps) else 0

-- the first is of this user
abbrev pub is_at : List ℕ → List Participant → Bool
is_at u [] = false
is_at u (p ∷ ps) = same p.user u

-- what becomes of each that is wanted
abbrev pub kept_of : List Participant → Wanted → Option Participant
kept_of old w = kept_as w.kind w (participant_at old w.user)

abbrev pub with_kept : List Participant → Option Participant → List Participant
with_kept ps kept = option_map_or (with_participant ps) kept ps

-- not of this user
abbrev pub is_other : List ℕ → Participant → Bool
is_other u p = not (same u p.user)
