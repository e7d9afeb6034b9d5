-- The participants of a share: what a list that its owner gives makes of them, and which list is refused.
use Rattle.std.specs.Prelude.{ℕ, Bool, not, nat_lt, List, [], ◌∷◌, ◌++◌, map, filter, filter_map, fold, find, length, if◌then◌else◌, Option, None, Some, is_some}
use Rattle.std.specs.Option.{option_map_or}
use Rattle.ck_base.specs.Order.{is_before}
use Rattle.name_rules.specs.Options.{is_some_and}
use Rattle.name_rules.specs.Names.{same, is_in, first_again}
use Rattle.share_records.specs.declared.permission.Permission.{Permission}
use Rattle.share_records.specs.declared.participant.PartKind.{PartKind}
use Rattle.share_records.specs.declared.participant.Participant.{Participant}
use Rattle.share_records.specs.declared.participant.Wanted.{Wanted}
use Rattle.share_records.specs.declared.share.Share.{Share as ShareOf}
use Rattle.share_records.specs.Limits.{most_participants}
use Rattle.share_records.specs.Permissions.{is_public}

-- ---- what a list becomes

abbrev pub participant_at : List Participant → List ℕ → Option Participant
participant_at ps u = find (λ (p : Participant). same u p.user) ps

-- a user whom the owner names keeps an acceptance; who came by an open share stands only where they were such a one, as they were
abbrev pub kept_as : PartKind → Wanted → Option Participant → Option Participant
kept_as PartKind.Member w old = Some (record { user = w.user; kind = PartKind.Member; permission = w.permission; accepted = is_some_and (λ (p : Participant). p.accepted) old })
kept_as PartKind.Public w None = None
kept_as PartKind.Public w (Some p) = if is_public p.kind then Some p else None

abbrev pub with_participant : List Participant → Participant → List Participant
with_participant ps p = filter (λ (q : Participant). is_before q.user p.user) ps ++ p ∷ filter (λ (q : Participant). is_before p.user q.user) ps

-- the list that the owner gives, in ascending order of users; whoever is not in it is out
abbrev pub rewritten : List Participant → List Wanted → List Participant
rewritten old wanted = fold with_participant [] (filter_map (λ (w : Wanted). kept_as w.kind w (participant_at old w.user)) wanted)

-- ---- which list is refused

pub data ListFault : Type 0 where
  -- it names this many, which is above the limit
  too_many : ℕ → ListFault
  -- it names the owner
  owner_listed : ListFault
  -- this user is the first who is named again
  twice : List ℕ → ListFault

-- the first fault of a list
abbrev pub fault_of_users : List ℕ → List (List ℕ) → Option ListFault
fault_of_users owner users =
    if nat_lt most_participants (length users) then Some (too_many (length users))
    else (if is_in users owner then Some owner_listed else option_map_or (λ u. Some (twice u)) (first_again users) None)

abbrev pub fault_of_list : List ℕ → List Wanted → Option ListFault
fault_of_list owner wanted = fault_of_users owner (map (λ (w : Wanted). w.user) wanted)

abbrev pub is_refused_list : List ℕ → List Wanted → Bool
is_refused_list owner wanted = is_some (fault_of_list owner wanted)

-- ---- shares

-- a share as it begins, which lets nobody in
abbrev pub first_share : List ℕ → List ℕ → ShareOf
first_share root guid = record { root = root; guid = guid; public = Permission.Nothing; participants = [] }

-- the share without a user
abbrev pub share_without : List ℕ → ShareOf → ShareOf
share_without u s = record s { participants = filter (λ (p : Participant). not (same u p.user)) s.participants }
