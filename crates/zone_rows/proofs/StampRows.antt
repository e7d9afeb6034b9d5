-- Who made and who changed a record, and when, at worked examples. What `RowWords` makes is made at 1000, by ann where no other is named.
use Rattle.std.proofs.Common.{◌≡◌, ℕ, List, [], ◌∷◌, ◌++◌, Some, refl, true, Option}
use Rattle.std.specs.Prelude.{option_map}
use Rattle.std.specs.Fmt.{digits}
use Rattle.ck_base.specs.declared.scope.Scope.{Scope}
use Rattle.ck_base.specs.declared.scope.Scope.TheVariants.{Private, Shared}
use Rattle.share_records.specs.declared.permission.Permission.TheVariants.{ReadWrite}
use Rattle.record_model.specs.declared.records.Stamp.{Stamp}
use Rattle.record_model.specs.declared.records.Record.{Record}
use Rattle.zone_model.specs.Requests.{NamedOp}
use Rattle.zone_model.specs.declared.outcomes.Outcome.{Outcome}
use Rattle.zone_model.specs.declared.outcomes.Outcome.TheVariants.{Put, Deleted, Refused}
use Rattle.zone_model.specs.declared.outcomes.Modified.{Modified}
use Rattle.zone_model.specs.declared.commits.Commit.{Commit}
use Rattle.zone_model.specs.Records.{record_at}
use Rattle.zone_model.specs.Zones.{zone_at}
use Rattle.zone_model.specs.Modifying.{modified}
use Rattle.zone_laws.specs.LawfulTests.{are_lawful}
use Rattle.zone_rows.proofs.RowWords.{ann, bob, notes, create, create_under, update, delete, invited, create_share, made, asks, accepts}
use Rattle.zone_rows.proofs.RowRecords.{k, r, s}

-- made and changed
pub record Stamps : Type 0 where
  pub created : Stamp
  pub modified : Stamp

abbrev stamps_of : Record → Stamps
stamps_of row = record { created = row.created; modified = row.modified }

abbrev stamps : ℕ → List ℕ → ℕ → List ℕ → Stamps
stamps made_at maker changed_at changer = record { created = record { moment = made_at; user = maker }; modified = record { moment = changed_at; user = changer } }

-- what a request of a user comes to at 2000, and the log with it
abbrev later : List ℕ → Scope → List Commit → List NamedOp → Modified
later u scope log ops = modified (record { user = u; scope = scope; key = notes }) 2000 log true ops

abbrev after : List ℕ → Scope → List Commit → List NamedOp → List Commit
after u scope log ops = log ++ (later u scope log ops).commits

-- the stamps of a record then, and those that the replies to puts show
abbrev stamps_after : List ℕ → Scope → List Commit → List NamedOp → List ℕ → Option Stamps
stamps_after u scope log ops name = option_map stamps_of (record_at (zone_at (after u scope log ops) notes).rows name)

abbrev stamps_shown : List Outcome → List Stamps
stamps_shown [] = []
stamps_shown (Put row ∷ outcomes) = stamps_of row ∷ stamps_shown outcomes
stamps_shown (Deleted name ∷ outcomes) = stamps_shown outcomes
stamps_shown (Refused fault server ∷ outcomes) = stamps_shown outcomes

-- bob may write r, and made k below it
abbrev root : List Commit
root = asks made (create r ∷ [])

abbrev shared : List Commit
shared = accepts (asks root (create_share s r 1 (invited bob ReadWrite ∷ []) ∷ [])) bob s

pub root_is_lawful : are_lawful [] root ≡ true
unfolding digits
root_is_lawful = refl

pub shared_is_lawful : are_lawful [] shared ≡ true
unfolding digits
shared_is_lawful = refl

-- ---- updates

pub an_update_keeps_who_made_it : stamps_after bob Shared shared (update r 2 ∷ []) r ≡ Some (stamps 1000 ann 2000 bob)
unfolding digits
an_update_keeps_who_made_it = refl

pub an_update_shows_both : stamps_shown (later bob Shared shared (update r 2 ∷ [])).outcomes ≡ stamps 1000 ann 2000 bob ∷ []
unfolding digits
an_update_shows_both = refl

pub the_update_is_lawful : are_lawful [] (after bob Shared shared (update r 2 ∷ [])) ≡ true
unfolding digits
the_update_is_lawful = refl

-- ---- new records

pub a_new_record_has_one_stamp_twice : stamps_after bob Shared shared (create_under k r ∷ []) k ≡ Some (stamps 2000 bob 2000 bob)
unfolding digits
a_new_record_has_one_stamp_twice = refl

pub a_new_record_shows_it : stamps_shown (later bob Shared shared (create_under k r ∷ [])).outcomes ≡ stamps 2000 bob 2000 bob ∷ []
unfolding digits
a_new_record_shows_it = refl

pub the_new_record_is_lawful : are_lawful [] (after bob Shared shared (create_under k r ∷ [])) ≡ true
unfolding digits
the_new_record_is_lawful = refl

-- a second life has nothing of the first
pub a_second_life_is_made_anew : stamps_after ann Private (asks root (delete r 1 ∷ [])) (create r ∷ []) r ≡ Some (stamps 2000 ann 2000 ann)
unfolding digits
a_second_life_is_made_anew = refl

pub the_second_life_is_lawful : are_lawful [] (after ann Private (asks root (delete r 1 ∷ [])) (create r ∷ [])) ≡ true
unfolding digits
the_second_life_is_lawful = refl

-- ---- roots and shares

pub a_root_is_changed_by_its_share : stamps_after ann Private root (create_share s r 1 [] ∷ []) r ≡ Some (stamps 1000 ann 2000 ann)
unfolding digits
a_root_is_changed_by_its_share = refl

pub the_share_is_lawful : are_lawful [] (after ann Private root (create_share s r 1 [] ∷ [])) ≡ true
unfolding digits
the_share_is_lawful = refl

pub a_root_is_changed_when_its_share_goes : stamps_after ann Private shared (delete s 2 ∷ []) r ≡ Some (stamps 1000 ann 2000 ann)
unfolding digits
a_root_is_changed_when_its_share_goes = refl

pub the_unsharing_is_lawful : are_lawful [] (after ann Private shared (delete s 2 ∷ [])) ≡ true
unfolding digits
the_unsharing_is_lawful = refl

pub a_share_is_changed_by_leaving : stamps_after bob Shared shared (delete s 2 ∷ []) s ≡ Some (stamps 1000 ann 2000 bob)
unfolding digits
a_share_is_changed_by_leaving = refl

pub the_leaving_is_lawful : are_lawful [] (after bob Shared shared (delete s 2 ∷ [])) ≡ true
unfolding digits
the_leaving_is_lawful = refl
