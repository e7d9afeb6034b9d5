-- Which events may follow in the history of a lock, at worked examples.
use Rattle.std.proofs.Common.{◌≡◌, ℕ, List, [], ◌∷◌, ◌++◌, ◌-◌, ◌^◌, None, refl, true, false}
use Rattle.std.specs.Prelude.{replicate, flat_map}
use Rattle.ck_base.specs.KnownNames.{own_default}
use Rattle.zone_model.specs.declared.commits.Act.TheVariants.{MakeZone, DropZone, Writes}
use Rattle.zone_model.specs.declared.commits.Write.TheVariants.{Put}
use Rattle.zone_model.specs.declared.commits.Commit.{Commit}
use Rattle.zone_model.specs.declared.events.Event.{Event}
use Rattle.zone_model.specs.declared.events.Event.TheVariants.{Made, StoreFailed}
use Rattle.zone_laws.specs.LawfulTests.{is_legal}
use Rattle.zone_model.specs.Events.{log_of}
use Rattle.zone_rows.proofs.RowWords.{ann, act, act_at, made}
use Rattle.zone_rows.proofs.RowRecords.{a, k, row}

-- the event of a seat with these commits
abbrev event : ℕ → ℕ → List Commit → Event
event seat count commits = Made (record { seat = seat; count = count }) commits

abbrev puts_a : ℕ → Commit
puts_a tag = act (Writes (Put (row a tag None) ∷ []))

-- two seats, each of which counts its own events
abbrev history : List Event
history = event 0 1 made ∷ event 4 1 (puts_a 1 ∷ []) ∷ event 0 2 (puts_a 2 ∷ puts_a 3 ∷ []) ∷ event 4 2 (puts_a 4 ∷ []) ∷ []

pub each_seat_counts_its_own : is_legal 6 history ≡ true
each_seat_counts_its_own = refl

-- another event of them
abbrev and_then : Event → List Event
and_then e = history ++ e ∷ []

pub the_next_count : is_legal 6 (and_then (event 0 3 (puts_a 5 ∷ []))) ≡ true
the_next_count = refl

pub a_count_that_was : is_legal 6 (and_then (event 0 2 (puts_a 5 ∷ []))) ≡ false
a_count_that_was = refl

pub a_count_of_all_seats : is_legal 6 (and_then (event 0 5 (puts_a 5 ∷ []))) ≡ false
a_count_of_all_seats = refl

pub the_first_count_of_a_seat : is_legal 6 (and_then (event 9 1 (puts_a 5 ∷ []))) ≡ true
the_first_count_of_a_seat = refl

pub another_first_count_of_a_seat : is_legal 6 (and_then (event 9 0 (puts_a 5 ∷ []))) ≡ false
another_first_count_of_a_seat = refl

pub an_event_has_commits : is_legal 6 (and_then (event 0 3 [])) ≡ false
an_event_has_commits = refl

pub commits_follow_each_other : is_legal 6 (and_then (event 0 3 (puts_a 5 ∷ puts_a 5 ∷ []))) ≡ false
commits_follow_each_other = refl

pub commits_follow_other_events : is_legal 6 (and_then (event 0 3 (puts_a 1 ∷ []))) ≡ false
commits_follow_other_events = refl

-- the zone is of lock 6, and ann's default zone of lock 13
pub commits_are_of_the_lock : is_legal 13 history ≡ false
commits_are_of_the_lock = refl

pub each_commit_is_of_the_lock : is_legal 6 (and_then (event 0 3 (puts_a 5 ∷ act_at (own_default ann) (Writes (Put (row k 1 None) ∷ [])) ∷ []))) ≡ false
each_commit_is_of_the_lock = refl

-- ---- how many

-- the zone is made and removed so many times
abbrev turns : ℕ → List Commit
turns n = flat_map (λ (c : Commit). c ∷ act DropZone ∷ []) (replicate n (act MakeZone))

pub two_hundred_commits : is_legal 6 (event 0 1 (turns 100) ∷ []) ≡ true
two_hundred_commits = refl

pub two_hundred_and_one : is_legal 6 (event 0 1 (turns 100 ++ act MakeZone ∷ []) ∷ []) ≡ false
two_hundred_and_one = refl

-- ---- faults of a store

-- the event of a seat, whose store failed where its count of faults went so
abbrev fault : ℕ → ℕ → ℕ → ℕ → Event
fault seat count from to = StoreFailed (record { seat = seat; count = count }) from to

pub a_store_may_fail : is_legal 6 (and_then (fault 0 3 0 1)) ≡ true
a_store_may_fail = refl

pub it_may_fail_at_once : is_legal 6 (fault 0 1 0 1 ∷ []) ≡ true
it_may_fail_at_once = refl

pub a_fault_has_the_next_count : is_legal 6 (and_then (fault 0 2 0 1)) ≡ false
a_fault_has_the_next_count = refl

pub a_fault_skips_no_count : is_legal 6 (and_then (fault 0 4 0 1)) ≡ false
a_fault_skips_no_count = refl

pub another_seat_counts_its_faults : is_legal 6 (and_then (fault 9 1 0 1)) ≡ true
another_seat_counts_its_faults = refl

-- the same commit may be tried again, with the next count
abbrev retried : List Event
retried = and_then (fault 0 3 0 1) ++ event 0 4 (puts_a 5 ∷ []) ∷ []

pub it_may_be_tried_again : is_legal 6 retried ≡ true
it_may_be_tried_again = refl

pub a_fault_has_a_count_of_its_own : is_legal 6 (and_then (fault 0 3 0 1) ++ event 0 3 (puts_a 5 ∷ []) ∷ []) ≡ false
a_fault_has_a_count_of_its_own = refl

pub a_fault_commits_nothing : is_legal 6 (and_then (fault 0 3 0 1) ++ event 0 4 (puts_a 6 ∷ []) ∷ []) ≡ false
a_fault_commits_nothing = refl

pub a_fault_is_not_in_the_log : log_of retried ≡ log_of history ++ puts_a 5 ∷ []
a_fault_is_not_in_the_log = refl

pub the_count_rises : is_legal 6 (and_then (fault 0 3 4 4)) ≡ false
the_count_rises = refl

pub the_count_does_not_fall : is_legal 6 (and_then (fault 0 3 4 3)) ≡ false
the_count_does_not_fall = refl

pub it_may_rise_by_more : is_legal 6 (and_then (fault 0 3 4 9)) ≡ true
it_may_rise_by_more = refl

-- at the end of its 64 bits it stands
pub a_full_count_stands : is_legal 6 (and_then (fault 0 3 (2 ^ 64 - 1) (2 ^ 64 - 1)) ++ fault 0 4 (2 ^ 64 - 1) (2 ^ 64 - 1) ∷ []) ≡ true
a_full_count_stands = refl

pub one_less_does_not_stand : is_legal 6 (and_then (fault 0 3 (2 ^ 64 - 2) (2 ^ 64 - 2))) ≡ false
one_less_does_not_stand = refl

-- a second fault, behind one that told 2 to 5, and behind another event
abbrev second : Event → List Event
second e = and_then (fault 0 3 2 5) ++ event 4 3 (puts_a 5 ∷ []) ∷ e ∷ []

pub a_later_fault_is_above : is_legal 6 (second (fault 0 4 5 6)) ≡ true
a_later_fault_is_above = refl

pub it_may_be_far_above : is_legal 6 (second (fault 4 4 7 8)) ≡ true
it_may_be_far_above = refl

pub a_fault_is_told_once : is_legal 6 (second (fault 0 4 2 5)) ≡ false
a_fault_is_told_once = refl

pub the_faults_of_all_seats_are_in_order : is_legal 6 (second (fault 4 4 4 6)) ≡ false
the_faults_of_all_seats_are_in_order = refl
