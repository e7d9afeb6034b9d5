-- What a lock is given to see for an ask, what it answers and what it makes, at worked examples.
use Rattle.std.proofs.Common.{◌≡◌, ℕ, List, [], ◌∷◌, ◌++◌, Some, None, refl, true, false, Bool, map}
use Rattle.std.specs.Prelude.{codes}
use Rattle.std.specs.Fmt.{digits}
use Rattle.ck_base.specs.KnownNames.{own_default}
use Rattle.ck_base.specs.declared.key.ZoneKey.{ZoneKey}
use Rattle.ck_base.specs.declared.scope.Scope.{Scope}
use Rattle.ck_base.specs.declared.scope.Scope.TheVariants.{Private, Shared}
use Rattle.share_records.specs.declared.permission.Permission.TheVariants.{Nothing, ReadOnly}
use Rattle.zone_model.specs.declared.operations.Op.{Op}
use Rattle.zone_model.specs.Requests.{NamedOp}
use Rattle.zone_model.specs.declared.outcomes.OpFault.TheVariants.{Exists, NotFound, Conflict, Atomic}
use Rattle.zone_model.specs.declared.outcomes.Outcome.TheVariants.{Put as PutTold, Refused}
use Rattle.zone_model.specs.declared.commits.Act.TheVariants.{Writes}
use Rattle.zone_model.specs.declared.commits.Write.TheVariants.{Put, Remove}
use Rattle.zone_model.specs.declared.events.Event.{Event}
use Rattle.zone_model.specs.declared.events.Event.TheVariants.{Made, StoreFailed}
use Rattle.zone_model.specs.Views.{nowhere}
use Rattle.zone_laws.specs.LawfulTests.{is_legal}
use Rattle.zone_laws.specs.MeantRequests.{as_given}
use Rattle.uuid.specs.Text.{by_index}
use Rattle.drawn_names.specs.Drawing.{name_of_word, guid_of_word}
use Rattle.board_model.specs.declared.parts.Part.{Part}
use Rattle.board_model.specs.declared.parts.Part.TheVariants.{Modify, Lookup}
use Rattle.board_model.specs.declared.answers.Answer.{Answer}
use Rattle.board_model.specs.declared.answers.Answer.TheVariants.{Modify as ModifyAnswer, Lookup as LookupAnswer, NoZone, StoreFailed as NotStored}
use Rattle.board_model.specs.Sights.{modifying, viewing}
use Rattle.board_model.specs.Asks.{stored, failed, sight, answer, commits_by, makes, made as made_at, told}
use Rattle.zone_model.specs.Events.{log_of}
use Rattle.zone_rows.proofs.RowWords.{ann, bob, notes, typed, op_of, share_draft, create, update, act, act_at, made, link}
use Rattle.zone_rows.proofs.RowRecords.{a, k, m, r, s, row, marked, member, share_row}

-- ---- a history

-- ann's zone was made by one event, and a put in it by the next; both are of seat 0
abbrev there : List Event
there = Made (record { seat = 0; count = 1 }) made ∷ Made (record { seat = 0; count = 2 }) (act (Writes (Put (row a 1 None) ∷ [])) ∷ []) ∷ []

pub there_is_legal : is_legal 6 there ≡ true
there_is_legal = refl

-- a zone that nobody has made
abbrev lists : ZoneKey
lists = record { owner = ann; zone = codes "Lists" }

-- ---- what is asked

abbrev modify : List ℕ → Scope → ZoneKey → Bool → List NamedOp → Part
modify u scope key atomic ops = Modify u scope key atomic (map as_given ops) 1000 []

abbrev lookup : List ℕ → Scope → ZoneKey → Part
lookup u scope key = Lookup u scope key (a ∷ m ∷ [])

-- what a part makes where it is stored
abbrev makes_at : ℕ → ℕ → List Event → Part → List Event
makes_at lock seat events part = made_at stored lock seat events part

-- the answer to a part, by what it is given to see
abbrev answer_at : List Event → Part → Answer
answer_at events part = answer 0 (sight 0 events part) part

-- ---- an ask that makes something

abbrev make_k : Part
make_k = modify ann Private notes true (create k ∷ [])

pub k_is_put : answer_at there make_k ≡ ModifyAnswer (PutTold (row k 1 None) ∷ [])
unfolding digits
k_is_put = refl

pub k_is_a_commit : commits_by 0 there make_k ≡ act (Writes (Put (row k 1 None) ∷ [])) ∷ []
unfolding digits
k_is_a_commit = refl

-- the third event of seat 0, or the first of another seat
pub k_is_the_third_event : makes_at 0 0 there make_k ≡ Made (record { seat = 0; count = 3 }) (act (Writes (Put (row k 1 None) ∷ [])) ∷ []) ∷ []
unfolding digits
k_is_the_third_event = refl

pub k_is_anothers_first_event : makes_at 0 7 there make_k ≡ Made (record { seat = 7; count = 1 }) (act (Writes (Put (row k 1 None) ∷ [])) ∷ []) ∷ []
unfolding digits
k_is_anothers_first_event = refl

pub it_stays_legal : is_legal 6 (there ++ makes_at 0 7 there make_k) ≡ true
unfolding digits
it_stays_legal = refl

pub something_is_made : makes (commits_by 0 there make_k) ≡ true
unfolding digits
something_is_made = refl

-- the tag of a change, and of a second life
pub a_change_has_the_next_tag : answer_at there (modify ann Private notes true (update a 1 ∷ [])) ≡ ModifyAnswer (PutTold (row a 2 None) ∷ [])
unfolding digits
a_change_has_the_next_tag = refl

abbrev gone : List Event
gone = there ++ Made (record { seat = 0; count = 3 }) (act (Writes (Remove a ∷ [])) ∷ []) ∷ []

pub gone_is_legal : is_legal 6 gone ≡ true
gone_is_legal = refl

pub a_second_life_has_the_next_tag : answer_at gone (modify ann Private notes true (create a ∷ [])) ≡ ModifyAnswer (PutTold (row a 2 None) ∷ [])
unfolding digits
a_second_life_has_the_next_tag = refl

-- before all operations alone
pub one_sight_is_enough : sight 0 there make_k ≡ modifying (record { view = record { here = true; rows = row a 1 None ∷ [] }; pasts = record { name = k; puts = 0; taken = false } ∷ [] }) []
unfolding digits
one_sight_is_enough = refl

-- ---- an ask that is refused

abbrev one_stale : Bool → Part
one_stale atomic = modify ann Private notes atomic (create k ∷ update a 7 ∷ [])

pub all_are_refused : answer_at there (one_stale true) ≡ ModifyAnswer (Refused Atomic None ∷ Refused Conflict (Some (row a 1 None)) ∷ [])
unfolding digits
all_are_refused = refl

pub nothing_is_committed : commits_by 0 there (one_stale true) ≡ []
unfolding digits
nothing_is_committed = refl

pub nothing_is_made : makes_at 0 0 there (one_stale true) ≡ []
unfolding digits
nothing_is_made = refl

pub so_it_makes_nothing : makes (commits_by 0 there (one_stale true)) ≡ false
unfolding digits
so_it_makes_nothing = refl

-- one after another, the first is done
pub one_is_refused : answer_at there (one_stale false) ≡ ModifyAnswer (PutTold (row k 1 None) ∷ Refused Conflict (Some (row a 1 None)) ∷ [])
unfolding digits
one_is_refused = refl

pub one_is_committed : commits_by 0 there (one_stale false) ≡ act (Writes (Put (row k 1 None) ∷ [])) ∷ []
unfolding digits
one_is_committed = refl

-- each is judged after those before it
pub a_change_finds_what_was_made : answer_at there (modify ann Private notes false (create k ∷ update k 1 ∷ update k 2 ∷ []))
    ≡ ModifyAnswer (PutTold (row k 1 None) ∷ PutTold (row k 2 None) ∷ PutTold (row k 3 None) ∷ [])
unfolding digits
a_change_finds_what_was_made = refl

pub all_at_once_it_is_taken : answer_at there (modify ann Private notes true (create k ∷ update k 1 ∷ [])) ≡ ModifyAnswer (Refused Atomic None ∷ Refused Exists None ∷ [])
unfolding digits
all_at_once_it_is_taken = refl

-- several commits are one event
pub two_are_one_event : makes_at 0 0 there (modify ann Private notes false (create k ∷ create m ∷ []))
    ≡ Made (record { seat = 0; count = 3 }) (act (Writes (Put (row k 1 None) ∷ [])) ∷ act (Writes (Put (row m 1 None) ∷ [])) ∷ []) ∷ []
unfolding digits
two_are_one_event = refl

-- ---- a zone that is not there

abbrev make_elsewhere : Part
make_elsewhere = modify ann Private lists false (create k ∷ [])

pub no_zone_is_modified : answer_at there make_elsewhere ≡ NoZone
unfolding digits
no_zone_is_modified = refl

pub nothing_is_made_there : makes_at 0 0 there make_elsewhere ≡ []
unfolding digits
nothing_is_made_there = refl

pub nothing_is_seen_there : sight 0 there make_elsewhere ≡ modifying (record { view = nowhere; pasts = record { name = k; puts = 0; taken = false } ∷ [] }) []
unfolding digits
nothing_is_seen_there = refl

pub no_zone_is_looked_up : answer_at there (lookup ann Private lists) ≡ NoZone
no_zone_is_looked_up = refl

-- ---- a stranger

abbrev make_as_stranger : Scope → Part
make_as_stranger scope = modify bob scope notes true (create k ∷ [])

pub no_stranger_modifies : answer_at there (make_as_stranger Private) ∷ answer_at there (make_as_stranger Shared) ∷ [] ≡ NoZone ∷ NoZone ∷ []
unfolding digits
no_stranger_modifies = refl

pub no_stranger_makes_anything : makes_at 0 0 there (make_as_stranger Private) ++ makes_at 0 0 there (make_as_stranger Shared) ≡ []
unfolding digits
no_stranger_makes_anything = refl

pub no_stranger_looks_up : answer_at there (lookup bob Private notes) ∷ answer_at there (lookup bob Shared notes) ∷ [] ≡ NoZone ∷ NoZone ∷ []
no_stranger_looks_up = refl

-- as if there was nothing
pub a_stranger_is_given_nothing : sight 0 there (lookup bob Shared notes) ≡ sight 0 [] (lookup bob Shared notes)
a_stranger_is_given_nothing = refl

-- ---- lookups

pub what_is_there_is_found : answer_at there (lookup ann Private notes) ≡ LookupAnswer (Some (row a 1 None) ∷ None ∷ [])
what_is_there_is_found = refl

pub the_view_is_enough : sight 0 there (lookup ann Private notes) ≡ viewing (record { here = true; rows = row a 1 None ∷ [] })
the_view_is_enough = refl

pub a_lookup_makes_nothing : makes_at 0 0 there (lookup ann Private notes) ≡ []
a_lookup_makes_nothing = refl

-- one's own zones are not in the shared scope
pub no_owner_looks_up_as_shared : answer_at there (lookup ann Shared notes) ≡ NoZone
no_owner_looks_up_as_shared = refl

-- ---- a participant

-- k is hidden from bob, who may read r
abbrev shared : List Event
shared = Made (record { seat = 0; count = 1 }) made
    ∷ Made (record { seat = 0; count = 2 }) (act (Writes (Put (row k 1 None) ∷ Put (marked (row r 1 None) s) ∷ Put (share_row s r Nothing (member bob ReadOnly true ∷ [])) ∷ [])) ∷ [])
    ∷ []

pub shared_is_legal : is_legal 6 shared ≡ true
shared_is_legal = refl

pub what_is_covered_is_found : answer_at shared (Lookup bob Shared notes (k ∷ r ∷ [])) ≡ LookupAnswer (None ∷ Some (marked (row r 1 None) s) ∷ [])
unfolding digits
what_is_covered_is_found = refl

-- of a hidden name it is told how often it was put and that it is taken, and no more
pub a_hidden_name_is_told : sight 0 shared (modify bob Shared notes true (update k 1 ∷ []))
    ≡ modifying (record { view = record { here = true; rows = marked (row r 1 None) s ∷ share_row s r Nothing (member bob ReadOnly true ∷ []) ∷ [] }; pasts = record { name = k; puts = 1; taken = true } ∷ [] }) []
unfolding digits
a_hidden_name_is_told = refl

pub a_hidden_record_is_not_found : answer_at shared (modify bob Shared notes true (update k 1 ∷ [])) ≡ ModifyAnswer (Refused NotFound None ∷ [])
unfolding digits
a_hidden_record_is_not_found = refl

-- ---- a default zone

abbrev make_at_home : List NamedOp → Part
make_at_home ops = modify ann Private (own_default ann) true ops

-- it is there from the start, and has no atomic requests
pub each_is_done_by_itself : answer_at [] (make_at_home (create k ∷ update m 1 ∷ [])) ≡ ModifyAnswer (PutTold (row k 1 None) ∷ Refused NotFound None ∷ [])
unfolding digits
each_is_done_by_itself = refl

pub it_is_the_first_event : makes_at 0 0 [] (make_at_home (create k ∷ update m 1 ∷ [])) ≡ Made (record { seat = 0; count = 1 }) (act_at (own_default ann) (Writes (Put (row k 1 None) ∷ [])) ∷ []) ∷ []
unfolding digits
it_is_the_first_event = refl

pub home_is_legal : is_legal 13 (makes_at 0 0 [] (make_at_home (create k ∷ update m 1 ∷ []))) ≡ true
unfolding digits
home_is_legal = refl

-- ---- drawn names and links

-- sixteen bytes, all but the last of them 0
abbrev word : ℕ → List ℕ
word n = 0 ∷ 0 ∷ 0 ∷ 0 ∷ 0 ∷ 0 ∷ 0 ∷ 0 ∷ 0 ∷ 0 ∷ 0 ∷ 0 ∷ 0 ∷ 0 ∷ 0 ∷ n ∷ []

pub a_word_makes_a_name : name_of_word (word 1) ≡ codes "00000000-0000-4000-8000-000000000001"
unfolding by_index
a_word_makes_a_name = refl

pub a_word_makes_a_link : guid_of_word 6 (word 1) ≡ link
unfolding by_index
a_word_makes_a_link = refl

-- a create without a name, and then one with a name
abbrev drawing : Part
drawing = Modify ann Private notes true (map as_given (op_of (record (typed k) { name = None }) ∷ create m ∷ [])) 1000 (word 1 ∷ [])

pub the_name_is_drawn : answer_at there drawing ≡ ModifyAnswer (PutTold (row (codes "00000000-0000-4000-8000-000000000001") 1 None) ∷ PutTold (row m 1 None) ∷ [])
unfolding digits by_index
the_name_is_drawn = refl

-- a share whose link is drawn by the second word, as its name is by the first
abbrev sharing : Part
sharing = Modify ann Private notes true (map as_given (op_of (record (share_draft s a (Some (codes "1")) []) { name = None }) ∷ [])) 1000 (word 2 ∷ word 1 ∷ [])

pub the_link_is_drawn : answer_at there sharing ≡ ModifyAnswer (PutTold (share_row (codes "00000000-0000-4000-8000-000000000002") a Nothing []) ∷ [])
unfolding digits by_index
the_link_is_drawn = refl

-- ---- a store that fails

-- where its count of faults went from 3 to 4
abbrev failing : List Event → Part → List Event
failing events part = made_at (failed 3 4) 0 0 events part

pub the_fault_is_an_event : failing there make_k ≡ StoreFailed (record { seat = 0; count = 3 }) 3 4 ∷ []
unfolding digits
the_fault_is_an_event = refl

pub the_fault_is_anothers_first : made_at (failed 0 1) 0 7 there make_k ≡ StoreFailed (record { seat = 7; count = 1 }) 0 1 ∷ []
unfolding digits
the_fault_is_anothers_first = refl

pub the_fault_is_told : told (failing there make_k) (answer_at there make_k) ≡ NotStored
unfolding digits
the_fault_is_told = refl

pub what_is_stored_is_told : told (makes_at 0 0 there make_k) (answer_at there make_k) ≡ answer_at there make_k
unfolding digits
what_is_stored_is_told = refl

pub it_is_legal_too : is_legal 6 (there ++ failing there make_k) ≡ true
unfolding digits
it_is_legal_too = refl

pub nothing_was_put : log_of (there ++ failing there make_k) ≡ log_of there
unfolding digits
nothing_was_put = refl

-- several commits fail as one
pub two_fail_as_one : failing there (modify ann Private notes false (create k ∷ create m ∷ [])) ≡ StoreFailed (record { seat = 0; count = 3 }) 3 4 ∷ []
unfolding digits
two_fail_as_one = refl

-- where nothing is made nothing is stored, so nothing fails
pub a_refusal_does_not_fail : failing there (one_stale true) ≡ []
unfolding digits
a_refusal_does_not_fail = refl

pub it_is_told_as_it_is : told (failing there (one_stale true)) (answer_at there (one_stale true)) ≡ answer_at there (one_stale true)
unfolding digits
it_is_told_as_it_is = refl

pub a_lookup_does_not_fail : told (failing there (lookup ann Private notes)) (answer_at there (lookup ann Private notes)) ≡ LookupAnswer (Some (row a 1 None) ∷ None ∷ [])
a_lookup_does_not_fail = refl

pub no_zone_does_not_fail : told (failing there make_elsewhere) (answer_at there make_elsewhere) ≡ NoZone
unfolding digits
no_zone_does_not_fail = refl

-- A record is made, its change fails, and the same change is done when it comes again: the events are Made, StoreFailed, Made.
abbrev change_a : Part
change_a = modify ann Private notes true (update a 1 ∷ [])

abbrev then_failed : List Event
then_failed = there ++ made_at (failed 0 1) 0 0 there change_a

pub the_change_fails : told (made_at (failed 0 1) 0 0 there change_a) (answer_at there change_a) ≡ NotStored
unfolding digits
the_change_fails = refl

pub the_change_is_done_again : answer_at then_failed change_a ≡ ModifyAnswer (PutTold (row a 2 None) ∷ [])
unfolding digits
the_change_is_done_again = refl

pub it_has_the_next_count : makes_at 0 0 then_failed change_a ≡ Made (record { seat = 0; count = 4 }) (act (Writes (Put (row a 2 None) ∷ [])) ∷ []) ∷ []
unfolding digits
it_has_the_next_count = refl

pub all_are_legal : is_legal 6 (then_failed ++ makes_at 0 0 then_failed change_a) ≡ true
unfolding digits
all_are_legal = refl

-- the sight of the next ask is as if nothing had been asked
pub a_fault_is_not_seen : sight 0 then_failed make_k ≡ sight 0 there make_k
unfolding digits
a_fault_is_not_seen = refl
