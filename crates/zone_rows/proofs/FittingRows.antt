-- Records that don't fit together, which no lawful commit leaves, at worked examples.
use Rattle.std.proofs.Common.{◌≡◌, ℕ, List, [], ◌∷◌, ◌++◌, Some, None, refl, true, false, Option, map}
use Rattle.std.specs.Prelude.{codes}
use Rattle.std.specs.List.{flat_map}
use Rattle.share_records.specs.declared.permission.Permission.TheVariants.{Nothing, ReadOnly}
use Rattle.share_records.specs.declared.participant.Participant.{Participant}
use Rattle.record_model.specs.declared.value.Value.{Value}
use Rattle.record_model.specs.ValueSizes.{size}
use Rattle.record_model.specs.declared.records.Record.{Record}
use Rattle.zone_model.specs.declared.commits.Act.TheVariants.{Writes}
use Rattle.zone_model.specs.declared.commits.Write.{Write}
use Rattle.zone_model.specs.declared.commits.Write.TheVariants.{Put, Remove}
use Rattle.zone_model.specs.declared.commits.Commit.{Commit}
use Rattle.zone_laws.specs.LawfulTests.{are_lawful}
use Rattle.zone_rows.proofs.RowWords.{act, made}
use Rattle.zone_rows.proofs.RowRecords.{a, b, d, k, m, p, q, r, s, x, row, marked, member, share_row}

-- a new share of the root with these participants
abbrev share : List ℕ → List ℕ → Option (List ℕ) → List Participant → Record
share name root parent ps = record (share_row name root Nothing ps) { parent = parent }

-- b stands below a, and s is the share of r
abbrev log : List Commit
log = made ++ act (Writes (Put (row a 1 None) ∷ Put (row b 1 (Some a)) ∷ Put (marked (row r 1 None) s) ∷ Put (share s r None []) ∷ [])) ∷ []

pub log_is_lawful : are_lawful [] log ≡ true
log_is_lawful = refl

-- the log with these writes
abbrev and_then : List Write → List Commit
and_then ws = log ++ act (Writes ws) ∷ []

-- ---- parents

pub a_parent_that_is_missing : are_lawful [] (and_then (Put (row k 1 (Some m)) ∷ [])) ≡ false
a_parent_that_is_missing = refl

pub a_parent_that_comes_with_it : are_lawful [] (and_then (Put (row k 1 (Some m)) ∷ Put (row m 1 None) ∷ [])) ≡ true
a_parent_that_comes_with_it = refl

pub a_parent_that_goes : are_lawful [] (and_then (Remove a ∷ [])) ≡ false
a_parent_that_goes = refl

pub a_parent_that_goes_with_its_child : are_lawful [] (and_then (Remove a ∷ Remove b ∷ [])) ≡ true
a_parent_that_goes_with_its_child = refl

pub a_share_is_no_parent : are_lawful [] (and_then (Put (row k 1 (Some s)) ∷ [])) ≡ false
a_share_is_no_parent = refl

pub no_record_stands_below_itself : are_lawful [] (and_then (Put (row k 1 (Some k)) ∷ [])) ≡ false
no_record_stands_below_itself = refl

pub no_ring : are_lawful [] (and_then (Put (row p 1 (Some q)) ∷ Put (row q 1 (Some p)) ∷ [])) ≡ false
no_ring = refl

-- ---- roots and their shares

pub a_second_share_and_its_root : are_lawful [] (and_then (Put (marked (row a 2 None) x) ∷ Put (share x a None []) ∷ [])) ≡ true
a_second_share_and_its_root = refl

pub a_share_has_no_parent : are_lawful [] (and_then (Put (marked (row a 2 None) x) ∷ Put (share x a (Some a) []) ∷ [])) ≡ false
a_share_has_no_parent = refl

pub a_root_that_is_missing : are_lawful [] (and_then (Put (share x m None []) ∷ [])) ≡ false
a_root_that_is_missing = refl

pub a_root_that_names_no_share : are_lawful [] (and_then (Put (share x a None []) ∷ [])) ≡ false
a_root_that_names_no_share = refl

-- r names s
pub a_root_has_one_share : are_lawful [] (and_then (Put (share x r None []) ∷ [])) ≡ false
a_root_has_one_share = refl

pub a_share_is_no_root : are_lawful [] (and_then (Put (marked (record (share s r None []) { tag = 2 }) x) ∷ Put (share x s None []) ∷ [])) ≡ false
a_share_is_no_root = refl

pub a_share_that_is_missing : are_lawful [] (and_then (Put (marked (row a 2 None) x) ∷ [])) ≡ false
a_share_that_is_missing = refl

pub a_share_of_another_root : are_lawful [] (and_then (Put (marked (row a 2 None) s) ∷ [])) ≡ false
a_share_of_another_root = refl

pub a_share_that_goes_alone : are_lawful [] (and_then (Remove s ∷ [])) ≡ false
a_share_that_goes_alone = refl

pub a_share_that_goes_from_its_root : are_lawful [] (and_then (Put (row r 2 None) ∷ Remove s ∷ [])) ≡ true
a_share_that_goes_from_its_root = refl

-- ---- limits

abbrev ten : List ℕ
ten = codes "0123456789"

-- the participants 00 to 99
abbrev hundred : List Participant
hundred = flat_map (λ t. map (λ n. member (t ∷ n ∷ []) ReadOnly false) ten) ten

abbrev one_more : Participant
one_more = member (codes "bob") ReadOnly false

-- a share of a with these participants
abbrev with_people : List Participant → List Commit
with_people ps = and_then (Put (marked (row a 2 None) x) ∷ Put (share x a None ps) ∷ [])

pub a_hundred_participants : are_lawful [] (with_people hundred) ≡ true
a_hundred_participants = refl

pub a_hundred_and_one : are_lawful [] (with_people (hundred ++ one_more ∷ [])) ≡ false
a_hundred_and_one = refl

-- a record with one field, whose name has one byte: its size is 9 more than its value's
abbrev with_value : Value → List Commit
with_value v = and_then (Put (record (row d 1 None) { fields = (k, v) ∷ [] }) ∷ [])

pub a_record_of_the_greatest_size : (v : Value) → size v ≡ 1048567 → are_lawful [] (with_value v) ≡ true
a_record_of_the_greatest_size v is = rw is refl

pub a_greater_record : (v : Value) → size v ≡ 1048568 → are_lawful [] (with_value v) ≡ false
a_greater_record v is = rw is refl
