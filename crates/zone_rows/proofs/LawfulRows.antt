-- What keeps a commit from following a log, one thing at a time, at worked examples.
use Rattle.std.proofs.Common.{◌≡◌, ℕ, List, [], ◌∷◌, ◌++◌, Some, None, refl, true, false}
use Rattle.ck_base.specs.KnownNames.{own_default}
use Rattle.zone_model.specs.declared.commits.Act.TheVariants.{MakeZone, DropZone, Writes}
use Rattle.zone_model.specs.declared.commits.Write.{Write}
use Rattle.zone_model.specs.declared.commits.Write.TheVariants.{Put, Remove, PutRemove}
use Rattle.zone_model.specs.declared.commits.Commit.{Commit}
use Rattle.zone_laws.specs.LawfulTests.{are_lawful}
use Rattle.zone_rows.proofs.RowWords.{ann, act_at, act, made}
use Rattle.zone_rows.proofs.RowRecords.{a, b, d, k, row}

-- b stands below a, and d alone
abbrev log : List Commit
log = made ++ act (Writes (Put (row a 1 None) ∷ Put (row b 1 (Some a)) ∷ Put (row d 1 None) ∷ [])) ∷ []

pub log_is_lawful : are_lawful [] log ≡ true
log_is_lawful = refl

-- the log with these writes
abbrev and_then : List Write → List Commit
and_then ws = log ++ act (Writes ws) ∷ []

-- ---- the next tag

pub the_next_tag : are_lawful [] (and_then (Put (row d 2 None) ∷ [])) ≡ true
the_next_tag = refl

pub the_tag_that_was : are_lawful [] (and_then (Put (row d 1 None) ∷ [])) ≡ false
the_tag_that_was = refl

pub a_tag_after_the_next : are_lawful [] (and_then (Put (row d 3 None) ∷ [])) ≡ false
a_tag_after_the_next = refl

pub the_first_tag : are_lawful [] (and_then (Put (row k 1 None) ∷ [])) ≡ true
the_first_tag = refl

pub no_first_tag : are_lawful [] (and_then (Put (row k 2 None) ∷ [])) ≡ false
no_first_tag = refl

-- tags go on counting where a record was removed
pub the_next_tag_of_a_later_life : are_lawful [] (and_then (Remove d ∷ []) ++ act (Writes (Put (row d 2 None) ∷ [])) ∷ []) ≡ true
the_next_tag_of_a_later_life = refl

pub a_later_life_has_no_first_tag : are_lawful [] (and_then (Remove d ∷ []) ++ act (Writes (Put (row d 1 None) ∷ [])) ∷ []) ≡ false
a_later_life_has_no_first_tag = refl

-- ---- the parent is kept

pub the_same_parent : are_lawful [] (and_then (Put (row b 2 (Some a)) ∷ [])) ≡ true
the_same_parent = refl

pub another_parent : are_lawful [] (and_then (Put (row b 2 (Some d)) ∷ [])) ≡ false
another_parent = refl

pub a_parent_less : are_lawful [] (and_then (Put (row b 2 None) ∷ [])) ≡ false
a_parent_less = refl

pub a_parent_more : are_lawful [] (and_then (Put (row d 2 (Some a)) ∷ [])) ≡ false
a_parent_more = refl

-- another life may have another parent
pub another_parent_in_a_later_life : are_lawful [] (and_then (Remove b ∷ []) ++ act (Writes (Put (row b 2 (Some d)) ∷ [])) ∷ []) ≡ true
another_parent_in_a_later_life = refl

-- ---- what is removed is there

pub a_removal : are_lawful [] (and_then (Remove d ∷ [])) ≡ true
a_removal = refl

pub a_removal_of_nothing : are_lawful [] (and_then (Remove k ∷ [])) ≡ false
a_removal_of_nothing = refl

pub a_second_removal : are_lawful [] (and_then (Remove d ∷ []) ++ act (Writes (Remove d ∷ [])) ∷ []) ≡ false
a_second_removal = refl

-- what is put and removed at once need not be there
pub a_put_and_removal : are_lawful [] (and_then (PutRemove k ∷ [])) ≡ true
a_put_and_removal = refl

-- ---- zones are made and removed in turn

pub a_zone_in_turn : are_lawful [] (made ++ act DropZone ∷ act MakeZone ∷ act DropZone ∷ []) ≡ true
a_zone_in_turn = refl

pub a_second_making : are_lawful [] (made ++ act MakeZone ∷ []) ≡ false
a_second_making = refl

pub a_removal_of_no_zone : are_lawful [] (act DropZone ∷ []) ≡ false
a_removal_of_no_zone = refl

pub a_second_removal_of_a_zone : are_lawful [] (made ++ act DropZone ∷ act DropZone ∷ []) ≡ false
a_second_removal_of_a_zone = refl

pub a_default_zone_is_not_made : are_lawful [] (act_at (own_default ann) MakeZone ∷ []) ≡ false
a_default_zone_is_not_made = refl

pub a_default_zone_is_not_removed : are_lawful [] (act_at (own_default ann) DropZone ∷ []) ≡ false
a_default_zone_is_not_removed = refl

-- ---- writes stand where the zone is

abbrev puts_d : ℕ → Commit
puts_d tag = act (Writes (Put (row d tag None) ∷ []))

pub writes_before_the_zone : are_lawful [] (puts_d 1 ∷ []) ≡ false
writes_before_the_zone = refl

pub writes_after_the_zone : are_lawful [] (made ++ act DropZone ∷ puts_d 1 ∷ []) ≡ false
writes_after_the_zone = refl

pub writes_in_a_second_life : are_lawful [] (log ++ act DropZone ∷ act MakeZone ∷ puts_d 2 ∷ []) ≡ true
writes_in_a_second_life = refl

-- tags go on counting where a zone was removed
pub a_second_life_has_no_first_tag : are_lawful [] (log ++ act DropZone ∷ act MakeZone ∷ puts_d 1 ∷ []) ≡ false
a_second_life_has_no_first_tag = refl

pub writes_in_a_default_zone : are_lawful [] (act_at (own_default ann) (Writes (Put (row d 1 None) ∷ [])) ∷ []) ≡ true
writes_in_a_default_zone = refl
