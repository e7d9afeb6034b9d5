-- Each check of puts and deletions by itself, and which of two comes first, at worked examples.
use Rattle.std.proofs.Common.{◌≡◌, ℕ, List, [], ◌∷◌, Option, Some, None, refl, false, true}
use Rattle.std.specs.Prelude.{codes, decimal, option_map}
use Rattle.std.specs.Fmt.{digits}
use Rattle.ck_base.specs.declared.scope.Scope.TheVariants.{Private, Shared}
use Rattle.record_model.specs.declared.value.Action.TheVariants.{Validate}
use Rattle.record_model.specs.declared.value.Value.{Value}
use Rattle.share_records.specs.declared.permission.Permission.TheVariants.{Nothing, ReadOnly, ReadWrite}
use Rattle.share_records.specs.declared.participant.PartKind.{PartKind}
use Rattle.record_model.specs.declared.draft.ParentWish.TheVariants.{Absent, To}
use Rattle.record_model.specs.declared.records.Body.TheVariants.{Plain}
use Rattle.record_model.specs.declared.records.Record.{Record}
use Rattle.zone_model.specs.declared.operations.OpKind.{OpKind}
use Rattle.zone_model.specs.declared.operations.OpKind.TheVariants.{Update, Replace}
use Rattle.zone_model.specs.Requests.{NamedOp}
use Rattle.zone_model.specs.declared.outcomes.OpFault.TheVariants.{Exists, Conflict, BadRequest, AccessDenied, Validating}
use Rattle.zone_model.specs.declared.outcomes.Outcome.{Outcome}
use Rattle.zone_model.specs.declared.outcomes.Outcome.TheVariants as outcome
use Rattle.zone_model.specs.declared.commits.Commit.{Commit}
use Rattle.ck_base.specs.KnownNames.{default_zone}
use Rattle.zone_model.specs.Putting.{written_over}
use Rattle.zone_model.specs.Modifying.{judgement_at, modified}
use Rattle.zone_laws.specs.LawfulTests.{are_lawful}
use Rattle.zone_rows.proofs.ReferenceRows.{to, references_to, size_to, by_ann}
use Rattle.zone_rows.proofs.RowWords.{op_as, ann, bob, cat, dan, draft, typed, op_of, create, create_under, create_bound, update, delete, force_delete, invited, create_share, set_participants, set_public, made, asked_by, asks, accepts, told_ann, told, put, refused, shown, seen}

abbrev a : List ℕ
a = codes "a"

abbrev d : List ℕ
d = codes "d"

abbrev e : List ℕ
e = codes "e"

abbrev k : List ℕ
k = codes "k"

abbrev m : List ℕ
m = codes "m"

abbrev n : List ℕ
n = codes "n"

abbrev r : List ℕ
r = codes "r"

abbrev s : List ℕ
s = codes "s"

abbrev t : List ℕ
t = codes "t"

-- ---- given fields and others

module _ (v w u : Value) where
  -- a record with two fields
  abbrev filled : Record
  filled = record {
    name = a;
    rtype = codes "T";
    tag = 1;
    parent = None;
    share = None;
    fields = (m, v) ∷ (n, w) ∷ [];
    created = record { moment = 1000; user = ann };
    modified = record { moment = 1000; user = ann };
    body = Plain;
  }

  -- its fields after a put gives these
  abbrev fields_after : OpKind → List (List ℕ × Option Value) → Option (List (List ℕ × Value))
  fields_after kind wishes = option_map (λ (row : Record). row.fields) (written_over (op_as kind (record (draft a) { fields = wishes })) (Some filled))

  pub an_update_keeps_other_fields : fields_after Update ((m, Some u) ∷ []) ≡ Some ((m, u) ∷ (n, w) ∷ [])
  an_update_keeps_other_fields = refl

  pub a_replace_drops_other_fields : fields_after Replace ((m, Some u) ∷ []) ≡ Some ((m, u) ∷ [])
  a_replace_drops_other_fields = refl

  pub a_null_removes_a_field : fields_after Update ((n, None) ∷ []) ≡ Some ((m, v) ∷ [])
  a_null_removes_a_field = refl

-- ---- references that are validated

pub a_target_is_missing : judgement_at by_ann 1000 made (create_bound e Absent Validate d ∷ []) ≡ Some Validating ∷ []
unfolding digits
a_target_is_missing = rw (references_to (to Validate d), size_to (to Validate d)) refl

pub a_target_comes_with_it : judgement_at by_ann 1000 made (create_bound e Absent Validate d ∷ create d ∷ []) ≡ None ∷ None ∷ []
unfolding digits
a_target_comes_with_it = rw (references_to (to Validate d), size_to (to Validate d)) refl

-- ---- the form of a put

abbrev one_there : List Commit
one_there = asks made (create a ∷ [])

pub one_there_is_lawful : are_lawful [] one_there ≡ true
unfolding digits
one_there_is_lawful = refl

pub a_child_there_is_lawful : are_lawful [] (asks one_there (create_under k a ∷ [])) ≡ true
unfolding digits
a_child_there_is_lawful = refl

pub another_there_is_lawful : are_lawful [] (asks one_there (create k ∷ [])) ≡ true
unfolding digits
another_there_is_lawful = refl

pub another_type_is_no_update : told_ann one_there (op_as Update (record (draft a) { tag = Some (decimal 1); rtype = Some (codes "U") }) ∷ []) ≡ refused BadRequest ∷ []
unfolding digits
another_type_is_no_update = refl

pub a_record_has_no_public_permission : told_ann made (op_of (record (typed a) { public = Some ReadOnly }) ∷ []) ≡ refused BadRequest ∷ []
unfolding digits
a_record_has_no_public_permission = refl

pub a_default_zone_has_no_share : told (modified (record { user = ann; scope = Private; key = record { owner = ann; zone = default_zone } }) 1000 [] true (create r ∷ create_share s r 1 [] ∷ [])) ≡ put r 1 ∷ refused BadRequest ∷ []
unfolding digits
a_default_zone_has_no_share = refl

pub an_owner_is_no_participant : told_ann (asks made (create r ∷ [])) (create_share s r 1 (invited ann ReadOnly ∷ []) ∷ []) ≡ refused BadRequest ∷ []
unfolding digits
an_owner_is_no_participant = refl

-- ---- a root and its shares

pub a_roots_tag_is_looked_at : told_ann (asks made (create r ∷ [])) (create_share s r 0 [] ∷ []) ≡ shown Conflict r 1 ∷ []
unfolding digits
a_roots_tag_is_looked_at = refl

abbrev shared : List Commit
shared = asks (asks made (create r ∷ [])) (create_share s r 1 (invited bob ReadOnly ∷ []) ∷ [])

pub shared_is_lawful : are_lawful [] shared ≡ true
unfolding digits
shared_is_lawful = refl

pub a_root_has_one_share : told_ann shared (create_share t r 2 [] ∷ []) ≡ refused Exists ∷ []
unfolding digits
a_root_has_one_share = refl

-- whether the record of a put that was done names a share
abbrev marks : List Outcome → List (Option (List ℕ))
marks [] = []
marks (outcome.Put row ∷ outcomes) = row.share ∷ marks outcomes
marks (outcome.Deleted x ∷ outcomes) = marks outcomes
marks (outcome.Refused fault server ∷ outcomes) = marks outcomes

pub a_root_is_shown_without_the_share_that_goes : marks (asked_by ann Private shared true (update r 2 ∷ force_delete s ∷ [])).outcomes ≡ None ∷ []
unfolding digits
a_root_is_shown_without_the_share_that_goes = refl

-- ---- who is listed

abbrev listed : PartKind → List ℕ → NamedOp
listed kind u = op_as Update (record (draft s) { tag = Some (decimal 3); participants = Some (record { user = u; kind = kind; permission = ReadOnly } ∷ []) })

abbrev opened : List Commit
opened = asks shared (set_public s ReadOnly ∷ [])

pub opened_is_lawful : are_lawful [] opened ≡ true
unfolding digits
opened_is_lawful = refl

pub listing_a_stranger_is_lawful : are_lawful [] (asks opened (set_participants s (record { user = dan; kind = PartKind.Public; permission = Nothing } ∷ []) ∷ [])) ≡ true
unfolding digits
listing_a_stranger_is_lawful = refl

pub nobody_comes_in_by_being_listed : seen (asks opened (set_participants s (record { user = dan; kind = PartKind.Public; permission = Nothing } ∷ []) ∷ [])) dan Shared ≡ []
unfolding digits
nobody_comes_in_by_being_listed = refl

pub listing_who_accepted_is_lawful : are_lawful [] (asks (accepts opened cat s) (listed PartKind.Member cat ∷ [])) ≡ true
unfolding digits
listing_who_accepted_is_lawful = refl

pub who_accepted_stays_in_as_a_member : seen (asks (accepts opened cat s) (listed PartKind.Member cat ∷ [])) cat Shared ≡ (r, 2) ∷ (s, 4) ∷ []
unfolding digits
who_accepted_stays_in_as_a_member = refl

-- ---- what a participant may do

abbrev reading : List Commit
reading = accepts shared bob s

pub reading_is_lawful : are_lawful [] reading ≡ true
unfolding digits
reading_is_lawful = refl

abbrev writing : List Commit
writing = accepts (asks (asks made (create r ∷ [])) (create_share s r 1 (invited bob ReadWrite ∷ []) ∷ [])) bob s

pub writing_is_lawful : are_lawful [] writing ≡ true
unfolding digits
writing_is_lawful = refl

pub a_reader_writes_nothing : told (asked_by bob Shared reading false (update r 2 ∷ create_under k r ∷ [])) ≡ refused AccessDenied ∷ refused AccessDenied ∷ []
unfolding digits
a_reader_writes_nothing = refl

pub a_writer_writes : told (asked_by bob Shared writing false (update r 2 ∷ create_under k r ∷ [])) ≡ put r 3 ∷ put k 1 ∷ []
unfolding digits
a_writer_writes = refl

pub a_writer_makes_no_root_and_changes_no_share : told (asked_by bob Shared writing false (create k ∷ force_delete r ∷ update s 2 ∷ [])) ≡ refused AccessDenied ∷ refused AccessDenied ∷ refused AccessDenied ∷ []
unfolding digits
a_writer_makes_no_root_and_changes_no_share = refl

-- ---- which of two comes first

pub a_conflict_before_the_form : told_ann (asks one_there (create k ∷ [])) (op_as Update (record (draft a) { tag = Some (decimal 7); parent = To k }) ∷ []) ≡ shown Conflict a 1 ∷ []
unfolding digits
a_conflict_before_the_form = refl

pub the_form_before_the_permission : told (asked_by bob Shared reading false (op_as Update (record (draft r) { tag = Some (decimal 2); rtype = Some (codes "U") }) ∷ [])) ≡ refused BadRequest ∷ []
unfolding digits
the_form_before_the_permission = refl

-- a record below itself is not writable, and has a bad parent
pub the_permission_before_the_parent : told (asked_by bob Shared writing false (create_under k k ∷ [])) ≡ refused AccessDenied ∷ []
unfolding digits
the_permission_before_the_parent = refl

pub a_conflict_before_what_holds_back : told_ann (asks one_there (create_under k a ∷ [])) (delete a 7 ∷ []) ≡ shown Conflict a 1 ∷ []
unfolding digits
a_conflict_before_what_holds_back = refl
