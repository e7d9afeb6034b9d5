-- The size of the record that a put writes, at worked examples. They hold for all values of these sizes that refer to nothing.
use Rattle.std.proofs.Common.{◌≡◌, List, [], ◌∷◌, ◌++◌, Some, None, refl, true}
use Rattle.std.specs.Prelude.{codes}
use Rattle.std.specs.Fmt.{digits}
use Rattle.record_model.specs.declared.value.Value.{Value}
use Rattle.record_model.specs.ValueSizes.{size}
use Rattle.zone_model.specs.declared.operations.OpKind.{OpKind}
use Rattle.zone_model.specs.declared.operations.OpKind.TheVariants.{Update, Replace}
use Rattle.zone_model.specs.Requests.{NamedOp}
use Rattle.zone_model.specs.declared.outcomes.OpFault.TheVariants.{BadRequest}
use Rattle.zone_model.specs.declared.commits.Act.TheVariants.{Writes}
use Rattle.zone_model.specs.declared.commits.Write.TheVariants.{Put}
use Rattle.zone_model.specs.declared.commits.Commit.{Commit}
use Rattle.zone_model.specs.References.{references_in}
use Rattle.zone_laws.specs.LawfulTests.{are_lawful}
use Rattle.zone_rows.proofs.RowWords.{op_as, draft, typed, op_of, act, made, told_ann, put, refused}
use Rattle.zone_rows.proofs.RowRecords.{a, k, m, row}

-- a new record with one field, whose name has one byte: its size is 9 more than its value's
abbrev create_with : Value → NamedOp
create_with v = op_of (record (typed a) { fields = (k, Some v) ∷ [] })

pub a_record_has_at_most_this_size : (v : Value) → references_in v ≡ [] → size v ≡ 1048567 → told_ann made (create_with v ∷ []) ≡ put a 1 ∷ []
unfolding digits
a_record_has_at_most_this_size v refers sized = rw (refers, sized) refl

pub a_greater_record_is_refused : (v : Value) → references_in v ≡ [] → size v ≡ 1048568 → told_ann made (create_with v ∷ []) ≡ refused BadRequest ∷ []
unfolding digits
a_greater_record_is_refused v refers sized = rw (refers, sized) refl

-- ---- fields that are kept count too

-- a has one field
abbrev filled : Value → List Commit
filled v = made ++ act (Writes (Put (record (row a 1 None) { fields = (k, v) ∷ [] }) ∷ [])) ∷ []

pub filled_is_lawful : (v : Value) → size v ≡ 1048000 → are_lawful [] (filled v) ≡ true
filled_is_lawful v sized = rw sized refl

-- and gets another
abbrev giving : OpKind → Value → List NamedOp
giving kind w = op_as kind (record (draft a) { tag = Some (codes "1"); fields = (m, Some w) ∷ [] }) ∷ []

pub both_fields_fit : (v w : Value) → references_in w ≡ [] → size v ≡ 1048000 → size w ≡ 558 → told_ann (filled v) (giving Update w) ≡ put a 2 ∷ []
unfolding digits
both_fields_fit v w refers sized other = rw (refers, sized, other) refl

pub both_fields_are_too_large : (v w : Value) → references_in w ≡ [] → size v ≡ 1048000 → size w ≡ 559 → told_ann (filled v) (giving Update w) ≡ refused BadRequest ∷ []
unfolding digits
both_fields_are_too_large v w refers sized other = rw (refers, sized, other) refl

-- a field that is dropped doesn't
pub the_new_field_alone_fits : (v w : Value) → references_in w ≡ [] → size w ≡ 559 → told_ann (filled v) (giving Replace w) ≡ put a 2 ∷ []
unfolding digits
the_new_field_alone_fits v w refers other = rw (refers, other) refl
