-- Which fields a put keeps, at worked examples.
use Rattle.std.proofs.Common.{◌≡◌, ℕ, List, [], ◌∷◌, ◌++◌, Some, None, refl, sym, ap, ◌∙◌, true, length, Option}
use Rattle.std.specs.Prelude.{codes, option_map}
use Rattle.std.specs.Fmt.{digits}
use Rattle.record_model.specs.declared.value.Value.{Value, out-Value, out-roll-Value, fold-roll-Value}
use Rattle.record_model.specs.declared.value.Value.TheVariants.{Text, rolls-Text}
use Rattle.record_model.specs.declared.value.Value.TheOpen.{Value-F}
use Rattle.record_model.specs.ValueSizes.{size, size_step}
use Rattle.record_model.specs.declared.records.Record.{Record}
use Rattle.zone_model.specs.declared.operations.OpKind.{OpKind}
use Rattle.zone_model.specs.declared.operations.OpKind.TheVariants.{Update, ForceUpdate, Replace, ForceReplace}
use Rattle.zone_model.specs.Requests.{NamedOp}
use Rattle.zone_model.specs.declared.commits.Act.TheVariants.{Writes}
use Rattle.zone_model.specs.declared.commits.Write.TheVariants.{Put}
use Rattle.zone_model.specs.declared.commits.Commit.{Commit}
use Rattle.zone_model.specs.References.{references_in, level_references}
use Rattle.zone_model.specs.Records.{record_at}
use Rattle.zone_model.specs.Zones.{zone_at}
use Rattle.zone_laws.specs.LawfulTests.{are_lawful}
use Rattle.zone_rows.proofs.RowWords.{op_as, notes, draft, typed, op_of, act, made, asks, told_ann, put}
use Rattle.zone_rows.proofs.RowRecords.{a, k, m, row}

-- a text has no references, and a size: neither computes by itself
text_references : (t : List ℕ) → references_in (Text t) ≡ []
text_references t = ap level_references (ap out-Value (sym (rolls-Text t)) ∙ out-roll-Value (Value-F.Text t))

text_size : (t : List ℕ) → size (Text t) ≡ length t
text_size t = ap size (sym (rolls-Text t)) ∙ fold-roll-Value ℕ size_step (Value-F.Text t)

abbrev one : Value
one = Text (codes "1")

abbrev two : Value
two = Text (codes "2")

abbrev l : List ℕ
l = codes "l"

-- a has the fields k and m
abbrev filled_row : Record
filled_row = record (row a 1 None) { fields = (k, one) ∷ (m, two) ∷ [] }

abbrev filled : List Commit
filled = made ++ act (Writes (Put filled_row ∷ [])) ∷ []

pub filled_is_lawful : are_lawful [] filled ≡ true
unfolding digits
filled_is_lawful = rw (text_size (codes "1"), text_size (codes "2")) refl

-- a put of a that gives these fields
abbrev giving : OpKind → Option (List ℕ) → List (List ℕ × Option Value) → List NamedOp
giving kind tag wishes = op_as kind (record (draft a) { tag = tag; fields = wishes }) ∷ []

-- the fields of a record, and those of a after such a put
abbrev fields_of : List ℕ → List Commit → Option (List (List ℕ × Value))
fields_of name log = option_map (λ (kept : Record). kept.fields) (record_at (zone_at log notes).rows name)

abbrev fields_after : List NamedOp → Option (List (List ℕ × Value))
fields_after ops = fields_of a (asks filled ops)

-- ---- forced, without a tag

pub a_forced_replace_is_done : told_ann filled (giving ForceReplace None []) ≡ put a 2 ∷ []
unfolding digits
a_forced_replace_is_done = refl

pub a_forced_replace_drops_fields : fields_after (giving ForceReplace None []) ≡ Some []
unfolding digits
a_forced_replace_drops_fields = refl

pub a_forced_replace_is_lawful : are_lawful [] (asks filled (giving ForceReplace None [])) ≡ true
unfolding digits
a_forced_replace_is_lawful = rw (text_size (codes "1"), text_size (codes "2")) refl

pub a_forced_replace_makes_a_record : told_ann made (op_as ForceReplace (record (draft k) { rtype = Some (codes "T") }) ∷ []) ≡ put k 1 ∷ []
unfolding digits
a_forced_replace_makes_a_record = refl

pub a_forced_update_keeps_fields : fields_after (giving ForceUpdate None []) ≡ Some ((k, one) ∷ (m, two) ∷ [])
unfolding digits
a_forced_update_keeps_fields = rw (text_size (codes "1"), text_size (codes "2")) refl

pub a_forced_update_is_lawful : are_lawful [] (asks filled (giving ForceUpdate None [])) ≡ true
unfolding digits
a_forced_update_is_lawful = rw (text_size (codes "1"), text_size (codes "2")) (rw (text_size (codes "1"), text_size (codes "2")) refl)

-- ---- with a tag

abbrev first : Option (List ℕ)
first = Some (codes "1")

pub a_replace_drops_fields : fields_after (giving Replace first []) ≡ Some []
unfolding digits
a_replace_drops_fields = refl

pub an_update_keeps_fields : fields_after (giving Update first []) ≡ Some ((k, one) ∷ (m, two) ∷ [])
unfolding digits
an_update_keeps_fields = rw (text_size (codes "1"), text_size (codes "2")) refl

pub an_update_removes_a_field : fields_after (giving Update first ((m, None) ∷ [])) ≡ Some ((k, one) ∷ [])
unfolding digits
an_update_removes_a_field = rw (text_size (codes "1")) refl

pub an_update_changes_a_field : fields_after (giving Update first ((m, Some one) ∷ [])) ≡ Some ((k, one) ∷ (m, one) ∷ [])
unfolding digits
an_update_changes_a_field = rw (text_references (codes "1"), text_size (codes "1")) refl

pub a_replace_is_lawful : are_lawful [] (asks filled (giving Replace first [])) ≡ true
unfolding digits
a_replace_is_lawful = rw (text_size (codes "1"), text_size (codes "2")) refl

pub an_update_is_lawful : are_lawful [] (asks filled (giving Update first [])) ≡ true
unfolding digits
an_update_is_lawful = rw (text_size (codes "1"), text_size (codes "2")) (rw (text_size (codes "1"), text_size (codes "2")) refl)

pub a_removed_field_is_lawful : are_lawful [] (asks filled (giving Update first ((m, None) ∷ []))) ≡ true
unfolding digits
a_removed_field_is_lawful = rw (text_size (codes "1"), text_size (codes "2")) (rw (text_size (codes "1")) refl)

pub a_changed_field_is_lawful : are_lawful [] (asks filled (giving Update first ((m, Some one) ∷ []))) ≡ true
unfolding digits
a_changed_field_is_lawful = rw (text_references (codes "1"), text_size (codes "1"), text_size (codes "2")) (rw (text_size (codes "1")) refl)

-- fields ascend by name
pub an_update_adds_a_field_in_its_place : fields_after (giving Update first ((l, Some one) ∷ [])) ≡ Some ((k, one) ∷ (l, one) ∷ (m, two) ∷ [])
unfolding digits
an_update_adds_a_field_in_its_place = rw (text_references (codes "1"), text_size (codes "1"), text_size (codes "2")) refl

pub an_added_field_is_lawful : are_lawful [] (asks filled (giving Update first ((l, Some one) ∷ []))) ≡ true
unfolding digits
an_added_field_is_lawful = rw (text_references (codes "1"), text_size (codes "1"), text_size (codes "2")) (rw (text_size (codes "1"), text_size (codes "2")) refl)

-- in a new record there is no field to remove
pub a_new_record_skips_what_is_removed : fields_of k (asks made (op_of (record (typed k) { fields = (m, None) ∷ [] }) ∷ [])) ≡ Some []
unfolding digits
a_new_record_skips_what_is_removed = refl

pub a_new_record_is_lawful : are_lawful [] (asks made (op_of (record (typed k) { fields = (m, None) ∷ [] }) ∷ [])) ≡ true
unfolding digits
a_new_record_is_lawful = refl
