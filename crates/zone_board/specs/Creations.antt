-- Creations with their names, and the records that they put.
use Rattle.std.specs.Prelude.{ℕ, ◌||◌, List, filter_map, Option, Some, None, is_none, option_map, if◌then◌else◌}
use Rattle.record_model.specs.declared.value.Value.{Value}
use Rattle.record_model.specs.declared.draft.Draft.{Draft}
use Rattle.record_model.specs.declared.records.Body.TheVariants.{Plain}
use Rattle.record_model.specs.declared.records.Record.{Record}
use Rattle.plain_creates.specs.PlainCreates.{created_record, is_too_large}

-- the fields that a draft gives, in order
abbrev pub given_field : List ℕ × Option Value → Option (List ℕ × Value)
given_field wish = option_map (λ (v : Value). (wish.0, v)) wish.1

abbrev pub given_fields : List (List ℕ × Option Value) → List (List ℕ × Value)
given_fields wishes = filter_map given_field wishes

-- the first record of a name
abbrev pub first_of_type : List ℕ → ℕ → List ℕ → List ℕ → List (List ℕ × Value) → Record
first_of_type user moment name rtype fields = record {
  name = name;
  rtype = rtype;
  tag = 1;
  parent = None;
  share = None;
  fields = fields;
  created = record { moment = moment; user = user };
  modified = record { moment = moment; user = user };
  body = Plain;
}

-- the record that is put where the name was never put before, unless the draft has no type or is too large
abbrev pub first_record : List ℕ → ℕ → List ℕ → Draft → Option Record
first_record user moment name d = if is_none d.rtype || is_too_large d then None else Some (created_record user moment (λ _. 0) name d)
