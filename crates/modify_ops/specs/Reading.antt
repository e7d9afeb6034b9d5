-- Which operations the JSON of a request means, or the first fault.
use Rattle.std.specs.Prelude.{ℕ, nat_lt, if◌then◌else◌, List, length, Option, None, Some, Result, Ok, Err}
use Rattle.serde_json.specs.Data.{Data, Items}
use Rattle.serde_json.specs.Find.{as_array}
use Rattle.ck_base.specs.declared.key.ZoneKey.{ZoneKey}
use Rattle.field_values.specs.Members.{elements}
use Rattle.ck_records.specs.Sequence.{◌>>=◌}
use Rattle.zone_model.specs.declared.operations.Op.{Op}
use Rattle.modify_ops.specs.declared.fault.BadOps.{BadOps}
use Rattle.modify_ops.specs.declared.fault.BadOps.TheVariants.{TooMany, BadOp, Twice}
use Rattle.modify_ops.specs.Forms.{ops_from}
use Rattle.zone_model.specs.Limits.{most_items}
use Rattle.zone_model.specs.GivenNames.{named_again}

-- the operations, where none names a record or a root again
abbrev pub unless_again : List Op → Option (List ℕ) → Result (List Op) BadOps
unless_again ops None = Ok ops
unless_again ops (Some name) = Err (Twice name)

abbrev pub distinct : List Op → Result (List Op) BadOps
distinct ops = unless_again ops (named_again ops)

-- what is made of the elements of a list; what is no list is wrong at once
abbrev pub of_items : (List Data → Result (List Op) BadOps) → Option Items → Result (List Op) BadOps
of_items f None = Err (BadOp 0)
of_items f (Some ds) = f (elements ds)

module _ (here : ZoneKey) (caller : List ℕ) where
  -- each is one, in a list
  abbrev pub list_of : Data → Result (List Op) BadOps
  list_of d = of_items (ops_from here caller 0) (as_array d)

  -- at most 200, then each is one, then none names a record or a root again
  abbrev pub within : List Data → Result (List Op) BadOps
  within ds =
      if nat_lt most_items (length ds) then Err (TooMany (length ds))
      else (do
        ops ← ops_from here caller 0 ds
        distinct ops)

  abbrev pub ops_of : Data → Result (List Op) BadOps
  ops_of d = of_items within (as_array d)
