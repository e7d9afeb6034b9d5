use Rattle.std.proofs.Common.{◌≡◌, ◌++◌}
use Rattle.std.specs.List.{AllByRecursion}
use Rattle.serde_json.specs.View.{members_view}
use Rattle.field_values.specs.Results.{result_map, each_or_first_error}
use Rattle.ck_records.specs.DraftFields.{entries, wish_of}
use Rattle.record_model.specs.DraftForms.{IsWish}
use Rattle.ck_records.proofs.draft_fields.read_wishes.Given as goal

abbrev pub invariant-loop-name : goal.invariant-loop-name
invariant-loop-name l =
    let read = wish_of l.here l.caller in
    record {
      so_far : each_or_first_error read (entries (members_view l.members.entries)) ≡ result_map (λ rest. l.wishes.items ++ rest) (each_or_first_error read (entries (members_view l.name-iterator)));
      meant : AllByRecursion IsWish l.wishes.items;
    }
