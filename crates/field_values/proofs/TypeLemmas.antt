-- What arrays show.
use Rattle.std.proofs.Common.{◌≡◌, ◌≤◌, List, [], ◌∷◌, ◌==◌, false, length, map, sym, arith}
use Rattle.std.proofs.lemmas.Bool.{ne_eqb}
use Rattle.std.specs.List.{list_any}
use Rattle.serde_json.specs.View.{view}
use Rattle.serde_json.specs.declared.value.Value.{Value}
use Rattle.field_values.specs.Types.{is_array, shows_no_list}
use Rattle.field_values.proofs.ListLemmas.{list_any_map}

-- with an element there, it is the arrays among them that count
pub shows_no_list-some : (items : List Value) → 1 ≤ length items → list_any (λ item. is_array (view item)) items ≡ shows_no_list (map view items)
shows_no_list-some [] some = absurd (omega arith)
shows_no_list-some (x ∷ xs) some =
    let there : (length (map view (x ∷ xs)) == 0) ≡ false = ne_eqb _ 0 (λ none. omega (arith, none)) in
    rw there (sym (list_any_map is_array view (x ∷ xs)))
