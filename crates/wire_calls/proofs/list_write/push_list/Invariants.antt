use Rattle.std.proofs.Common.{◌≡◌, ◌∷◌, ◌++◌, false, drop, take, string_bytes}
use Rattle.std.specs.Prelude.{nat_lt}
use Rattle.std.specs.List.{AllByRecursion}
use Rattle.serde_json.specs.View.{items_of}
use Rattle.serde_json.specs.Written.{items_text}
use Rattle.wire_calls.specs.Lists.{IsRead}
use Rattle.wire_calls.proofs.list_write.push_list.Given as goal

abbrev pub invariant-loop-place : goal.invariant-loop-place
invariant-loop-place g l = record {
  text : string_bytes l.text ++ items_text (nat_lt 0 l.place) (items_of (g.L.Entries.told l.list))
      ≡ string_bytes l.fn.text ++ 91 ∷ items_text false (items_of (g.L.Entries.told l.fn.list));
  left : g.L.Entries.told l.list ≡ drop l.place (g.L.Entries.told l.fn.list);
  read : AllByRecursion IsRead (take l.place (g.L.Entries.told l.fn.list));
}
