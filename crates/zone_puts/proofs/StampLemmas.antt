-- Records with the tags and the stamps that commits give them.
use Rattle.std.proofs.Common.{◌≡◌, ℕ, suc, Bool, List, sym}
use Rattle.std.specs.Prelude.{if◌then◌else◌}
use Rattle.record_model.specs.declared.records.Stamp.{Stamp}
use Rattle.record_model.specs.declared.records.Record.{Record}
use Rattle.zone_model.specs.Effect.{Request, stamped, is_unmarked, final}
use Rattle.zone_puts.specs.Stamping.{IsToldOf, left_marked}

pub stamped_as : (q : Request) (r : Record) (puts : ℕ) (there : Bool) (s : Stamp) → IsToldOf q r.name puts there s
    → record r { tag = suc puts; created = if there then r.created else s; modified = s } ≡ stamped q r
stamped_as q r puts there s told = sym (λ i. record r { tag = suc (told.counted i); created = if told.there_is i then r.created else told.stamp_is i; modified = told.stamp_is i })

pub final_as : (q : Request) (gone : List (List ℕ)) (r row : Record) (unmarked : Bool) → row ≡ stamped q r → is_unmarked q gone r ≡ unmarked → left_marked unmarked row ≡ final q gone r
final_as q gone r row unmarked is mark = λ i. left_marked (sym mark i) (is i)
