-- What the working view has under a name, by the record that is seen and the put that makes one.
use Rattle.std.specs.Prelude.{ℕ, Bool, not, ◌&&◌, List, find, map, Option, Some, None, option_and_then, if◌then◌else◌}
use Rattle.record_model.specs.declared.records.Record.{Record}
use Rattle.record_model.specs.RecordForms.{is_share_type}
use Rattle.name_rules.specs.Parents.{Link}
use Rattle.zone_model.specs.Names.{same}
use Rattle.zone_model.specs.Records.{is_share}
use Rattle.zone_model.specs.Requests.{NamedOp, makes_new, new_parent, has_share_type, puts_in}

-- the first put of the name
abbrev pub first_put : List NamedOp → List ℕ → Option NamedOp
first_put ops x = find (λ (p : NamedOp). same x p.name) (puts_in ops)

-- the put that makes a record where none of the name is seen
abbrev pub maker : List NamedOp → List ℕ → Option NamedOp
maker ops x = option_and_then (λ (p : NamedOp). if makes_new p.kind then Some p else None) (first_put ops x)

-- no share, and no put of a share that lacks its root
abbrev pub is_plain : Record → Bool
is_plain r = not (is_share r) && not (is_share_type r.rtype)

abbrev pub is_plain_made : NamedOp → Bool
is_plain_made p = not (has_share_type p.draft)

abbrev pub made_parent : List NamedOp → List ℕ → Option (List ℕ)
made_parent ops x = option_and_then (λ (p : NamedOp). new_parent p.draft) (maker ops x)

-- each put with the parent that it gives a new record
abbrev pub made_link : NamedOp → Link
made_link p = (p.name, if makes_new p.kind then new_parent p.draft else None)

abbrev pub made_links : List NamedOp → List Link
made_links ops = map made_link (puts_in ops)
