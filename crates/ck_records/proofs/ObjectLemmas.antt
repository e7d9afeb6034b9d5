-- Objects some of whose members may be missing.
use Rattle.std.proofs.Common.{◌≡◌, ℕ, List, [], ◌∷◌, Bool, true, ◌&&◌, Option, None, Some, Ordering, Less, Equal, Greater, nat_cmp, refl, ap, ◌∙◌}
use Rattle.std.proofs.lemmas.Bool.{and_parts}
use Rattle.std.specs.Cmp.Lexicographic.{slice_cmp}
use Rattle.std.specs.List.{list_all}
use Rattle.std.specs.Ordering.{is_lt}
use Rattle.serde_json.specs.Data.{Data, no_members, member, put}
use Rattle.ck_base.specs.Order.{is_before}
use Rattle.ck_records.specs.Objects.{present, put_some, put_all}

abbrev pub Listed : Type 0
Listed = List (List ℕ × Option Data)

-- the name stands before those of all members
abbrev pub is_first : List ℕ → Listed → Bool
is_first name ms = list_all (λ (m : List ℕ × Option Data). is_before name m.0) ms

pub is_less : (o : Ordering) → is_lt o ≡ true → o ≡ Less
is_less Less e = refl
is_less Equal e = absurd (cc e)
is_less Greater e = absurd (cc e)

put_first : (name : List ℕ) (d : Data) (ms : Listed) → is_first name ms ≡ true → put name d (present ms) ≡ member name d (present ms)
put_first name d [] first = refl
put_first name d ((l, None) ∷ ms) first = put_first name d ms (and_parts (is_before name l) _ first).1
put_first name d ((l, Some e) ∷ ms) first = rw (is_less (slice_cmp nat_cmp name l) (and_parts (is_before name l) _ first).0) refl

-- a member before all others is put in front
put_front : (name : List ℕ) (o : Option Data) (ms : Listed) → is_first name ms ≡ true → put_some name o (present ms) ≡ present ((name, o) ∷ ms)
put_front name None ms first = refl
put_front name (Some d) ms first = put_first name d ms first

-- each name stands before those of all later members
abbrev are_in_order : Listed → Bool
are_in_order [] = true
are_in_order ((name, o) ∷ ms) = is_first name ms && are_in_order ms

-- members in order that are put into an empty object stand as they are listed
pub put_in_place : (ms : Listed) → are_in_order ms ≡ true → put_all ms no_members ≡ present ms
put_in_place [] ordered = refl
put_in_place ((name, o) ∷ ms) ordered =
    let parts = and_parts (is_first name ms) _ ordered in
    ap (put_some name o) (put_in_place ms parts.1) ∙ put_front name o ms parts.0
