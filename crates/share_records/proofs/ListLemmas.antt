-- A list is refused where it is too long, names the owner, or names some user twice.
use Rattle.std.proofs.Common.{◌≡◌, ℕ, List, Bool, true, false, ◌||◌, refl, ap, ◌∙◌, Some, None, Option, map, length}
use Rattle.std.specs.Prelude.{nat_lt, is_some, if◌then◌else◌}
use Rattle.std.specs.Option.{option_map_or}
use Rattle.std.proofs.lemmas.List.{length-map}
use Rattle.name_rules.specs.Names.{is_in, has_twice, first_again}
use Rattle.name_rules.proofs.NameLemmas.{first_again-twice}
use Rattle.share_records.specs.declared.participant.Wanted.{Wanted}
use Rattle.share_records.specs.Limits.{most_participants}
use Rattle.share_records.specs.ShareLists.{too_many, owner_listed, twice, is_refused_list}

some_twice : (o : Option (List ℕ)) → is_some (option_map_or (λ u. Some (twice u)) o None) ≡ is_some o
some_twice None = refl
some_twice (Some u) = refl

by_tests : (long listed : Bool) (n : ℕ) (o : Option (List ℕ)) (h : Bool) → is_some o ≡ h
    → is_some (if long then Some (too_many n) else (if listed then Some owner_listed else option_map_or (λ u. Some (twice u)) o None)) ≡ (long || (listed || h))
by_tests true listed n o h e = refl
by_tests false true n o h e = refl
by_tests false false n o h e = some_twice o ∙ e

pub refused-is : (owner : List ℕ) (wanted : List Wanted)
    → is_refused_list owner wanted
    ≡ (nat_lt most_participants (length wanted) || (is_in (map (λ (w : Wanted). w.user) wanted) owner || has_twice (map (λ (w : Wanted). w.user) wanted)))
refused-is owner wanted =
    let users = map (λ (w : Wanted). w.user) wanted in
    by_tests (nat_lt most_participants (length users)) (is_in users owner) (length users) (first_again users) (has_twice users) (first_again-twice users)
    ∙ ap (λ n. nat_lt most_participants n || (is_in users owner || has_twice users)) (length-map wanted (λ (w : Wanted). w.user))
