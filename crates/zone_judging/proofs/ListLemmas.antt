-- Which lists of participants are refused.
use Rattle.std.proofs.Common.{◌≡◌, ℕ, suc, List, [], ◌∷◌, Bool, true, false, ◌||◌, refl, ap, ◌∙◌, Some, None, Option, map, length, nat_lt}
use Rattle.std.specs.Prelude.{is_some, if◌then◌else◌}
use Rattle.std.specs.List.{list_any}
use Rattle.std.specs.Option.{option_map_or}
use Rattle.name_rules.specs.Names.{same, is_in, has_twice, first_again}
use Rattle.name_rules.proofs.NameLemmas.{first_again-twice}
use Rattle.share_records.specs.declared.participant.Wanted.{Wanted}
use Rattle.share_records.specs.Limits.{most_participants}
use Rattle.share_records.specs.ShareLists.{too_many, owner_listed, twice, is_refused_list}

pub one_wanted : (wanted : List Wanted) (u : List ℕ) → list_any (λ (w : Wanted). same u w.user) wanted ≡ is_in (map (λ (w : Wanted). w.user) wanted) u
one_wanted [] u = refl
one_wanted (w ∷ wanted) u = ap (λ b. same u w.user || b) (one_wanted wanted u)

counted : (wanted : List Wanted) → length (map (λ (w : Wanted). w.user) wanted) ≡ length wanted
counted [] = refl
counted (w ∷ wanted) = ap suc (counted wanted)

again_told : (o : Option (List ℕ)) → is_some (option_map_or (λ u. Some (twice u)) o None) ≡ is_some o
again_told None = refl
again_told (Some u) = refl

told_by : (a b : Bool) (n : ℕ) (o : Option (List ℕ)) → is_some (if a then Some (too_many n) else (if b then Some owner_listed else option_map_or (λ u. Some (twice u)) o None)) ≡ (a || (b || is_some o))
told_by true b n o = refl
told_by false true n o = refl
told_by false false n o = again_told o

pub refused_by : (owner : List ℕ) (wanted : List Wanted) → is_refused_list owner wanted ≡ (nat_lt most_participants (length wanted) || (is_in (map (λ (w : Wanted). w.user) wanted) owner || has_twice (map (λ (w : Wanted). w.user) wanted)))
refused_by owner wanted =
    let users = map (λ (w : Wanted). w.user) wanted in
    told_by (nat_lt most_participants (length users)) (is_in users owner) (length users) (first_again users)
    ∙ ap (λ n. nat_lt most_participants n || (is_in users owner || is_some (first_again users))) (counted wanted)
    ∙ ap (λ b. nat_lt most_participants (length wanted) || (is_in users owner || b)) (first_again-twice users)
