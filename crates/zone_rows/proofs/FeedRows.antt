-- The feed of zones over all locks, at worked examples.
use Rattle.std.proofs.Common.{◌≡◌, ℕ, List, [], ◌∷◌, ◌++◌, Bool, true, false, refl, map}
use Rattle.std.specs.Prelude.{codes}
use Rattle.std.specs.Fmt.{digits}
use Rattle.ck_base.specs.Names.{lock_of_names}
use Rattle.ck_base.specs.declared.key.ZoneKey.{ZoneKey}
use Rattle.ck_base.specs.declared.scope.Scope.{Scope}
use Rattle.ck_base.specs.declared.scope.Scope.TheVariants.{Private, Shared}
use Rattle.zone_model.specs.declared.commits.Act.TheVariants.{MakeZone, DropZone}
use Rattle.zone_model.specs.declared.commits.Commit.{Commit}
use Rattle.zone_model.specs.ZoneFeed.{ChangedZone, feed_page}
use Rattle.zone_laws.specs.LawfulTests.{are_lawful}
use Rattle.zone_rows.proofs.RowWords.{ann, bob, notes, act_at, made}
use Rattle.zone_rows.proofs.Rows.{revoked}

-- another zone of ann
abbrev lists : ZoneKey
lists = record { owner = ann; zone = codes "Lists" }

pub locks_of_zones : lock_of_names notes.owner notes.zone ∷ lock_of_names lists.owner lists.zone ∷ [] ≡ 6 ∷ 12 ∷ []
locks_of_zones = refl

-- one thing for each of the 16 locks, another than the rest at these two
abbrev by_lock : {A : Type 0} → A → A → A → List A
by_lock rest six twelve = rest ∷ rest ∷ rest ∷ rest ∷ rest ∷ rest ∷ six ∷ rest ∷ rest ∷ rest ∷ rest ∷ rest ∷ twelve ∷ rest ∷ rest ∷ rest ∷ []

-- the zones of a page and whether they are here, its numbers, and whether more follows
abbrev feed : List ℕ → Scope → List Commit → List Commit → List ℕ → ℕ → List (List ℕ × Bool) × List ℕ × Bool
feed u scope six twelve numbers k =
    let p = feed_page u scope (by_lock [] six twelve) numbers k in
    (map (λ (z : ChangedZone). ((z.key).zone, z.here)) p.zones, p.numbers, p.more)

-- ---- the first zone

pub first_zone_is_listed : feed ann Private made [] (by_lock 0 0 0) 1 ≡ ((codes "Notes", true) ∷ [], by_lock 0 1 0, false)
unfolding digits
first_zone_is_listed = refl

pub nothing_new_is_listed : feed ann Private made [] (by_lock 0 1 0) 1 ≡ ([], by_lock 0 1 0, false)
unfolding digits
nothing_new_is_listed = refl

-- ---- two zones at two locks

abbrev lists_made : List Commit
lists_made = act_at lists MakeZone ∷ []

pub both_are_listed : feed ann Private made lists_made (by_lock 0 0 0) 2 ≡ ((codes "Notes", true) ∷ (codes "Lists", true) ∷ [], by_lock 0 1 1, false)
unfolding digits
both_are_listed = refl

-- nothing is left of the limit for the second: its number stays, and more follows
pub limit_is_used_up : feed ann Private made lists_made (by_lock 0 0 0) 1 ≡ ((codes "Notes", true) ∷ [], by_lock 0 1 0, true)
unfolding digits
limit_is_used_up = refl

pub second_follows : feed ann Private made lists_made (by_lock 0 1 0) 1 ≡ ((codes "Lists", true) ∷ [], by_lock 0 1 1, false)
unfolding digits
second_follows = refl

-- ---- a zone that was removed

abbrev lists_removed : List Commit
lists_removed = lists_made ++ act_at lists DropZone ∷ []

pub removed_is_listed_once : feed ann Private made lists_removed (by_lock 0 0 0) 200 ≡ ((codes "Notes", true) ∷ (codes "Lists", false) ∷ [], by_lock 0 1 2, false)
unfolding digits
removed_is_listed_once = refl

pub lists_removed_is_lawful : are_lawful [] lists_removed ≡ true
unfolding digits
lists_removed_is_lawful = refl

-- ---- revocation

pub lost_zone_is_listed_once : feed bob Shared revoked [] (by_lock 0 0 0) 200 ≡ ((codes "Notes", false) ∷ [], by_lock 0 2 0, false)
unfolding digits
lost_zone_is_listed_once = refl

-- ann's own zones are none of bob's
pub others_zones_are_not_listed : feed bob Private revoked lists_made (by_lock 0 0 0) 200 ≡ ([], by_lock 0 0 0, false)
unfolding digits
others_zones_are_not_listed = refl
