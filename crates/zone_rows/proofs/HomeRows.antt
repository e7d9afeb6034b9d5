-- A default zone is no part of the feed of zones, at worked examples.
use Rattle.std.proofs.Common.{◌≡◌, List, [], ◌∷◌, ◌++◌, refl, true, false}
use Rattle.std.specs.Prelude.{codes}
use Rattle.std.specs.Fmt.{digits}
use Rattle.ck_base.specs.Names.{lock_of_names}
use Rattle.ck_base.specs.KnownNames.{own_default}
use Rattle.ck_base.specs.declared.key.ZoneKey.{ZoneKey}
use Rattle.ck_base.specs.declared.scope.Scope.TheVariants.{Private, Shared}
use Rattle.zone_model.specs.declared.commits.Act.TheVariants.{MakeZone}
use Rattle.zone_model.specs.declared.commits.Commit.{Commit}
use Rattle.zone_model.specs.Views.{view_of}
use Rattle.zone_model.specs.ZoneFeed.{feed_page}
use Rattle.zone_model.specs.Modifying.{modified}
use Rattle.zone_laws.specs.LawfulTests.{are_lawful}
use Rattle.zone_rows.proofs.RowWords.{ann, bob, create, update, act_at, tags, feed_of}
use Rattle.zone_rows.proofs.RowRecords.{a}

abbrev home : ZoneKey
home = own_default ann

-- a is made and changed in ann's default zone
abbrev at_home : List Commit
at_home = (modified (record { user = ann; scope = Private; key = home }) 1000 [] false (create a ∷ update a 1 ∷ [])).commits

pub at_home_is_lawful : are_lawful [] at_home ≡ true
unfolding digits
at_home_is_lawful = refl

pub it_is_there : tags (view_of at_home ann Private home).rows ≡ (a, 2) ∷ []
unfolding digits
it_is_there = refl

pub it_is_not_noticed : feed_of at_home ann Private 0 200 ≡ ([], 0, false)
unfolding digits
it_is_not_noticed = refl

pub nor_by_others : feed_of at_home bob Shared 0 200 ≡ ([], 0, false)
unfolding digits
nor_by_others = refl

-- ---- over all locks

pub lock_of_home : lock_of_names home.owner home.zone ≡ 13
lock_of_home = refl

-- one thing for each of the 16 locks, another than the rest at that one
abbrev by_lock : {A : Type 0} → A → A → List A
by_lock rest thirteen = rest ∷ rest ∷ rest ∷ rest ∷ rest ∷ rest ∷ rest ∷ rest ∷ rest ∷ rest ∷ rest ∷ rest ∷ rest ∷ thirteen ∷ rest ∷ rest ∷ []

pub no_lock_lists_it : feed_page ann Private (by_lock [] at_home) (by_lock 0 0) 200 ≡ record { zones = []; numbers = by_lock 0 0; more = false }
unfolding digits
no_lock_lists_it = refl

-- ---- beside another zone of its lock

abbrev rooms : ZoneKey
rooms = record { owner = ann; zone = codes "Rooms" }

abbrev both : List Commit
both = at_home ++ act_at rooms MakeZone ∷ []

pub both_are_lawful : are_lawful [] both ≡ true
unfolding digits
both_are_lawful = refl

pub the_other_is_the_first_entry : feed_of both ann Private 0 200 ≡ (codes "Rooms" ∷ [], 1, false)
unfolding digits
the_other_is_the_first_entry = refl
