-- Copies of what a viewer sees, and what a page makes of them.
use Rattle.std.specs.Prelude.{◌≡◌, ◌≤◌, ℕ, false, List, [], ◌∷◌, length, drop, Option, Some, None, if◌then◌else◌}
use Rattle.record_model.specs.declared.records.Record.{Record}
use Rattle.record_model.specs.declared.view.View.{View}
use Rattle.zone_model.specs.declared.pages.Item.{Item}
use Rattle.zone_model.specs.declared.pages.Item.TheVariants.{There, Gone}
use Rattle.zone_model.specs.Names.{same, is_in}
use Rattle.zone_model.specs.Records.{record_at}
use Rattle.zone_model.specs.Views.{last_view}
use Rattle.zone_model.specs.Entries.{entries}

-- for each name a record or none
abbrev pub Copy : Type 0
Copy = List ℕ → Option Record

-- The copy is in step with n: for each name without an entry above n it has what the last view has.
pub record IsInStep (copy : Copy) (n : ℕ) (vs : List View) : Type 0 where
  pub within : n ≤ length (entries vs)
  pub each : (x : List ℕ) → is_in (drop n (entries vs)) x ≡ false → copy x ≡ record_at (last_view vs).rows x

abbrev pub with_item : Copy → Item → Copy
with_item copy (There r) x = if same x r.name then Some r else copy x
with_item copy (Gone y) x = if same x y then None else copy x

-- the copy after the items of a page
abbrev pub fold_page : Copy → List Item → Copy
fold_page copy [] = copy
fold_page copy (i ∷ is) = fold_page (with_item copy i) is
