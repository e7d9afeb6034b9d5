-- A page of changes.
use Rattle.std.specs.Prelude.{ℕ, List, map}
use Rattle.std.specs.Option.{option_map_or}
use Rattle.name_rules.specs.Choices.{Choice, choice}
use Rattle.record_model.specs.declared.records.Record.{Record}
use Rattle.record_model.specs.declared.view.View.{View}
use Rattle.zone_model.specs.declared.pages.Item.{Item}
use Rattle.zone_model.specs.declared.pages.Item.TheVariants.{There, Gone}
use Rattle.zone_model.specs.declared.pages.ZonePage.{ZonePage}
use Rattle.zone_model.specs.Names.{same}
use Rattle.zone_model.specs.Records.{record_at}
use Rattle.zone_model.specs.Views.{last_view}
use Rattle.zone_model.specs.Entries.{entries}

-- the name's record, or that it has none
abbrev pub item_at : List Record → List ℕ → Item
item_at rows x = option_map_or There (record_at rows x) (Gone x)

abbrev pub page_from : List Record → Choice (List ℕ) → ZonePage
page_from rows c = record { items = map (item_at rows) c.names; number = c.number; more = c.more }

-- the page above n with at most k items, of a viewer with these views
abbrev pub page : List View → ℕ → ℕ → ZonePage
page vs n k = page_from (last_view vs).rows (choice same (entries vs) n k)
