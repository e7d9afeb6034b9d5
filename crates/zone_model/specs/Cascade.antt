-- The cascade of removals: the least set of names that is closed under its rules.
use Rattle.std.specs.Prelude.{◌≡◌, ℕ, zero, suc, Bool, true, not, ◌||◌, ◌&&◌, List, [], filter, length}
use Rattle.std.specs.List.{list_any}
use Rattle.record_model.specs.declared.records.Record.{Record}
use Rattle.zone_model.specs.Names.{is_in}
use Rattle.name_rules.specs.Options.{is_some_and}
use Rattle.zone_model.specs.Records.{names_in}
use Rattle.zone_model.specs.References.{goes_with}
use Rattle.zone_model.specs.Ancestry.{is_ancestor}
use Rattle.zone_model.specs.Working.{is_share_of}

-- the records of the whole zone, and the names that deletions take
module _ (rows : List Record) (taken : List (List ℕ)) where
  -- The removed name a takes r along: r is to be deleted with a, r stands below a and no deletion takes a, or r is the share of a.
  abbrev pub takes_along : List ℕ → Record → Bool
  takes_along a r = goes_with a r || ((not (is_in taken a) && is_some_and (is_ancestor rows a) r.parent) || is_share_of a r)

  -- a deletion takes the record, or one of these removed names takes it along
  abbrev pub is_due : List (List ℕ) → Record → Bool
  is_due removed r = is_in taken r.name || list_any (λ a. takes_along a r) removed

  abbrev pub due : List (List ℕ) → List (List ℕ)
  due removed = names_in (filter (is_due removed) rows)

  -- whatever is due is among the names
  abbrev pub IsClosed : List (List ℕ) → Type 0
  IsClosed names = (x : List ℕ) → is_in (due names) x ≡ true → is_in names x ≡ true

  -- the names that n rounds of the rules reach
  abbrev pub reached : ℕ → List (List ℕ)
  reached zero = []
  reached (suc n) = due (reached n)

  -- each round but the last reaches one name more, so as many rounds as there are records are enough
  abbrev pub removed_names : List (List ℕ)
  removed_names = reached (length rows)

  -- the names are closed, and within all that are
  pub record IsLeast (names : List (List ℕ)) : Type 0 where
    pub closed : IsClosed names
    pub least : (others : List (List ℕ)) → IsClosed others → (x : List ℕ) → is_in names x ≡ true → is_in others x ≡ true
