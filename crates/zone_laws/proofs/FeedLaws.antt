-- Pages of the feed of zones: they keep their limit, go on, and lose no zone.
use Rattle.std.proofs.Common.{◌≡◌, ℕ, ◌≤◌, List, [], ◌∷◌, Bool, true, false, ◌||◌, refl, ap, ◌∙◌, arith, length, length-append, map}
use Rattle.std.specs.Prelude.{flat_map, ◌-◌}
use Rattle.std.specs.List.{list_any}
use Rattle.std.proofs.lemmas.List.{length-map}
use Rattle.ck_base.specs.declared.scope.Scope.{Scope}
use Rattle.zone_model.specs.declared.commits.Commit.{Commit}
use Rattle.zone_model.specs.Names.{same_key}
use Rattle.name_rules.specs.Choices.{choice}
use Rattle.zone_model.specs.ZoneEntries.{zone_entries}
use Rattle.zone_model.specs.ZoneFeed.{LockPage, changed_zone, lock_page, lock_pages}
use Rattle.zone_laws.proofs.FormedLaws.{key-true}
use Rattle.name_rules.proofs.ChoiceLemmas.{chosen_within, chosen_all, chosen_onward, chosen_kept}
use Rattle.zone_laws.specs.Laws.{FeedsLoseNothing}

none_of_either : (a b : Bool) → (a || b) ≡ false → (a ≡ false) × (b ≡ false)
none_of_either false b e = (refl, e)
none_of_either true b e = absurd (cc)

module _ (u : List ℕ) (scope : Scope) where
  lock_within : (log : List Commit) (n k : ℕ) → length (lock_page u scope log n k).zones ≤ k
  lock_within log n k =
      let c = choice same_key (zone_entries log u scope) n k in
      omega (arith, length-map c.names (changed_zone u scope log), chosen_within same_key key-true (zone_entries log u scope) n k)

  pages_within : (logs : List (List Commit)) (ns : List ℕ) (k : ℕ) → length (flat_map (λ (p : LockPage). p.zones) (lock_pages u scope logs ns k)) ≤ k
  pages_within [] ns k = omega arith
  pages_within (log ∷ logs) [] k = omega arith
  pages_within (log ∷ logs) (n ∷ ns) k =
      let zones = (lock_page u scope log n k).zones in
      omega (
        arith,
        lock_within log n k,
        pages_within logs ns (k - length zones),
        length-append zones (flat_map (λ (p : LockPage). p.zones) (lock_pages u scope logs ns (k - length zones))),
      )

  lock_whole : (log : List Commit) (n k : ℕ) → (lock_page u scope log n k).more ≡ false → (lock_page u scope log n k).number ≡ length (zone_entries log u scope)
  lock_whole log n k none = chosen_all same_key key-true (zone_entries log u scope) n k none

  pages_whole : (logs : List (List Commit)) (ns : List ℕ) (k : ℕ) → length ns ≡ length logs → list_any (λ (p : LockPage). p.more) (lock_pages u scope logs ns k) ≡ false
      → map (λ (p : LockPage). p.number) (lock_pages u scope logs ns k) ≡ map (λ log. length (zone_entries log u scope)) logs
  pages_whole [] ns k same none = refl
  pages_whole (log ∷ logs) [] k same none = absurd (omega (arith, same))
  pages_whole (log ∷ logs) (n ∷ ns) k same none =
      let page = lock_page u scope log n k in
      let left = k - length page.zones in
      let parts = none_of_either page.more (list_any (λ (p : LockPage). p.more) (lock_pages u scope logs ns left)) none in
      ap (λ (m : ℕ). m ∷ map (λ (p : LockPage). p.number) (lock_pages u scope logs ns left)) (lock_whole log n k parts.0)
      ∙ ap (λ (ms : List ℕ). length (zone_entries log u scope) ∷ ms) (pages_whole logs ns left (omega (arith, same)) parts.1)

pub feeds_lose_nothing : FeedsLoseNothing
feeds_lose_nothing = record {
  limit = λ u scope logs ns k. pages_within u scope logs ns k;
  whole = λ u scope logs ns k same none. pages_whole u scope logs ns k same none;
  kept = λ log u scope n k key has. chosen_kept same_key key-true (zone_entries log u scope) n k key has;
  onward = λ log u scope n k some more. chosen_onward same_key key-true (zone_entries log u scope) n k some more;
}
