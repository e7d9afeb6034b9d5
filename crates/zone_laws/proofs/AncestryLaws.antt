-- Ancestry and coverage over records, by their names and parents.
use Rattle.std.proofs.Common.{◌≡◌, ℕ, List, [], ◌∷◌, Bool, true, false, cond, ◌||◌, refl, ap, ◌∙◌, Some, None, Option}
use Rattle.std.specs.Prelude.{option_and_then}
use Rattle.std.specs.List.{list_any, cons_option}
use Rattle.name_rules.specs.Names.{same}
use Rattle.name_rules.specs.Options.{is_some_and}
use Rattle.name_rules.proofs.ParentLemmas.{is_above_from, is_above_gives}
use Rattle.share_records.specs.declared.permission.Permission.{Permission}
use Rattle.share_records.specs.declared.share.Share.{Share as ShareOf}
use Rattle.share_records.specs.Covering.{reaches, gives_at}
use Rattle.record_model.specs.declared.records.Record.{Record}
use Rattle.zone_model.specs.Records.{record_at, share_of}
use Rattle.zone_model.specs.Ancestry.{links_of, parent_at, IsAncestor, is_ancestor}
use Rattle.zone_model.specs.Coverage.{shares_in}

-- the test and the relation say the same
pub is_ancestor_from : (z : List Record) (a x : List ℕ) → IsAncestor z a x → is_ancestor z a x ≡ true
is_ancestor_from z a x above = is_above_from (links_of z) a x above

pub is_ancestor_gives : (z : List Record) (a x : List ℕ) → is_ancestor z a x ≡ true → IsAncestor z a x
is_ancestor_gives z a x e = is_above_gives (links_of z) a x e

-- ---- the parent of a name is that of its record

parent_step : (s : Bool) (r : Record) (o : Option (List ℕ × Option (List ℕ))) (w : Option Record) → option_and_then (λ (l : List ℕ × Option (List ℕ)). l.1) o ≡ option_and_then (λ (t : Record). t.parent) w
    → option_and_then (λ (l : List ℕ × Option (List ℕ)). l.1) (cond s (Some (r.name, r.parent)) o) ≡ option_and_then (λ (t : Record). t.parent) (cond s (Some r) w)
parent_step true r o w ih = refl
parent_step false r o w ih = ih

pub parent_of-record : (z : List Record) (x : List ℕ) → parent_at z x ≡ option_and_then (λ (r : Record). r.parent) (record_at z x)
parent_of-record [] x = refl
parent_of-record (r ∷ z) x = parent_step (same x r.name) r _ (record_at z x) (parent_of-record z x)

-- ---- a share of the zone is that of some record

abbrev pub record_reaches : List Record → Permission → List ℕ → List ℕ → Record → Bool
record_reaches z least u x r = is_some_and (reaches (links_of z) least u x) (share_of r)

any_share : (p : ShareOf → Bool) (o : Option ShareOf) (ss : List ShareOf) → list_any p (cons_option o ss) ≡ (is_some_and p o || list_any p ss)
any_share p None ss = refl
any_share p (Some s) ss = refl

any_shares : (p : ShareOf → Bool) (z : List Record) → list_any p (shares_in z) ≡ list_any (λ (r : Record). is_some_and p (share_of r)) z
any_shares p [] = refl
any_shares p (r ∷ z) = any_share p (share_of r) (shares_in z) ∙ ap (λ b. is_some_and p (share_of r) || b) (any_shares p z)

pub gives_at-records : (z : List Record) (least : Permission) (u x : List ℕ) → gives_at (links_of z) (shares_in z) least u x ≡ list_any (record_reaches z least u x) z
gives_at-records z least u x = any_shares (reaches (links_of z) least u x) z
