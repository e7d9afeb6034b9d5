-- A zone that is not there holds nothing, and a default zone is always there.
use Rattle.std.proofs.Common.{◌≡◌, List, [], Bool, true, false, not, refl, sym, ap, ◌∙◌, subst}
use Rattle.std.specs.Prelude.{if◌then◌else◌}
use Rattle.std.proofs.lemmas.Bool.{both_ways, and_parts}
use Rattle.ck_base.specs.declared.key.ZoneKey.{ZoneKey}
use Rattle.zone_model.specs.declared.commits.Act.{Act}
use Rattle.zone_model.specs.declared.commits.Act.TheVariants.{Writes, MakeZone, DropZone, SetSubscription, DropSubscription}
use Rattle.zone_model.specs.declared.commits.Commit.{Commit}
use Rattle.zone_model.specs.Names.{same_key, is_default}
use Rattle.zone_model.specs.Zones.{Zone, zone_at, after_act, puts_at}
use Rattle.zone_model.specs.Subscriptions.{subscriptions_at}
use Rattle.zone_laws.specs.LawfulTests.{is_lawful_act, is_lawful, are_lawful}
use Rattle.zone_laws.proofs.LogLaws.{zone-snoc}
use Rattle.zone_laws.proofs.EntryLaws.{Grown, empty, one_more, grown}
use Rattle.zone_laws.proofs.FormedLaws.{lawful-parts, key-true}

-- a zone that is not there holds nothing
abbrev pub IsBareWhereGone : Zone → Type 0
IsBareWhereGone z = z.there ≡ false → z.rows ≡ []

bare_act : (log : List Commit) (c : Commit) (a : Act) → is_lawful_act (zone_at log c.key) (puts_at log c.key) (subscriptions_at log c.key) c.key a ≡ true → IsBareWhereGone (zone_at log c.key) → IsBareWhereGone (after_act (zone_at log c.key) a)
bare_act log c (Writes ws) lawful bare gone = absurd (both_ways (zone_at log c.key).there gone (and_parts (zone_at log c.key).there _ lawful).0)
bare_act log c MakeZone lawful bare gone = absurd (both_ways true gone refl)
bare_act log c DropZone lawful bare gone = refl
bare_act log c (SetSubscription s) lawful bare gone = bare gone
bare_act log c (DropSubscription scope id) lawful bare gone = bare gone

bare_step : (b : Bool) (log : List Commit) (c : Commit) (key : ZoneKey) → same_key key c.key ≡ b → is_lawful log c ≡ true → ((k : ZoneKey) → IsBareWhereGone (zone_at log k))
    → IsBareWhereGone (if b then after_act (zone_at log key) c.act else zone_at log key)
bare_step true log c key is lawful bare = subst (λ k. IsBareWhereGone (after_act (zone_at log k) c.act)) (sym (key-true key c.key is)) (bare_act log c c.act lawful (bare c.key))
bare_step false log c key is lawful bare = bare key

bare_grown : (log : List Commit) → Grown log → are_lawful [] log ≡ true → (key : ZoneKey) → IsBareWhereGone (zone_at log key)
bare_grown _ empty lawful key = λ gone. refl
bare_grown _ (one_more log c before) lawful key =
    let parts = lawful-parts [] log c lawful in
    subst IsBareWhereGone (sym (zone-snoc log c key)) (bare_step (same_key key c.key) log c key refl parts.1 (bare_grown log before parts.0))

pub bare-zone : (log : List Commit) (key : ZoneKey) → are_lawful [] log ≡ true → IsBareWhereGone (zone_at log key)
bare-zone log key lawful = bare_grown log (grown log) lawful key

-- ---- default zones

home_act : (log : List Commit) (c : Commit) (a : Act) → is_lawful_act (zone_at log c.key) (puts_at log c.key) (subscriptions_at log c.key) c.key a ≡ true
    → is_default c.key ≡ true → (zone_at log c.key).there ≡ true → (after_act (zone_at log c.key) a).there ≡ true
home_act log c (Writes ws) lawful default there = there
home_act log c MakeZone lawful default there = refl
home_act log c DropZone lawful default there = absurd (both_ways false refl (sym (ap not default) ∙ (and_parts (zone_at log c.key).there _ lawful).1))
home_act log c (SetSubscription s) lawful default there = there
home_act log c (DropSubscription scope id) lawful default there = there

home_step : (b : Bool) (log : List Commit) (c : Commit) (key : ZoneKey) → same_key key c.key ≡ b → is_lawful log c ≡ true → is_default key ≡ true
    → (zone_at log key).there ≡ true → (if b then after_act (zone_at log key) c.act else zone_at log key).there ≡ true
home_step true log c key is lawful default there =
    let one : c.key ≡ key = sym (key-true key c.key is) in
    subst (λ k. (after_act (zone_at log k) c.act).there ≡ true) one
    (home_act log c c.act lawful (subst (λ k. is_default k ≡ true) (sym one) default) (subst (λ k. (zone_at log k).there ≡ true) (sym one) there))
home_step false log c key is lawful default there = there

home_grown : (log : List Commit) → Grown log → are_lawful [] log ≡ true → (key : ZoneKey) → is_default key ≡ true → (zone_at log key).there ≡ true
home_grown _ empty lawful key default = default
home_grown _ (one_more log c before) lawful key default =
    let parts = lawful-parts [] log c lawful in
    ap (λ (z : Zone). z.there) (zone-snoc log c key) ∙ home_step (same_key key c.key) log c key refl parts.1 default (home_grown log before parts.0 key default)

pub home-there : (log : List Commit) (key : ZoneKey) → are_lawful [] log ≡ true → is_default key ≡ true → (zone_at log key).there ≡ true
home-there log key lawful = home_grown log (grown log) lawful key
