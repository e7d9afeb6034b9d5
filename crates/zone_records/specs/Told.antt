-- What is told of a zone, and which commits leave it.
use Rattle.std.specs.Prelude.{◌≡◌, ◌+◌, ℕ, List, [], unwrap_or, if◌then◌else◌}
use Rattle.std.specs.Map.{lookup}
use Rattle.ck_base.specs.declared.key.ZoneKey.{ZoneKey}
use Rattle.record_model.specs.declared.subscription.Subscription.{Subscription}
use Rattle.zone_model.specs.declared.commits.Commit.{Commit}
use Rattle.zone_model.specs.Names.{same}
use Rattle.zone_model.specs.Zones.{Zone, zone_at, first_zone, after_act, act_puts, puts_at}
use Rattle.zone_model.specs.Subscriptions.{subscriptions_at, subscriptions_after}
use Rattle.zone_model.specs.Histories.{EachAfter}
use Rattle.zone_model.specs.Lawful.{IsLawful}

-- a zone, its subscriptions, and names with how many commits have put them
pub record Told : Type 0 where
  pub key : ZoneKey
  pub zone : Zone
  pub subscriptions : List Subscription
  pub counts : List (List ℕ × ℕ)

-- how many commits have put the name
abbrev pub puts_told : Told → List ℕ → ℕ
puts_told t x = unwrap_or (lookup (same x) t.counts) 0

-- what is told of a zone without commits
abbrev pub told_first : ZoneKey → Told
told_first key = record { key = key; zone = first_zone key; subscriptions = []; counts = [] }

-- the commits of the log leave what is told
pub record IsLeftBy (log : List Commit) (t : Told) : Type 0 where
  pub zone : zone_at log t.key ≡ t.zone
  pub subscriptions : subscriptions_at log t.key ≡ t.subscriptions
  pub puts : (x : List ℕ) → puts_at log t.key x ≡ puts_told t x

-- some list of lawful commits leaves what is told
pub record IsLeft (t : Told) : Type 0 where
  pub log : List Commit
  pub lawful : EachAfter IsLawful log
  pub left : IsLeftBy log t

-- a list of lawful commits leaves what is told, and the commit is lawful after it and of the same zone
pub record MayBeNext (t : Told) (c : Commit) : Type 0 where
  pub log : List Commit
  pub lawful : EachAfter IsLawful log
  pub left : IsLeftBy log t
  pub next : IsLawful log c
  pub same_zone : c.key ≡ t.key

-- t is told after the commit, where s was told before it
pub record Follows (s : Told) (c : Commit) (t : Told) : Type 0 where
  pub key : t.key ≡ s.key
  pub zone : t.zone ≡ after_act s.zone c.act
  pub subscriptions : t.subscriptions ≡ subscriptions_after s.subscriptions c.act
  pub puts : (x : List ℕ) → puts_told t x ≡ puts_told s x + (if act_puts x c.act then 1 else 0)
