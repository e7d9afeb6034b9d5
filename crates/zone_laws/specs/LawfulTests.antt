-- Tests of what may follow, and that they decide it: with them worked examples compute.
use Rattle.std.specs.Prelude.{◌≡◌, ℕ, suc, Bool, true, not, ◌&&◌, ◌==◌, nat_lt, nat_le, List, [], ◌∷◌, ◌++◌, length, is_none}
use Rattle.std.specs.List.{list_any, list_all, AllByRecursion}
use Rattle.ck_base.specs.Names.{lock_of_names}
use Rattle.ck_base.specs.declared.key.ZoneKey.{ZoneKey}
use Rattle.share_records.specs.declared.share.Share.{Share as ShareOf}
use Rattle.record_model.specs.declared.records.Record.{Record}
use Rattle.record_model.specs.declared.subscription.Subscription.{Subscription}
use Rattle.record_model.specs.RecordSizes.{size_of_record}
use Rattle.zone_model.specs.declared.commits.Write.{Write}
use Rattle.zone_model.specs.declared.commits.Write.TheVariants.{Put, Remove, PutRemove}
use Rattle.zone_model.specs.declared.commits.Act.{Act}
use Rattle.zone_model.specs.declared.commits.Act.TheVariants.{Writes, MakeZone, DropZone, SetSubscription, DropSubscription}
use Rattle.zone_model.specs.declared.commits.Commit.{Commit}
use Rattle.zone_model.specs.declared.events.Event.{Event}
use Rattle.zone_model.specs.declared.events.Event.TheVariants.{Made, StoreFailed}
use Rattle.zone_model.specs.Limits.{most_participants, most_record_size, most_items}
use Rattle.zone_model.specs.Names.{same, same_option, is_default}
use Rattle.name_rules.specs.Options.{is_some_and, is_none_or}
use Rattle.zone_model.specs.Records.{record_at, is_there, share_of, is_share}
use Rattle.zone_model.specs.Zones.{Zone, zone_at, puts_at, after_act}
use Rattle.zone_model.specs.Subscriptions.{subscriptions_at, is_subscription}
use Rattle.zone_model.specs.Ancestry.{is_ancestor}
use Rattle.zone_model.specs.Working.{is_share_of}
use Rattle.zone_model.specs.Form.{IsInForm}
use Rattle.zone_model.specs.Events.{origin_of, commits_of, log_of, own}
use Rattle.zone_model.specs.Lawful.{FitTogether, MayFollow, MayFollowInTurn}
use Rattle.zone_model.specs.Legal.{faults_told, has_risen, IsLegalEvent, IsLegal}

-- ---- records that fit together

-- the name has a record that is no share
abbrev pub is_plain : List Record → List ℕ → Bool
is_plain rows x = is_some_and (λ (r : Record). not (is_share r)) (record_at rows x)

-- a parent is there, is no share, and doesn't stand at or below its child
abbrev pub has_good_parent : List Record → Record → Bool
has_good_parent rows r = is_none_or (λ p. is_plain rows p && not (is_ancestor rows r.name p)) r.parent

-- a root names its share
abbrev pub is_marked_with : List ℕ → Record → Bool
is_marked_with x root = is_some_and (same x) root.share

-- a share has no parent, and a root that is no share and names it
abbrev pub has_good_root : List Record → Record → Bool
has_good_root rows r = is_none_or (λ (s : ShareOf). is_none r.parent && (is_plain rows s.root && is_some_and (is_marked_with r.name) (record_at rows s.root))) (share_of r)

-- the share that a record names has it as its root
abbrev pub has_good_mark : List Record → Record → Bool
has_good_mark rows r = is_none_or (λ x. is_some_and (is_share_of r.name) (record_at rows x)) r.share

-- no size and no count passes its limit
abbrev pub is_within_limits : Record → Bool
is_within_limits r = nat_le (size_of_record r) most_record_size && is_none_or (λ (s : ShareOf). nat_le (length s.participants) most_participants) (share_of r)

abbrev pub fits_in : List Record → Record → Bool
fits_in rows r = has_good_parent rows r && (has_good_root rows r && (has_good_mark rows r && is_within_limits r))

abbrev pub are_well_formed : List Record → Bool
are_well_formed rows = list_all (fits_in rows) rows

-- ---- commits

-- a put has the next tag
abbrev pub has_next_tag : (List ℕ → ℕ) → Write → Bool
has_next_tag puts (Put r) = r.tag == suc (puts r.name)
has_next_tag puts _ = true

-- a put keeps the parent of a record that is there, and a name that is only removed is there
abbrev pub has_its_place : List Record → Write → Bool
has_its_place rows (Put r) = is_none_or (λ (old : Record). same_option r.parent old.parent) (record_at rows r.name)
has_its_place rows (Remove x) = is_there rows x
has_its_place rows (PutRemove x) = true

abbrev pub is_lawful_write : List Record → (List ℕ → ℕ) → Write → Bool
is_lawful_write rows puts w = has_next_tag puts w && has_its_place rows w

-- Writes stand where the zone is there and leave records that fit together. A zone is made where it is not there,
-- and removed where it is and is no default zone. A subscription is dropped where it is there.
abbrev pub is_lawful_act : Zone → (List ℕ → ℕ) → List Subscription → ZoneKey → Act → Bool
is_lawful_act z puts subs key (Writes ws) = z.there && (list_all (is_lawful_write z.rows puts) ws && are_well_formed (after_act z (Writes ws)).rows)
is_lawful_act z puts subs key MakeZone = not z.there
is_lawful_act z puts subs key DropZone = z.there && not (is_default key)
is_lawful_act z puts subs key (SetSubscription s) = true
is_lawful_act z puts subs key (DropSubscription scope id) = list_any (is_subscription scope id) subs

-- a commit in its form may follow the log
abbrev pub is_lawful : List Commit → Commit → Bool
is_lawful log c = is_lawful_act (zone_at log c.key) (puts_at log c.key) (subscriptions_at log c.key) c.key c.act

-- each of the list passes after those before it
abbrev pub each_passes : {X : Type 0} → (List X → X → Bool) → List X → List X → Bool
each_passes test before [] = true
each_passes test before (x ∷ xs) = test before x && each_passes test (before ++ x ∷ []) xs

-- each of the commits may follow the log and those before it
abbrev pub are_lawful : List Commit → List Commit → Bool
are_lawful log cs = each_passes is_lawful log cs

-- ---- events

abbrev pub are_of_lock : ℕ → List Commit → Bool
are_of_lock lock cs = list_all (λ (c : Commit). lock_of_names c.key.owner c.key.zone == lock) cs

-- at least one commit and at most one for each operation of a request, all of the lock, each of which may follow the log and those before it
abbrev pub are_legal_commits : ℕ → List Commit → List Commit → Bool
are_legal_commits lock log cs = nat_lt 0 (length cs) && (nat_le (length cs) most_items && (are_of_lock lock cs && are_lawful log cs))

-- what the event tells may follow those before it: legal commits, or a count that rose and that has not fallen since the last fault
abbrev pub is_allowed : ℕ → List Event → Event → Bool
is_allowed lock before (Made origin commits) = are_legal_commits lock (log_of before) commits
is_allowed lock before (StoreFailed origin from to) = nat_le (faults_told before) from && has_risen from to

-- the event may follow those before it: it is the next of its seat, and what it tells may follow
abbrev pub is_legal_event : ℕ → List Event → Event → Bool
is_legal_event lock before e = ((origin_of e).count == suc (length (own (origin_of e).seat before))) && is_allowed lock before e

-- each event of the history of a lock may follow those before it
abbrev pub is_legal : ℕ → List Event → Bool
is_legal lock events = each_passes (is_legal_event lock) [] events

-- ---- what they decide

-- Just where a test passes what it tests is so. Of events the form of their commits is left to another test.
pub record TestsDecide : Type 0 where
  pub fitting : (rows : List Record) → are_well_formed rows ≡ true → FitTogether rows
  pub fitting_back : (rows : List Record) → FitTogether rows → are_well_formed rows ≡ true
  pub one : (log : List Commit) (c : Commit) → is_lawful log c ≡ true → MayFollow log c
  pub one_back : (log : List Commit) (c : Commit) → MayFollow log c → is_lawful log c ≡ true
  pub each : (log cs : List Commit) → are_lawful log cs ≡ true → MayFollowInTurn log cs
  pub each_back : (log cs : List Commit) → MayFollowInTurn log cs → are_lawful log cs ≡ true
  pub event : (lock : ℕ) (before : List Event) (e : Event) → is_legal_event lock before e ≡ true → AllByRecursion IsInForm (commits_of e) → IsLegalEvent lock before e
  pub event_back : (lock : ℕ) (before : List Event) (e : Event) → IsLegalEvent lock before e → is_legal_event lock before e ≡ true
  pub history : (lock : ℕ) (events : List Event) → is_legal lock events ≡ true → AllByRecursion IsInForm (log_of events) → IsLegal lock events
  pub history_back : (lock : ℕ) (events : List Event) → IsLegal lock events → is_legal lock events ≡ true
  pub formed : (lock : ℕ) (events : List Event) → IsLegal lock events → AllByRecursion IsInForm (log_of events)
