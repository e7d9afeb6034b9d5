-- That an ask leaves the history of its lock legal.
use Rattle.std.specs.Prelude.{◌≡◌, ◌<◌, ◌≤◌, ◌^◌, ℕ, true, List, ◌++◌, ⊤}
use Rattle.std.specs.List.{AllByRecursion}
use Rattle.ck_base.specs.Names.{IsName, lock_of_names}
use Rattle.ck_base.specs.declared.key.ZoneKey.{ZoneKey}
use Rattle.zone_model.specs.declared.operations.Op.{Op}
use Rattle.zone_model.specs.declared.events.Event.{Event}
use Rattle.zone_model.specs.Form.{IsKey}
use Rattle.zone_model.specs.OpForms.{AreMeantOps}
use Rattle.zone_model.specs.Events.{log_of}
use Rattle.zone_model.specs.Legal.{faults_told, has_risen, IsLegal}
use Rattle.zone_laws.specs.Laws.{HaveRoom, HasFewWrites}
use Rattle.board_model.specs.declared.parts.Part.{Part}
use Rattle.board_model.specs.declared.parts.Part.TheVariants.{Modify, Lookup}
use Rattle.board_model.specs.Asks.{stored, failed, commits_by, made}
use Rattle.board_model.specs.Parts.{MayBeAsked}
use Rattle.board_laws.specs.Sighted.{key_of}

-- a modify as requests give it: of a zone of the lock, by a user and at a moment in their forms, with operations that a request may have
pub record IsGivenModify (lock : ℕ) (user : List ℕ) (key : ZoneKey) (ops : List Op) (moment : ℕ) : Type 0 where
  pub of_lock : lock_of_names key.owner key.zone ≡ lock
  pub named : IsKey key
  pub by_user : IsName user
  pub meant : AreMeantOps ops
  pub in_time : moment < 2 ^ 64

-- the parts that the rules let a lock be asked, in any scope and with any words; a lookup makes nothing, so of it nothing is asked
abbrev pub IsByRules : ℕ → Part → Type 0
IsByRules lock (Modify user scope key atomic ops moment words) = IsGivenModify lock user key ops moment
IsByRules lock (Lookup user scope key names) = ⊤

-- with what the part makes, no count of puts and no number of writes passes its range
pub record HasRoom (lock : ℕ) (events : List Event) (part : Part) : Type 0 where
  pub puts : HaveRoom (log_of events) (key_of part) (commits_by lock events part)
  pub writes : AllByRecursion HasFewWrites (commits_by lock events part)

-- What an ask makes leaves a legal history legal: commits, where the part is by the rules and has room; and a fault of the store, where its count
-- rose, from no less than the history tells. The parts that are built are by the rules.
pub record AsksStayLegal : Type 0 where
  pub commits : (lock seat : ℕ) (events : List Event) (part : Part) → IsLegal lock events → IsByRules lock part → HasRoom lock events part
      → IsLegal lock (events ++ made stored lock seat events part)
  pub faults : (from to lock seat : ℕ) (events : List Event) (part : Part) → IsLegal lock events → faults_told events ≤ from → has_risen from to ≡ true
      → IsLegal lock (events ++ made (failed from to) lock seat events part)
  pub built : (lock : ℕ) (part : Part) → MayBeAsked lock part → IsByRules lock part
