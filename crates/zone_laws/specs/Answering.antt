-- What a request is answered, and what it commits.
use Rattle.std.specs.Prelude.{◌≡◌, ◌≤◌, ◌⊎◌, ℕ, Bool, true, false, not, ◌&&◌, List, [], length, find, Some, None}
use Rattle.std.specs.Option.{option_map_or}
use Rattle.std.specs.List.{list_any, list_all, flat_map, AllByRecursion, AllZip}
use Rattle.share_records.specs.declared.share.Share.{Share as ShareOf}
use Rattle.share_records.specs.ShareLists.{participant_at}
use Rattle.record_model.specs.declared.records.Record.{Record}
use Rattle.record_model.specs.declared.records.Stamp.{Stamp}
use Rattle.zone_model.specs.declared.outcomes.Outcome.{Outcome}
use Rattle.zone_model.specs.declared.outcomes.Outcome.TheVariants.{Put as Answered, Deleted, Refused}
use Rattle.zone_model.specs.declared.commits.Write.{Write}
use Rattle.zone_model.specs.declared.commits.Write.TheVariants.{Put, Remove, PutRemove}
use Rattle.zone_model.specs.declared.commits.Commit.{Commit}
use Rattle.zone_model.specs.Names.{same, is_in, has_twice, is_private, is_shared}
use Rattle.name_rules.specs.Options.{is_some_and}
use Rattle.zone_model.specs.Records.{record_at, is_there, share_of}
use Rattle.zone_model.specs.Zones.{zone_at, written_name}
use Rattle.zone_model.specs.Views.{is_empty, view_of}
use Rattle.zone_model.specs.Requests.{Caller, NamedOp, is_deletion, begins_share, root_given, puts_in, roots_in}
use Rattle.zone_model.specs.Working.{is_share_of}
use Rattle.zone_model.specs.Past.{name_history}
use Rattle.zone_model.specs.Grounds.{names_taken, grounds_of}
use Rattle.zone_model.specs.Cascade.{IsLeast}
use Rattle.zone_model.specs.Effect.{Request, is_left, after_puts, writes, commits_with, effect}
use Rattle.zone_model.specs.Modifying.{is_judged_as_one, request_at, effect_at, modified_as_one, modified}
use Rattle.zone_model.specs.Lawful.{MayFollowInTurn}
use Rattle.zone_laws.specs.Laws.{IsPermittedOp, writes_in}

abbrev pub is_refusal : Outcome → Bool
is_refusal (Answered r) = false
is_refusal (Deleted x) = false
is_refusal (Refused fault server) = true

-- a put is answered with a record of its name, a deletion with its name
abbrev pub IsAnswerTo : NamedOp → Outcome → Type 0
IsAnswerTo op (Answered r) = (is_deletion op.kind ≡ false) × (r.name ≡ op.name)
IsAnswerTo op (Deleted x) = (is_deletion op.kind ≡ true) × (x ≡ op.name)
IsAnswerTo op (Refused fault server) = Unit {0}

-- There is one outcome for each operation, which tells of that one, and at most one commit. What is judged as one makes at most
-- one commit for all; where something is refused, all is refused and nothing is committed.
pub record EachIsAnswered : Type 0 where
  pub each : (caller : Caller) (moment : ℕ) (log : List Commit) (atomic : Bool) (ops : List NamedOp)
      → length (modified caller moment log atomic ops).outcomes ≡ length ops
  pub own : (caller : Caller) (moment : ℕ) (log : List Commit) (atomic : Bool) (ops : List NamedOp)
      → AllZip IsAnswerTo ops (modified caller moment log atomic ops).outcomes
  pub few : (caller : Caller) (moment : ℕ) (log : List Commit) (atomic : Bool) (ops : List NamedOp)
      → is_judged_as_one caller.key atomic ≡ false
      → length (modified caller moment log atomic ops).commits ≤ length ops
  pub one : (caller : Caller) (moment : ℕ) (log : List Commit) (atomic : Bool) (ops : List NamedOp)
      → is_judged_as_one caller.key atomic ≡ true
      → length (modified caller moment log atomic ops).commits ≤ 1
  pub none : (caller : Caller) (moment : ℕ) (log : List Commit) (atomic : Bool) (ops : List NamedOp)
      → is_judged_as_one caller.key atomic ≡ true
      → list_any is_refusal (modified caller moment log atomic ops).outcomes ≡ true
      → ((modified caller moment log atomic ops).commits ≡ [])
      × (list_all is_refusal (modified caller moment log atomic ops).outcomes ≡ true)

-- ---- what is written

abbrev pub writes_made : List Commit → List Write
writes_made commits = flat_map (λ (c : Commit). writes_in c.act) commits

-- a put has the stamp of its commit as the last, and as the first too where it begins a life
abbrev pub IsStamped : List Record → Stamp → Write → Type 0
IsStamped rows now (Put r) = (r.modified ≡ now)
    × (r.created ≡ option_map_or (λ (z : Record). z.created) (record_at rows r.name) now)
IsStamped rows now (Remove x) = Unit {0}
IsStamped rows now (PutRemove x) = Unit {0}

-- each put of a request has its moment and its user
abbrev pub AreStamped : Caller → ℕ → List Commit → List NamedOp → Type 0
AreStamped caller moment log ops =
    AllByRecursion (IsStamped (zone_at log caller.key).rows (record { moment = moment; user = caller.user }))
    (writes_made (effect_at caller moment log ops))

abbrev pub StampsAreSet : Type 0
StampsAreSet = (caller : Caller) (moment : ℕ) (log : List Commit) (ops : List NamedOp)
    → MayFollowInTurn [] log → (zone_at log caller.key).there ≡ true → has_twice (roots_in ops) ≡ false
    → AreStamped caller moment log ops

-- the write puts the record, or puts it without its share mark, or puts and removes it at once
abbrev pub IsOf : Record → Write → Type 0
IsOf r (Put t) = (t ≡ r) ⊎ (t ≡ record r { share = None })
IsOf r (Remove x) = ⊥
IsOf r (PutRemove x) = x ≡ r.name

pub record IsWritten (ws : List Write) (r : Record) : Type 0 where
  pub write : Write
  pub found : find (λ w. same r.name (written_name w)) ws ≡ Some write
  pub is : IsOf r write

abbrev pub IsShownWritten : List Write → Outcome → Type 0
IsShownWritten ws (Answered r) = IsWritten ws r
IsShownWritten ws (Deleted x) = Unit {0}
IsShownWritten ws (Refused fault server) = Unit {0}

-- what an outcome shows of a put is what its commit wrote
abbrev pub PutsAreShown : Caller → ℕ → List Commit → List NamedOp → Type 0
PutsAreShown caller moment log ops =
    AllByRecursion (IsShownWritten (writes_made (effect_at caller moment log ops))) (modified_as_one caller moment log ops).outcomes

abbrev pub OutcomesAreWritten : Type 0
OutcomesAreWritten = (caller : Caller) (moment : ℕ) (log : List Commit) (ops : List NamedOp)
    → MayFollowInTurn [] log → (zone_at log caller.key).there ≡ true → has_twice (roots_in ops) ≡ false
    → PutsAreShown caller moment log ops

-- the write removes its name, or is of a share that its user, who deleted it in the shared scope, is in no more
abbrev pub IsAway : Caller → Write → Type 0
IsAway caller (Put r) =
    (is_shared caller.scope ≡ true)
    × ((s : ShareOf) × (share_of r ≡ Some s) × (participant_at s.participants caller.user ≡ None))
IsAway caller _ = Unit {0}

pub record IsGone (caller : Caller) (ws : List Write) (x : List ℕ) : Type 0 where
  pub write : Write
  pub found : find (λ w. same x (written_name w)) ws ≡ Some write
  pub is : IsAway caller write

abbrev pub IsShownGone : Caller → List Record → List Write → Outcome → Type 0
IsShownGone caller seen ws (Deleted x) = is_there seen x ≡ true → IsGone caller ws x
IsShownGone caller seen ws _ = Unit {0}

-- what an outcome shows of a deletion is what its commit removed, where the caller saw the name, or left
abbrev pub DeletionsAreShown : Caller → ℕ → List Commit → List NamedOp → Type 0
DeletionsAreShown caller moment log ops =
    AllByRecursion
    (IsShownGone caller (view_of log caller.user caller.scope caller.key).rows
    (writes_made (effect_at caller moment log ops)))
    (modified_as_one caller moment log ops).outcomes

abbrev pub DeletionsAreWritten : Type 0
DeletionsAreWritten = (caller : Caller) (moment : ℕ) (log : List Commit) (ops : List NamedOp)
    → MayFollowInTurn [] log → (zone_at log caller.key).there ≡ true → has_twice (roots_in ops) ≡ false
    → DeletionsAreShown caller moment log ops

-- in the private scope some put of the request begins a share of that root
abbrev pub has_begun_share : Request → List ℕ → Bool
has_begun_share q root = is_private q.caller.scope
    && list_any (λ (p : NamedOp). begins_share q.seen p && is_some_and (same root) (root_given p.draft)) (puts_in q.ops)

-- the share of that root is among the names that go
abbrev pub has_lost_share : Request → List (List ℕ) → List ℕ → Bool
has_lost_share q gone root = list_any (λ (s : Record). is_share_of root s && is_in gone s.name) (after_puts q)

-- A put is one that the request asks for, or of a share that the user leaves in the shared scope, or of a root whose share the
-- request begins or whose share is among the names that go; and what is removed is among them.
abbrev pub IsAllowed : Request → List (List ℕ) → Write → Type 0
IsAllowed q gone (Put r) =
    (list_any (λ (p : NamedOp). same r.name p.name) (puts_in q.ops) ≡ true)
    ⊎ ((is_left q r ≡ true) ⊎ ((has_begun_share q r.name ≡ true) ⊎ (has_lost_share q gone r.name ≡ true)))
IsAllowed q gone (Remove x) = is_in gone x ≡ true
IsAllowed q gone (PutRemove x) = is_in gone x ≡ true

-- each write of a request is such a one, where those go that the cascade takes along with what the user deletes
abbrev pub AreAllowed : Caller → ℕ → List Commit → List NamedOp → Type 0
AreAllowed caller moment log ops = (gone : List (List ℕ))
    → (let q = request_at caller moment log ops in
    IsLeast (after_puts q) (names_taken caller q.seen ops) gone
    → AllByRecursion (IsAllowed q gone) (writes_made (effect_at caller moment log ops)))

-- where a request makes a commit, each of its operations is permitted
abbrev pub ArePermitted : Caller → ℕ → List Commit → List NamedOp → Type 0
ArePermitted caller moment log ops = is_empty (effect_at caller moment log ops) ≡ false
    → (let seen = (view_of log caller.user caller.scope caller.key).rows in
    AllByRecursion (IsPermittedOp (grounds_of caller (name_history log caller.key ops) seen ops)) ops)

pub record WritesAreAllowed : Type 0 where
  pub writes : (caller : Caller) (moment : ℕ) (log : List Commit) (ops : List NamedOp)
      → MayFollowInTurn [] log → (zone_at log caller.key).there ≡ true → has_twice (roots_in ops) ≡ false
      → AreAllowed caller moment log ops
  pub asked : (caller : Caller) (moment : ℕ) (log : List Commit) (ops : List NamedOp)
      → is_shared caller.scope ≡ true → ArePermitted caller moment log ops

-- the commit of a request rests on any least set of removed names, however it is found
abbrev pub AnyLeastSetWillDo : Type 0
AnyLeastSetWillDo = (q : Request) (gone : List (List ℕ))
    → IsLeast (after_puts q) (names_taken q.caller q.seen q.ops) gone → commits_with q (writes q gone) ≡ effect q

-- ---- whether something is made

-- the outcome tells of something written: of a put, or of a deletion of what was seen
abbrev pub has_written : List Record → Outcome → Bool
has_written seen (Answered r) = true
has_written seen (Deleted x) = is_there seen x
has_written seen (Refused fault server) = false

-- some outcome of a request that is judged as one tells of something written
abbrev pub tells_written : Caller → ℕ → List Commit → List NamedOp → Bool
tells_written caller moment log ops =
    list_any (has_written (view_of log caller.user caller.scope caller.key).rows) (modified_as_one caller moment log ops).outcomes

-- such a request commits something just where one does
abbrev pub MadeWhereWritten : Type 0
MadeWhereWritten = (caller : Caller) (moment : ℕ) (log : List Commit) (ops : List NamedOp)
    → MayFollowInTurn [] log → (zone_at log caller.key).there ≡ true → has_twice (roots_in ops) ≡ false
    → not (is_empty (effect_at caller moment log ops)) ≡ tells_written caller moment log ops
