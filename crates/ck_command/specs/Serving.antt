-- What a run took and wrote: the conversation that it served, on a board of its own.
use Rattle.std.specs.Prelude.{◌≡◌, ◌⊎◌, ℕ, true, List, [], Option, None, Some, Result, ⊤}
use Rattle.std.specs.List.{AllByRecursion}
use Rattle.ck_devices.specs.declared.faults.Failed.{Failed}
use Rattle.ck_devices.specs.Causes.{Failures}
use Rattle.ck_devices.specs.Files.{Files}
use Rattle.ck_devices.specs.Runs.{GivesInTurn}
use Rattle.zone_model.specs.declared.events.Event.{Event}
use Rattle.zone_model.specs.Histories.{Histories}
use Rattle.board_model.specs.Turns.{BoardState}
use Rattle.http_front.specs.Users.{Table}
use Rattle.talk_model.specs.declared.ends.End.{End}
use Rattle.talk_model.specs.declared.ends.TalkFaultKind.{TalkFaultKind}
use Rattle.talk_model.specs.declared.marks.Mark.{Mark}
use Rattle.talk_model.specs.Given.{Given, draws_of, GaveFor}
use Rattle.ck_server.specs.Conversations.{Standing}
use Rattle.ck_server.specs.Outcomes.{Converses}
use Rattle.ck_command.specs.declared.endings.Ending.{Ending}
use Rattle.ck_command.specs.declared.endings.Ending.TheVariants.{WrongWords}
use Rattle.ck_command.specs.Arguments.{RunArguments}
use Rattle.ck_command.specs.UsersFile.{table_in}
use Rattle.ck_command.specs.Endings.{ending_by, MayRefuse}

-- What the source of a run has left and its sink holds, where they tell it, and how each has failed.
pub record Streams : Type 0 where
  pub left : Option (List ℕ)
  pub source_failures : Failures
  pub held : Option (List ℕ)
  pub sink_failures : Failures

-- its devices: the files of its shelf, where it tells them, how often that has failed, and its streams
pub record Devices : Type 0 where
  pub files : Option Files
  pub shelf_faults : ℕ
  pub streams : Streams

-- a board of these histories that has had no ask yet: it writes as seat 0, nobody else adds to them, and its store has not failed
abbrev pub opened : Histories Event → BoardState
opened histories = record { histories = histories; seats = λ lock. Some 0; turns = λ lock. []; faults = λ lock. 0; alone = true }

-- where its conversation stands
abbrev pub standing : Streams → BoardState → Standing
standing s board = record { left = s.left; source_failures = s.source_failures; held = s.held; sink_failures = s.sink_failures; board = board }

-- The moments are what the clock gave in turn or, where the words of the command say a moment, that one; and the random words
-- are what their source gave in turn.
abbrev pub GivenAre : {C R : Type 0} → (C → ℕ → C → Type 0) → (R → Result (List ℕ) Failed → R → Type 0) → C → C → R → R → Option ℕ → List Given → Type 0
GivenAre clock draws before after words words2 None given = GaveFor clock draws before after words words2 given
GivenAre clock draws before after words words2 (Some moment) given = AllByRecursion (λ (g : Given). g.moment ≡ moment) given × (after ≡ before) × GivesInTurn draws words (draws_of given) words2

-- the table is the one that the file of that name holds
abbrev pub IsTableIn : Option Files → List ℕ → Table → Type 0
IsTableIn None name t = ⊤
IsTableIn (Some files) name t = table_in files name ≡ Some t

-- The requests of the source were served on a board that had these histories at opening, which is the conversation's theorem, and whose store
-- never failed; and the run ended as the conversation did.
pub record ServesFrom (opening : Histories Event) (t : Table) (gave : List Given → Type 0) (before after : Streams) (ending : Ending) : Type 0 where
  pub board : BoardState
  pub marks : List Mark
  pub outcome : Result End TalkFaultKind
  pub converses : Converses t gave (standing before (opened opening)) (standing after board) marks outcome
  pub unfailed : (lock : ℕ) → board.faults lock ≡ 0
  pub ends : ending ≡ ending_by outcome

-- the shelf has its files, and has not failed
abbrev pub IsShelfKept : Devices → Devices → Type 0
IsShelfKept before after = (after.files ≡ before.files) × (after.shelf_faults ≡ before.shelf_faults)

-- they were served for the table of the file
pub record ServesFile (opening : Histories Event) (gave : Option ℕ → List Given → Type 0) (before after : Devices) (asked : RunArguments) (ending : Ending) : Type 0 where
  pub shelf : IsShelfKept before after
  pub table : Table
  pub table_is : IsTableIn before.files asked.users table
  pub serves : ServesFrom opening table (gave asked.moment) before.streams after.streams ending

-- nothing was taken and nothing written, neither source nor sink was used, and no moment was read and no word drawn
pub record IsUntouched (gave : Option ℕ → List Given → Type 0) (before after : Streams) : Type 0 where
  pub given : gave None []
  pub same : after ≡ before

-- no table of users was loaded, and the files stay
pub record RefusesFile (gave : Option ℕ → List Given → Type 0) (before after : Devices) (asked : RunArguments) (ending : Ending) : Type 0 where
  pub untouched : IsUntouched gave before.streams after.streams
  pub files : after.files ≡ before.files
  pub may : MayRefuse before.files asked.users before.shelf_faults after.shelf_faults ending

-- What a run does and how it ends: at wrong words it uses no stream, and the shelf has its files and has not failed; else it serves the requests
-- once it has loaded the table of users.
abbrev pub Runs : Histories Event → (Option ℕ → List Given → Type 0) → Devices → Devices → Option RunArguments → Ending → Type 0
Runs opening gave before after None ending =
    (ending ≡ WrongWords) × IsUntouched gave before.streams after.streams × IsShelfKept before after
Runs opening gave before after (Some asked) ending = RefusesFile gave before after asked ending ⊎ ServesFile opening gave before after asked ending
