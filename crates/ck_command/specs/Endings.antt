-- How a run ends, and the status that tells it.
use Rattle.std.specs.Prelude.{◌≡◌, ℕ, List, Option, Result, Ok, Err}
use Rattle.ck_devices.specs.Causes.{Rose}
use Rattle.ck_devices.specs.Files.{Files}
use Rattle.talk_model.specs.declared.ends.End.{End}
use Rattle.talk_model.specs.declared.ends.End.TheVariants as end
use Rattle.talk_model.specs.declared.ends.TalkFaultKind.{TalkFaultKind}
use Rattle.talk_model.specs.declared.ends.TalkFaultKind.TheVariants as fault
use Rattle.ck_command.specs.declared.endings.Ending.{Ending}
use Rattle.ck_command.specs.declared.endings.Ending.TheVariants.{Done, DeviceFault, WrongWords, BadFile, Early, OutOfMemory}
use Rattle.ck_command.specs.UsersFile.{LacksUsers}

abbrev pub status_of : Ending → ℕ
status_of Done = 0
status_of DeviceFault = 1
status_of WrongWords = 2
status_of (BadFile name) = 3
status_of (Early at) = 4
status_of OutOfMemory = 5

-- how a run ends whose conversation ended so, or was broken off
abbrev pub ending_of : End → Ending
ending_of end.Closed = Done
ending_of end.CloseAsked = Done
ending_of end.Cut = Early end.Cut
ending_of end.BadHead = Early end.BadHead
ending_of end.HeadTooLong = Early end.HeadTooLong
ending_of end.NoLength = Early end.NoLength
ending_of end.BodyTooLong = Early end.BodyTooLong
ending_of end.Spent = Done
ending_of end.NotBuilt = Early end.NotBuilt

abbrev pub ending_by : Result End TalkFaultKind → Ending
ending_by (Ok at) = ending_of at
ending_by (Err fault.ReadFault) = DeviceFault
ending_by (Err fault.WriteFault) = DeviceFault
ending_by (Err fault.NoMemory) = OutOfMemory

-- why no table of users was loaded from the file of that name: it holds none, the shelf failed, or memory ran out; the shelf has
-- failed once more just where that is why
abbrev pub MayRefuse : Option Files → List ℕ → ℕ → ℕ → Ending → Type 0
MayRefuse files name before now Done = ⊥
MayRefuse files name before now DeviceFault = Rose before now
MayRefuse files name before now WrongWords = ⊥
MayRefuse files name before now (BadFile bad) = (bad.now ≡ name) × LacksUsers files name × (now ≡ before)
MayRefuse files name before now (Early at) = ⊥
MayRefuse files name before now OutOfMemory = now ≡ before
