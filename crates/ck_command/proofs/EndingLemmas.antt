-- The status of a run, by what its words ask for.
use Rattle.std.proofs.Common.{◌≡◌, ◌≢◌, ℕ, sym, ap, ◌∙◌, refl, arith, inl, inr, List, Result, Ok, Err}
use Rattle.std.specs.Prelude.{◌↔◌, ◌⊎◌, Option, None, Some}
use Rattle.ck_devices.specs.Files.{Files}
use Rattle.zone_model.specs.declared.events.Event.{Event}
use Rattle.zone_model.specs.Histories.{Histories}
use Rattle.http_front.specs.Users.{Table}
use Rattle.talk_model.specs.declared.ends.End.{End}
use Rattle.talk_model.specs.declared.ends.End.TheVariants as end
use Rattle.talk_model.specs.declared.ends.TalkFaultKind.{TalkFaultKind}
use Rattle.talk_model.specs.declared.ends.TalkFaultKind.TheVariants as fault
use Rattle.talk_model.specs.Given.{Given}
use Rattle.ck_command.specs.declared.endings.Ending.{Ending}
use Rattle.ck_command.specs.declared.endings.Ending.TheVariants.{Done, DeviceFault, WrongWords, BadFile, Early, OutOfMemory}
use Rattle.ck_command.specs.Arguments.{RunArguments}
use Rattle.ck_command.specs.Endings.{status_of, ending_by, MayRefuse}
use Rattle.ck_command.specs.Serving.{Devices, IsTableIn, Runs}
use Rattle.ck_command.specs.UsersFile.{table_in, AsksForNoTable}
use Rattle.ck_command.specs.Runs.{IsThreeAtNoTable}

-- a run that served is not refused
served_two : (o : Result End TalkFaultKind) → status_of (ending_by o) ≡ 2 → ⊥
served_two (Ok end.Closed) e = cc
served_two (Ok end.CloseAsked) e = cc
served_two (Ok end.Cut) e = cc
served_two (Ok end.BadHead) e = cc
served_two (Ok end.HeadTooLong) e = cc
served_two (Ok end.NoLength) e = cc
served_two (Ok end.BodyTooLong) e = cc
served_two (Ok end.Spent) e = cc
served_two (Ok end.NotBuilt) e = cc
served_two (Err fault.ReadFault) e = cc
served_two (Err fault.WriteFault) e = cc
served_two (Err fault.NoMemory) e = cc

served_three : (o : Result End TalkFaultKind) → status_of (ending_by o) ≡ 3 → ⊥
served_three (Ok end.Closed) e = cc
served_three (Ok end.CloseAsked) e = cc
served_three (Ok end.Cut) e = cc
served_three (Ok end.BadHead) e = cc
served_three (Ok end.HeadTooLong) e = cc
served_three (Ok end.NoLength) e = cc
served_three (Ok end.BodyTooLong) e = cc
served_three (Ok end.Spent) e = cc
served_three (Ok end.NotBuilt) e = cc
served_three (Err fault.ReadFault) e = cc
served_three (Err fault.WriteFault) e = cc
served_three (Err fault.NoMemory) e = cc

refused_two : (files : Option Files) (name : List ℕ) (was is : ℕ) (ending : Ending) → MayRefuse files name was is ending → status_of ending ≡ 2 → ⊥
refused_two files name was is Done may e = may
refused_two files name was is DeviceFault may e = cc
refused_two files name was is WrongWords may e = may
refused_two files name was is (BadFile bad) may e = cc
refused_two files name was is (Early at) may e = may
refused_two files name was is OutOfMemory may e = cc

module _ (opening : Histories Event) (gave : Option ℕ → List Given → Type 0) (before after : Devices) where
  wrong : (asked : Option RunArguments) (ending : Ending) → Runs opening gave before after asked ending → status_of ending ≡ 2 → asked ≡ None
  wrong None ending runs e = refl
  wrong (Some asked) ending (inl r) e = absurd (refused_two before.files asked.users before.shelf_faults after.shelf_faults ending r.may e)
  wrong (Some asked) ending (inr s) e = absurd (served_two (s.serves).outcome (ap status_of (sym (s.serves).ends) ∙ e))

  right : (asked : Option RunArguments) (ending : Ending) → Runs opening gave before after asked ending → asked ≡ None → status_of ending ≡ 2
  right None ending runs e = ap status_of runs.0
  right (Some asked) ending runs e = absurd (cc)

  -- the status is 2 exactly at wrong words
  pub two_at_wrong_words : (asked : Option RunArguments) (ending : Ending) (status : ℕ) → Runs opening gave before after asked ending → status ≡ status_of ending → (status ≡ 2) ↔ (asked ≡ None)
  two_at_wrong_words asked ending status runs e = rw e (wrong asked ending runs, right asked ending runs)

-- why a run ended so whose words are right
abbrev EndsBy : Option Files → List ℕ → ℕ → ℕ → Ending → Type 0
EndsBy files name was is ending = MayRefuse files name was is ending ⊎ ((t : Table) × IsTableIn files name t × (o : Result End TalkFaultKind) × (ending ≡ ending_by o))

to_table : (files : Files) (name : List ℕ) (was is : ℕ) (ending : Ending) → EndsBy (Some files) name was is ending → status_of ending ≡ 3 → table_in files name ≡ None
to_table files name was is Done (inl may) e = absurd may
to_table files name was is DeviceFault (inl may) e = absurd (cc)
to_table files name was is WrongWords (inl may) e = absurd may
to_table files name was is (BadFile bad) (inl may) e = may.1
to_table files name was is (Early at) (inl may) e = absurd may
to_table files name was is OutOfMemory (inl may) e = absurd (cc)
to_table files name was is ending (inr s) e = absurd (served_three s.2 (ap status_of (sym s.3) ∙ e))

from_table : (files : Files) (name : List ℕ) (was is : ℕ) (ending : Ending) → EndsBy (Some files) name was is ending → status_of ending ≢ 1 → status_of ending ≢ 5 → table_in files name ≡ None → status_of ending ≡ 3
from_table files name was is Done (inl may) a b none = absurd may
from_table files name was is DeviceFault (inl may) a b none = absurd (a refl)
from_table files name was is WrongWords (inl may) a b none = absurd may
from_table files name was is (BadFile bad) (inl may) a b none = refl
from_table files name was is (Early at) (inl may) a b none = absurd may
from_table files name was is OutOfMemory (inl may) a b none = absurd (b refl)
from_table files name was is ending (inr s) a b none = let some : table_in files name ≡ Some s.0 = s.1 in absurd (cc)

-- the status is 3 exactly where there is no table, where it may be
by_files : (files : Option Files) (asked : RunArguments) (was is : ℕ) (ending : Ending) → EndsBy files asked.users was is ending → IsThreeAtNoTable files (Some asked) (status_of ending)
by_files None asked was is ending ends = tt
by_files (Some files) asked was is ending ends = λ a b. (to_table files asked.users was is ending ends, from_table files asked.users was is ending ends a b)

at_wrong : (files : Option Files) (ending : Ending) → ending ≡ WrongWords → IsThreeAtNoTable files None (status_of ending)
at_wrong None ending is = tt
at_wrong (Some files) ending is = λ a b. (λ e. absurd (let two : status_of ending ≡ 2 = ap status_of is in omega arith), λ none. absurd none)

pub three_at_no_table : (opening : Histories Event) (gave : Option ℕ → List Given → Type 0) (before after : Devices) (asked : Option RunArguments) (ending : Ending) (status : ℕ) → Runs opening gave before after asked ending → status ≡ status_of ending
    → IsThreeAtNoTable before.files asked status
three_at_no_table opening gave before after None ending status runs e = rw e (at_wrong before.files ending runs.0)
three_at_no_table opening gave before after (Some asked) ending status (inl r) e = rw e (by_files before.files asked before.shelf_faults after.shelf_faults ending (inl r.may))
three_at_no_table opening gave before after (Some asked) ending status (inr s) e =
    rw e (by_files before.files asked before.shelf_faults after.shelf_faults ending (inr (s.table, s.table_is, (s.serves).outcome, (s.serves).ends)))
