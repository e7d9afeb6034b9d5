-- How a conversation finishes where no further request is read.
use Rattle.std.specs.Prelude.{◌≡◌, ◌≢◌, ℕ, List, [], Option, Some, None, Result, Ok, Err}
use Rattle.std.specs.Io.KnownBytes.{Appends}
use Rattle.ck_devices.specs.Fronts.{WritesFront}
use Rattle.http_front.specs.declared.faults.FrontFault.{FrontFault}
use Rattle.http_front.specs.declared.faults.FrontFault.TheVariants as fault
use Rattle.talk_model.specs.declared.ends.End.{End}
use Rattle.talk_model.specs.declared.ends.End.TheVariants.{Closed, Cut, BadHead, HeadTooLong, NoLength, BodyTooLong}
use Rattle.talk_model.specs.declared.ends.TalkFaultKind.{TalkFaultKind}
use Rattle.talk_model.specs.declared.ends.TalkFaultKind.TheVariants.{ReadFault, WriteFault, NoMemory}
use Rattle.talk_model.specs.Connections.{last_text}

-- the end that a fault of a reading is
abbrev pub end_at : FrontFault → Option End
end_at fault.Ended = Some Closed
end_at fault.Cut = Some Cut
end_at fault.BadHead = Some BadHead
end_at fault.HeadTooLong = Some HeadTooLong
end_at fault.NoLength = Some NoLength
end_at fault.BodyTooLong = Some BodyTooLong
end_at fault.ReadFault = None
end_at fault.NoMemory = None

-- A front of what is written at the end was written, and not all.
pub record BreaksLast (held now : Option (List ℕ)) (f : FrontFault) : Type 0 where
  pub end : End
  pub is : end_at f ≡ Some end
  pub front : WritesFront held now (last_text end)

-- what is written at the end was written, or a front of it; or there is no end, but the fault; or memory ran out, and no read had failed
abbrev pub Finishes : Option (List ℕ) → Option (List ℕ) → FrontFault → Result End TalkFaultKind → Type 0
Finishes held now f (Ok end) = (end_at f ≡ Some end) × Appends held now (last_text end)
Finishes held now f (Err ReadFault) = (f ≡ fault.ReadFault) × Appends held now []
Finishes held now f (Err WriteFault) = BreaksLast held now f
Finishes held now f (Err NoMemory) = (f ≢ fault.ReadFault) × Appends held now []
