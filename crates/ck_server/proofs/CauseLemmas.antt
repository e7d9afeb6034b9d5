-- Where a device failed last, in a part of a time before which nothing had failed.
use Rattle.std.proofs.Common.{◌≡◌, ◌≢◌, ℕ, List, sym, ap, ◌∙◌, refl, Option, None, Some, Result, Ok, Err}
use Rattle.ck_devices.specs.Causes.{one_more, Failures, FailedLast, StopsAt}
use Rattle.http_front.specs.declared.faults.FrontFault.{FrontFault}
use Rattle.http_front.specs.declared.faults.FrontFault.TheVariants as fault
use Rattle.http_front.specs.declared.request.Request.{Request}
use Rattle.talk_model.specs.declared.ends.End.{End}
use Rattle.talk_model.specs.declared.ends.TalkFaultKind.{TalkFaultKind}
use Rattle.talk_model.specs.declared.ends.TalkFaultKind.TheVariants.{ReadFault, WriteFault, NoMemory}
use Rattle.ck_server.specs.Finishing.{end_at, Finishes}

-- what succeeded has not failed
pub kept_ok : {T E : Type 0} (f : E) (before now : Failures) (x : T) → StopsAt f before now (Ok x) → now.count ≡ before.count
kept_ok f before now x stops = stops.kept (λ e. cc)

pub cause_ok : {T E : Type 0} (f : E) (before now : Failures) (x : T) → now.count ≡ before.count → StopsAt f before now (Ok x)
cause_ok f before now x same = record { kept = λ ne. same; failed = λ e. absurd (cc) }

-- another fault is no failure
pub cause_other : {T E : Type 0} (f e : E) (before now : Failures) → e ≢ f → now.count ≡ before.count → StopsAt {T = T} f before now (Err e)
cause_other f e before now other same = record { kept = λ ne. same; failed = λ is. absurd (other (cc)) }

-- the last failure is so from earlier on too
failed_on : (entry before now : Failures) → before.count ≡ entry.count → FailedLast before now → FailedLast entry now
failed_on entry before now same failed = record { once = failed.once ∙ ap one_more same; last = failed.last }

-- a fault is handed on
pub cause_on : {A B E : Type 0} (f e : E) (entry before now : Failures) → before.count ≡ entry.count → StopsAt {T = A} f before now (Err e) → StopsAt {T = B} f entry now (Err e)
cause_on {A} {B} {E} f e entry before now same stops = record { kept = λ ne. stops.kept (λ is. ne (cc)) ∙ same; failed = λ is. failed_on entry before now same (stops.failed (cc)) }

-- ---- what broke off a reading

none_some : (end : End) → None ≡ Some end → ⊥
none_some end e = cc

pub no_end : (f : FrontFault) (end : End) → end_at f ≡ Some end → f ≢ fault.ReadFault
no_end f end is e = none_some end (sym (ap end_at e) ∙ is)

module _ (f : FrontFault) (entry before now : Failures) (same : before.count ≡ entry.count) (stops : StopsAt {T = Request} fault.ReadFault before now (Err f)) where
  kept_at : f ≢ fault.ReadFault → now.count ≡ entry.count
  kept_at other = stops.kept (λ e. other (cc)) ∙ same

  -- an end is none of a read that failed
  pub read_ended : (end : End) → end_at f ≡ Some end → now.count ≡ entry.count
  read_ended end is = kept_at (no_end f end is)

  -- a read that failed is told as such, and nothing else is
  pub read_broke : (at : TalkFaultKind) (held later : Option (List ℕ)) → Finishes held later f (Err at) → StopsAt {T = End} ReadFault entry now (Err at)
  read_broke ReadFault held later finishes =
      record { kept = λ ne. absurd (ne refl); failed = λ e. failed_on entry before now same (stops.failed (ap (λ (g : FrontFault). Err g) finishes.0)) }
  read_broke WriteFault held later finishes = record { kept = λ ne. kept_at (no_end f finishes.end finishes.is); failed = λ e. absurd (cc) }
  read_broke NoMemory held later finishes = record { kept = λ ne. kept_at finishes.0; failed = λ e. absurd (cc) }
