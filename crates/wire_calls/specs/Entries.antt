-- The entries of records in replies: their form, and which are asked for.
use Rattle.std.specs.Prelude.{◌≡◌, ◌≢◌, true}
use Rattle.ck_base.specs.Names.{IsName}
use Rattle.record_model.specs.RecordForms.{IsStored}
use Rattle.error_replies.specs.declared.errors.ServerError.TheVariants.{Conflict}
use Rattle.wire_calls.specs.declared.asked.Asked.{Asked}
use Rattle.wire_calls.specs.declared.reply.RecordEntry.{RecordEntry}
use Rattle.wire_calls.specs.declared.reply.RecordEntry.TheVariants.{There, Gone, Failed, Conflict as InConflict}
use Rattle.wire_calls.specs.Asked.{answers}

-- names are names, records have the form in which a zone keeps them, and a conflict has its record
abbrev pub IsEntry : RecordEntry → Type 0
IsEntry (There r) = IsStored r
IsEntry (Gone name) = IsName name
IsEntry (Failed error name) = IsName name × (error ≢ Conflict)
IsEntry (InConflict name server) = IsName name × IsStored server

-- the entry has its form, and is one that is asked for
pub record IsAsked (a : Asked) (e : RecordEntry) : Type 0 where
  pub form : IsEntry e
  pub asked : answers a e ≡ true
