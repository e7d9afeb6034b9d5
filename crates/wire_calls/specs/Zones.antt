-- The zone that a call names.
use Rattle.std.specs.Prelude.{ℕ, List, Option, None, Some, ok_or, Result, Ok}
use Rattle.serde_json.specs.Data.{Data}
use Rattle.ck_base.specs.declared.key.ZoneKey.{ZoneKey}
use Rattle.ck_base.specs.KnownNames.{own_default}
use Rattle.field_values.specs.ZoneIds.{zone_in}
use Rattle.wire_calls.specs.declared.fault.CallKey.TheVariants.{ZoneId}
use Rattle.wire_calls.specs.declared.fault.BadCall.{BadCall}
use Rattle.wire_calls.specs.declared.fault.BadCall.TheVariants.{BadKey}

-- without a zone ID it is the caller's default zone
abbrev pub zone_at : List ℕ → Option Data → Result ZoneKey BadCall
zone_at caller None = Ok (own_default caller)
zone_at caller (Some d) = ok_or (zone_in caller d) (BadKey ZoneId)
