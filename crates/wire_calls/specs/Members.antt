-- Members of calls that are truth values, texts or whole numbers.
use Rattle.std.specs.Prelude.{◌<◌, ◌≤◌, ℕ, nat_lt, min, if◌then◌else◌, Bool, List, Option, None, Some, option_and_then, ok_or, Result, Ok, Err}
use Rattle.serde_json.specs.Data.{Data}
use Rattle.serde_json.specs.Find.{as_bool, as_str, as_number, as_u64}
use Rattle.field_values.specs.Results.{result_map, result_and_then}
use Rattle.zone_model.specs.Limits.{most_page_entries}
use Rattle.wire_calls.specs.declared.fault.CallKey.{CallKey}
use Rattle.wire_calls.specs.declared.fault.CallKey.TheVariants.{ResultsLimit}
use Rattle.wire_calls.specs.declared.fault.BadCall.{BadCall}
use Rattle.wire_calls.specs.declared.fault.BadCall.TheVariants.{BadKey}

-- a truth value, or the default
abbrev pub flag_at : CallKey → Bool → Option Data → Result Bool BadCall
flag_at key default None = Ok default
flag_at key default (Some d) = ok_or (as_bool d) (BadKey key)

-- a text, where it is there
abbrev pub text_at : CallKey → Option Data → Result (Option (List ℕ)) BadCall
text_at key None = Ok None
text_at key (Some d) = result_map Some (ok_or (as_str d) (BadKey key))

-- a whole number of 64 bits, where it is there
abbrev pub count_at : CallKey → Option Data → Result (Option ℕ) BadCall
count_at key None = Ok None
count_at key (Some d) = result_map Some (ok_or (option_and_then as_u64 (as_number d)) (BadKey key))

-- at least 1, and what is more than a page may have is as many
abbrev pub limited_to_page : Option ℕ → Result (Option ℕ) BadCall
limited_to_page None = Ok None
limited_to_page (Some n) = if nat_lt 0 n then Ok (Some (min n most_page_entries)) else Err (BadKey ResultsLimit)

-- a limit that is read is from 1 to what a page may have
abbrev pub IsPageLimit : ℕ → Type 0
IsPageLimit n = (0 < n) × (n ≤ most_page_entries)

abbrev pub limit_at : Option Data → Result (Option ℕ) BadCall
limit_at o = result_and_then limited_to_page (count_at ResultsLimit o)
