-- Which value a filter may have with which comparator.
-- Comparators are those of "Filter Dictionary" in the CloudKit Web Services Reference.
use Rattle.std.specs.Prelude.{Bool, true, false, not}
use Rattle.record_model.specs.declared.value.Value.{Value, out-Value}
use Rattle.record_model.specs.declared.value.Value.TheOpen.{Value-F}
use Rattle.record_model.specs.declared.comparator.Comparator.{Comparator}
use Rattle.record_model.specs.declared.comparator.Comparator.TheVariants.{Equals, NotEquals, LessThan, LessThanOrEquals, GreaterThan, GreaterThanOrEquals}
use Rattle.record_model.specs.declared.comparator.Comparator.TheVariants.{In, NotIn, BeginsWith, NotBeginsWith, ListContains, NotListContains, NotListContainsAny, ListContainsAll}

abbrev pub is_list_level : Value-F Value → Bool
is_list_level (Value-F.Int64 n) = false
is_list_level (Value-F.Timestamp n) = false
is_list_level (Value-F.Text t) = false
is_list_level (Value-F.Bytes b) = false
is_list_level (Value-F.Reference r) = false
is_list_level (Value-F.List k vs) = true

abbrev pub is_list : Value → Bool
is_list v = is_list_level (out-Value v)

abbrev pub is_string_level : Value-F Value → Bool
is_string_level (Value-F.Int64 n) = false
is_string_level (Value-F.Timestamp n) = false
is_string_level (Value-F.Text t) = true
is_string_level (Value-F.Bytes b) = false
is_string_level (Value-F.Reference r) = false
is_string_level (Value-F.List k vs) = false

abbrev pub is_string : Value → Bool
is_string v = is_string_level (out-Value v)

abbrev pub is_comparable_level : Value-F Value → Bool
is_comparable_level (Value-F.Int64 n) = true
is_comparable_level (Value-F.Timestamp n) = true
is_comparable_level (Value-F.Text t) = true
is_comparable_level (Value-F.Bytes b) = true
is_comparable_level (Value-F.Reference r) = false
is_comparable_level (Value-F.List k vs) = false

-- neither a list nor a reference
abbrev pub is_comparable : Value → Bool
is_comparable v = is_comparable_level (out-Value v)

-- the value is what the comparator wants
abbrev pub fits : Comparator → Value → Bool
fits Equals w = true
fits NotEquals w = true
fits LessThan w = is_comparable w
fits LessThanOrEquals w = is_comparable w
fits GreaterThan w = is_comparable w
fits GreaterThanOrEquals w = is_comparable w
fits In w = is_list w
fits NotIn w = is_list w
fits BeginsWith w = is_string w
fits NotBeginsWith w = is_string w
fits ListContains w = not (is_list w)
fits NotListContains w = not (is_list w)
fits NotListContainsAny w = is_list w
fits ListContainsAll w = is_list w
