-- What the fields of a head say of the body and of the connection.
-- They are those of RFC 9110, section 8.6, and RFC 9112, sections 6.1, 6.3 and 9.6.
use Rattle.std.specs.Prelude.{ℕ, Bool, ◌&&◌, ◌||◌, ◌==◌, nat_le, List, [], ◌∷◌, length, map, codes, Result, Ok, Err, if◌then◌else◌}
use Rattle.std.specs.List.{list_all, list_any, slice_split}
use Rattle.std.specs.Char.{is_ascii_digit, to_ascii_lowercase}
use Rattle.std.specs.Str.{bytes_eq}
use Rattle.std.specs.Str.Parse.{digits_value}
use Rattle.httparse.specs.Grammar.{RequestHead, trim_ows}
use Rattle.httparse.specs.Spans.{name_and_value}
use Rattle.http_front.specs.declared.faults.FrontFault.{FrontFault}
use Rattle.http_front.specs.declared.faults.FrontFault.TheVariants.{NoLength, BodyTooLong}

-- the most bytes of a body
abbrev pub most_body : ℕ
most_body = 4194304

-- the field's name, without regard to case
abbrev pub is_named : List ℕ → List ℕ × List ℕ → Bool
is_named name field = bytes_eq (map to_ascii_lowercase field.0) name

-- the values of the fields of a name, in order
abbrev pub values_of : List ℕ → List (List ℕ × List ℕ) → List (List ℕ)
values_of name [] = []
values_of name (field ∷ fields) = if is_named name field then field.1 ∷ values_of name fields else values_of name fields

-- 1 to 19 digits
abbrev pub is_length : List ℕ → Bool
is_length text = nat_le 1 (length text) && (nat_le (length text) 19 && list_all is_ascii_digit text)

-- the length that a value states, where a body may be so long
abbrev pub stated_length : List ℕ → Result ℕ FrontFault
stated_length text =
    if is_length text then (if nat_le (digits_value 10 text) most_body then Ok (digits_value 10 text) else Err BodyTooLong) else Err NoLength

-- the length that the values of content-length state: one does, and a method that needs no body may have none
abbrev pub length_of : List ℕ → List (List ℕ) → Result ℕ FrontFault
length_of method [] = if bytes_eq method (codes "POST") then Err NoLength else Ok 0
length_of method (text ∷ []) = stated_length text
length_of method (text ∷ other ∷ texts) = Err NoLength

-- the length, where there is no transfer-coding
abbrev pub uncoded : List (List ℕ) → Result ℕ FrontFault → Result ℕ FrontFault
uncoded [] stated = stated
uncoded (coding ∷ codings) stated = Err NoLength

-- how long a body is, by the method and the fields
abbrev pub length_by : List ℕ → List (List ℕ × List ℕ) → Result ℕ FrontFault
length_by method fields =
    uncoded (values_of (codes "transfer-encoding") fields) (length_of method (values_of (codes "content-length") fields))

-- the part is the word close, without regard to case and to blanks and tabs at its ends
abbrev pub is_close : List ℕ → Bool
is_close part = bytes_eq (map to_ascii_lowercase (trim_ows part)) (codes "close")

-- one of the parts between commas is
abbrev pub has_close : List ℕ → Bool
has_close value = list_any is_close (slice_split (λ b. b == 44) value)

-- a connection field asks to close
abbrev pub close_by : List (List ℕ × List ℕ) → Bool
close_by fields = list_any has_close (values_of (codes "connection") fields)

-- how long the body behind a head is
abbrev pub body_length : RequestHead → Result ℕ FrontFault
body_length head = length_by head.method (map name_and_value head.fields)

-- whether a head asks to close the connection: its version is 1.0, or a field asks
abbrev pub asks_to_close : RequestHead → Bool
asks_to_close head = (head.minor == 0) || close_by (map name_and_value head.fields)
