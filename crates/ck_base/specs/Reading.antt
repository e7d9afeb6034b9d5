-- Which name some bytes are, or the first fault.
use Rattle.std.specs.Prelude.{ℕ, List, length, nat_lt, ◌==◌, if◌then◌else◌, Option, None, Some, Result, Ok, Err}
use Rattle.ck_base.specs.Names.{first_outside}
use Rattle.ck_base.specs.declared.name.NameFault.{NameFault}
use Rattle.ck_base.specs.declared.name.NameFault.TheVariants.{Empty, TooLong, BadChar}

-- the bytes, unless one of them is refused
abbrev pub unless_outside : List ℕ → Option ℕ → Result (List ℕ) NameFault
unless_outside bytes None = Ok bytes
unless_outside bytes (Some at) = Err (BadChar at)

-- no bytes are no name, then too many aren't, then those with a byte out of range
abbrev pub name_of : List ℕ → Result (List ℕ) NameFault
name_of bytes =
    if length bytes == 0 then Err Empty
    else (if nat_lt 255 (length bytes) then Err (TooLong (length bytes)) else unless_outside bytes (first_outside bytes))
