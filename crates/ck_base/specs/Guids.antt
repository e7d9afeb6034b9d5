-- The form of a share's short GUID.
use Rattle.std.specs.Prelude.{◌≡◌, ℕ, Bool, true, ◌&&◌, ◌||◌, ◌==◌, nat_le, if◌then◌else◌, List, length, Option, None, Some}
use Rattle.std.specs.List.{list_all}

-- a digit or a letter from a to f
abbrev pub is_hex_digit : ℕ → Bool
is_hex_digit b = (nat_le 0x30 b && nat_le b 0x39) || (nat_le 0x61 b && nat_le b 0x66)

-- 33 lower-case hexadecimal digits: one for the lock, and 32 for a word
abbrev pub IsGuid : List ℕ → Type 0
IsGuid bytes = (length bytes ≡ 33) × (list_all is_hex_digit bytes ≡ true)

-- the GUID that the bytes are, if they are one
abbrev pub guid_of : List ℕ → Option (List ℕ)
guid_of bytes = if length bytes == 33 && list_all is_hex_digit bytes then Some bytes else None
