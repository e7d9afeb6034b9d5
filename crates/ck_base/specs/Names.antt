-- Names, and the lock that a zone belongs to.
use Rattle.std.specs.Prelude.{◌≡◌, ℕ, ◌%◌, ◌<◌, ◌≤◌, Bool, not, ◌&&◌, nat_le, List, ◌∷◌, ◌++◌, length, sum, Option, None, position}

-- a byte that may stand in a name: a space or a visible ASCII character
abbrev pub is_name_byte : ℕ → Bool
is_name_byte b = nat_le 0x20 b && nat_le b 0x7E

-- the place of the first byte that may not stand in a name
abbrev pub first_outside : List ℕ → Option ℕ
first_outside bytes = position (λ b. not (is_name_byte b)) bytes

-- a name has 1 to 255 bytes, each from 0x20 to 0x7E
abbrev pub IsName : List ℕ → Type 0
IsName bytes = (0 < length bytes) × (length bytes ≤ 255) × (first_outside bytes ≡ None)

-- the lock of a zone: the sum of the bytes of the owner, a zero byte and the zone name, modulo 16
abbrev pub lock_of_names : List ℕ → List ℕ → ℕ
lock_of_names owner zone = sum (owner ++ 0 ∷ zone) % 16
