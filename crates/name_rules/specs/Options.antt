-- Tests of what may be missing.
use Rattle.std.specs.Prelude.{Bool, true, false, Option, None, Some}

-- there is one, and it passes
abbrev pub is_some_and : {X : Type 0} → (X → Bool) → Option X → Bool
is_some_and test None = false
is_some_and test (Some x) = test x

-- there is none, or it passes
abbrev pub is_none_or : {X : Type 0} → (X → Bool) → Option X → Bool
is_none_or test None = true
is_none_or test (Some x) = test x

-- the one that is there, or else the other
abbrev pub or_else : {X : Type 0} → Option X → Option X → Option X
or_else (Some x) other = Some x
or_else None other = other
