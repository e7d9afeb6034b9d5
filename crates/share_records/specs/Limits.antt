-- The limit of participants.
use Rattle.std.specs.Prelude.{ℕ}

-- the participants of a share besides its owner
abbrev pub most_participants : ℕ
most_participants = 100
