-- What the clock and the random words gave for a request.
use Rattle.std.specs.Prelude.{◌≡◌, ℕ, Bool, MatchBool, ◌<◌, List, [], ◌∷◌, ◌++◌, map, length, Result, Ok, Err, if◌then◌else◌}
use Rattle.std.specs.List.{flat_map}
use Rattle.ck_devices.specs.declared.faults.Failed.{Failed}
use Rattle.ck_devices.specs.Causes.{HasCause}
use Rattle.ck_devices.specs.Runs.{GivesInTurn}
use Rattle.wire_calls.specs.declared.call.Call.TheVariants.{Modify, Lookup}
use Rattle.drawn_names.specs.Drawing.{words_drawn}
use Rattle.talk_model.specs.declared.marks.Mark.{Mark}
use Rattle.talk_model.specs.declared.wants.Want.{Want}
use Rattle.talk_model.specs.declared.wants.Want.TheVariants.{Refused, Called}

-- a moment, the words that were drawn, and whether none of the draws failed
pub record Given : Type 0 where
  pub moment : ℕ
  pub words : List (List ℕ)
  pub drawn : Bool

-- what a mark tells of it
abbrev pub given_of : Mark → Given
given_of m = record { moment = m.moment; words = m.words.items; drawn = m.drawn }

-- how many words are drawn for a request
abbrev pub words_of : Want → ℕ
words_of (Refused error) = 0
words_of (Called (Modify c)) = words_drawn c.ops
words_of (Called (Lookup c)) = 0

-- all words were drawn, or less than all before a draw failed
abbrev pub AreWordsFor : Want → Given → Type 0
AreWordsFor w g = MatchBool g.drawn (length g.words ≡ words_of w) (length g.words < words_of w)

-- the draws of a request: each that gave a word, and then the one that failed
abbrev pub draws_by : List (List ℕ) → Bool → List (Result (List ℕ) Failed)
draws_by words drawn = map (λ word. Ok word) words ++ (if drawn then [] else Err (record {}) ∷ [])

abbrev pub draws_of : List Given → List (Result (List ℕ) Failed)
draws_of given = flat_map (λ (g : Given). draws_by g.words g.drawn) given

-- one draw, which fails only where the count of faults rises
abbrev pub Draws : {R : Type 0} → (R → Result (List ℕ) Failed → R → Type 0) → (R → ℕ) → R → Result (List ℕ) Failed → R → Type 0
Draws gives count before word after = gives before word after × HasCause (count before) (count after) word

-- The clock gave the moments in turn, and the words all that was drawn.
pub record GaveFor {C R : Type 0} (clock : C → ℕ → C → Type 0) (draws : R → Result (List ℕ) Failed → R → Type 0) (c c2 : C) (r r2 : R) (given : List Given) : Type 0 where
  pub moments : GivesInTurn clock c (map (λ (g : Given). g.moment) given) c2
  pub words : GivesInTurn draws r (draws_of given) r2
