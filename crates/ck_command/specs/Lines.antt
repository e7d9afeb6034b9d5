-- The lines on standard error.
use Rattle.std.specs.Prelude.{◌≡◌, ◌⊎◌, ℕ, List, [], ◌∷◌, ◌++◌, Option, codes}
use Rattle.std.specs.Io.KnownBytes.{Appends}
use Rattle.ck_devices.specs.Causes.{Failures, FailedLast}
use Rattle.talk_model.specs.declared.ends.End.{End}
use Rattle.talk_model.specs.declared.ends.End.TheVariants.{Closed, CloseAsked, Cut, BadHead, HeadTooLong, NoLength, BodyTooLong, Spent, NotBuilt}
use Rattle.ck_command.specs.declared.endings.Ending.{Ending}
use Rattle.ck_command.specs.declared.endings.Ending.TheVariants.{Done, DeviceFault, WrongWords, BadFile, Early, OutOfMemory}

abbrev pub name_of : End → List ℕ
name_of Closed = codes "Closed"
name_of CloseAsked = codes "CloseAsked"
name_of Cut = codes "Cut"
name_of BadHead = codes "BadHead"
name_of HeadTooLong = codes "HeadTooLong"
name_of NoLength = codes "NoLength"
name_of BodyTooLong = codes "BodyTooLong"
name_of Spent = codes "Spent"
name_of NotBuilt = codes "NotBuilt"

-- a text and what it is about, with a line feed
abbrev pub line : List ℕ → List ℕ → List ℕ
line text about = text ++ (about ++ 0x0A ∷ [])

-- the line that tells an ending
abbrev pub line_of : Ending → List ℕ
line_of Done = []
line_of DeviceFault = line (codes "device fault") []
line_of WrongWords = line (codes "wrong words") []
line_of (BadFile name) = line (codes "bad file ") name.now
line_of (Early at) = line (codes "ended: ") (name_of at)
line_of OutOfMemory = line (codes "out of memory") []

-- a front of the text stands behind what the sink held
pub record AppendsFront (held now : Option (List ℕ)) (text : List ℕ) : Type 0 where
  pub sent : List ℕ
  pub unsent : List ℕ
  pub parts : text ≡ sent ++ unsent
  pub appended : Appends held now sent

-- the text stands behind what the sink held, which did not fail; or a front of it, where the last write failed and no other
abbrev pub Tells : Option (List ℕ) → Option (List ℕ) → Failures → Failures → List ℕ → Type 0
Tells held now before after text = (Appends held now text × (after.count ≡ before.count)) ⊎ (AppendsFront held now text × FailedLast before after)
