-- Lists of replies, of entries of any kind: one for each that is asked for. `Is` says which entries are asked for, `write` is the
-- JSON of an entry.
use Rattle.std.specs.Prelude.{◌≡◌, ℕ, ◌+◌, ⊤, ◌⊎◌, List, length, map, take, slice_get, Some, Result, Ok, Err}
use Rattle.std.specs.List.{AllZip}
use Rattle.serde_json.specs.Data.{Data}
use Rattle.wire_calls.specs.declared.reply_fault.ReplyFault.{ReplyFault}
use Rattle.wire_calls.specs.declared.reply_fault.ReplyFault.TheVariants.{BadReply, NoMemory}
use Rattle.wire_calls.specs.Lists.{list_data}

-- the JSON is that of the entry, which is one that is asked for
pub record IsEntryFor {A E : Type 0} (Is : A → E → Type 0) (write : E → Data) (a : A) (d : Data) (e : E) : Type 0 where
  pub asked : Is a e
  pub written : write e ≡ d

-- some entry that is asked for has the JSON
abbrev pub IsAnswered : {A E : Type 0} → (A → E → Type 0) → (E → Data) → A → Data → Type 0
IsAnswered {A} {E} Is write a d = (e : E) × IsEntryFor Is write a d e

-- the one with this number, counted from 1, is no entry that is asked for there, and each before it is one
pub record IsFirstWrong {A E : Type 0} (Is : A → E → Type 0) (write : E → Data) (wants : List A) (ds : List Data) (at : ℕ) : Type 0 where
  pub before : ℕ
  pub number : at ≡ before + 1
  pub asked : A
  pub json : Data
  pub wanted : slice_get wants before ≡ Some asked
  pub told : slice_get ds before ≡ Some json
  pub wrong : IsAnswered Is write asked json → ⊥
  pub right : AllZip (IsAnswered Is write) (take before wants) (take before ds)

-- ---- objects with a list

-- an object with such a list alone, of so many
pub record IsListOf (name : List ℕ) (many : ℕ) (d : Data) (ds : List Data) : Type 0 where
  pub written : list_data name ds ≡ d
  pub count : length ds ≡ many

-- an object with a list alone of an entry for each that is asked for
pub record IsListFor {A E : Type 0} (Is : A → E → Type 0) (write : E → Data) (name : List ℕ) (wants : List A) (d : Data) (es : List E) : Type 0 where
  pub asked : AllZip Is wants es
  pub written : list_data name (map write es) ≡ d

-- a list of as many as are asked for, of which that is the first wrong one
abbrev pub IsWrongIn : {A E : Type 0} → (A → E → Type 0) → (E → Data) → List ℕ → List A → Data → ℕ → Type 0
IsWrongIn Is write name wants d at = (ds : List Data) × IsListOf name (length wants) d ds × IsFirstWrong Is write wants ds at

-- where it goes wrong: at 0 the whole
abbrev pub IsBadList : {A E : Type 0} → (A → E → Type 0) → (E → Data) → List ℕ → List A → Data → ℕ → Type 0
IsBadList Is write name wants d at =
    ((at ≡ 0) × ((ds : List Data) → IsListOf name (length wants) d ds → ⊥)) ⊎ IsWrongIn Is write name wants d at

-- what is told, memory aside: a value that is right, or the place of the fault
abbrev pub Tells : {A : Type 0} → (A → Type 0) → (ℕ → Type 0) → Result A ReplyFault → Type 0
Tells right wrong (Ok x) = right x
Tells right wrong (Err (BadReply at)) = wrong at
Tells right wrong (Err NoMemory) = ⊤
