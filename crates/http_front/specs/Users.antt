-- The table of users: what it holds, what a web token stands for, the text that it is written as, and what a text is read as.
use Rattle.std.specs.Prelude.{◌≢◌, ℕ, ◌+◌, Bool, not, ◌&&◌, nat_le, ◌==◌, if◌then◌else◌, List, [], ◌∷◌, ◌++◌, length, map, IsTrue, Option, None, Some, Result, Ok, Err}
use Rattle.std.specs.Option.{is_none, option_map}
use Rattle.std.specs.List.{find, list_all, flat_map, join_with_byte, slice_split, AllPass, IsDistinct}
use Rattle.std.specs.Str.{bytes_eq}
use Rattle.ck_base.specs.KnownNames.{default_owner}
pub use Rattle.http_front.specs.Environments.{is_environment}
use Rattle.http_front.specs.declared.users.UsersFault.{UsersFault}
use Rattle.http_front.specs.declared.users.UsersFault.TheVariants.{BadLine}

-- the container and its environment, the API token, and each web token with the user that it stands for
pub record Table : Type 0 where
  pub container : List ℕ
  pub environment : List ℕ
  pub api_token : List ℕ
  pub users : List (List ℕ × List ℕ)

-- the user of the first pair with this web token
abbrev pub user_of_token : List (List ℕ × List ℕ) → List ℕ → Option (List ℕ)
user_of_token users token = option_map (λ pair. pair.1) (find (λ pair. bytes_eq token pair.0) users)

-- a visible ASCII character, which is no space
abbrev pub is_part_byte : ℕ → Bool
is_part_byte b = nat_le 0x21 b && nat_le b 0x7E

-- a part of a line: 1 to 255 visible characters
abbrev pub is_part : List ℕ → Bool
is_part bytes = nat_le 1 (length bytes) && nat_le (length bytes) 255 && list_all is_part_byte bytes

-- a part that may name a user
abbrev pub is_user : List ℕ → Bool
is_user bytes = is_part bytes && not (bytes_eq bytes default_owner)

-- the web tokens of the pairs
abbrev pub tokens_of : List (List ℕ × List ℕ) → List (List ℕ)
tokens_of users = map (λ pair. pair.0) users

-- the users of the pairs
abbrev pub names_of : List (List ℕ × List ℕ) → List (List ℕ)
names_of users = map (λ pair. pair.1) users

-- what may be written as a table
pub record IsTable (table : Table) : Type 0 where
  pub container : IsTrue (is_part table.container)
  pub environment : IsTrue (is_environment table.environment)
  pub api_token : IsTrue (is_part table.api_token)
  pub tokens : AllPass is_part (tokens_of table.users)
  pub users : AllPass is_user (names_of table.users)
  pub distinct : IsDistinct bytes_eq (tokens_of table.users)

-- a line is its parts with a space between them, and a line feed
abbrev pub line_text : List (List ℕ) → List ℕ
line_text parts = join_with_byte 0x20 parts ++ 0x0A ∷ []

-- the line of a web token and its user
abbrev pub user_text : List ℕ × List ℕ → List ℕ
user_text pair = line_text (pair.0 ∷ pair.1 ∷ [])

-- the text of a table: its first line, and a line for each pair
abbrev pub table_text : Table → List ℕ
table_text table =
    line_text (table.container ∷ table.environment ∷ table.api_token ∷ []) ++ flat_map user_text table.users

-- no table is written as this text
abbrev pub IsNoTable : List ℕ → Type 0
IsNoTable text = (table : Table) → IsTable table → text ≢ table_text table

-- the pieces of a text that is cut at each byte c
abbrev pub pieces_at : ℕ → List ℕ → List (List ℕ)
pieces_at c text = slice_split (λ b. b == c) text

-- the lines of a text and, last, what stands behind its last line feed
abbrev pub lines_of : List ℕ → List (List ℕ)
lines_of text = pieces_at 0x0A text

-- the parts of a line, which is cut at each space
abbrev pub parts_of : List ℕ → List (List ℕ)
parts_of line = pieces_at 0x20 line

-- the table without users that the parts of a first line make
abbrev pub opening_of : List (List ℕ) → Option Table
opening_of (container ∷ environment ∷ api_token ∷ []) =
    if is_part container && is_environment environment && is_part api_token
    then Some (record { container = container; environment = environment; api_token = api_token; users = [] })
    else None
opening_of _ = None

-- the pair that the parts of a later line make, behind the pairs of the lines before it
abbrev pub pair_of : List (List ℕ × List ℕ) → List (List ℕ) → Option (List ℕ × List ℕ)
pair_of earlier (token ∷ user ∷ []) =
    if is_part token && is_user user && is_none (user_of_token earlier token)
    then Some (token, user) else None
pair_of earlier _ = None

-- all pairs, where the lines before line n gave the earlier ones, or the first bad line;
-- behind the last line feed stands nothing
abbrev pub users_of : ℕ → List (List ℕ × List ℕ) → List (List ℕ) → Result (List (List ℕ × List ℕ)) UsersFault
users_of n earlier [] = Ok earlier
users_of n earlier (rest ∷ []) = if length rest == 0 then Ok earlier else Err (BadLine n)
users_of n earlier (line ∷ next ∷ more) =
    elim (pair_of earlier (parts_of line)) [
      | None ↦ Err (BadLine n)
      | Some pair ↦ users_of (n + 1) (earlier ++ pair ∷ []) (next ∷ more)
    ]

-- the table that the first line opens, with its users
abbrev pub table_with : Option Table → Result (List (List ℕ × List ℕ)) UsersFault → Result Table UsersFault
table_with None users = Err (BadLine 1)
table_with (Some table) (Err fault) = Err fault
table_with (Some table) (Ok users) = Ok (record table { users = users })

-- the table that the lines make, or the first bad line, counted from 1
abbrev pub table_of_lines : List (List ℕ) → Result Table UsersFault
table_of_lines (line ∷ next ∷ more) = table_with (opening_of (parts_of line)) (users_of 2 [] (next ∷ more))
table_of_lines _ = Err (BadLine 1)

-- the table that a text is read as, or its first bad line
abbrev pub table_of : List ℕ → Result Table UsersFault
table_of text = table_of_lines (lines_of text)
