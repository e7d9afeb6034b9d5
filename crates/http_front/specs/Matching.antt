-- What the router takes from a path.
use Rattle.std.specs.Prelude.{ℕ, List, [], ◌∷◌, ◌++◌, codes, Option, option_map, option_and_then}
use Rattle.matchit.specs.Rows.{RowsOf, param_token}
use Rattle.matchit.specs.Router.{RouteOf}
use Rattle.matchit.specs.Params.{walk, named}
use Rattle.matchit.specs.declared.params.Params.{Params}
use Rattle.http_front.specs.declared.route.Segments.{Segments as Borrowed}
use Rattle.http_front.specs.Routes.{Segments}

-- the tokens of the one form: five segments behind the first two words
abbrev pub path_tokens : List ℕ
path_tokens =
    codes "/database/1/" ++ param_token ∷ 47 ∷ param_token ∷ 47 ∷ param_token ∷ 47 ∷ param_token ∷ 47 ∷ param_token ∷ []

-- the one form, with the places of its names
abbrev pub path_route : RouteOf (Unit {0})
path_route = record {
  pattern = path_tokens;
  text = codes "/database/1/{container}/{environment}/{database}/{group}/{name}";
  names = (13, 22) ∷ (25, 36) ∷ (39, 47) ∷ (50, 55) ∷ (58, 62) ∷ [];
  value = tt;
}

abbrev pub path_rows : RowsOf (RouteOf (Unit {0}))
path_rows = (path_tokens, path_route) ∷ []

-- each name with the part of the path that it took
abbrev pub parts_taken : Params → List (List ℕ × List ℕ)
parts_taken p = walk p.pattern.now p.text.now p.path.now p.names.now 0 0

-- the five segments by their names
abbrev pub segments_named : List (List ℕ × List ℕ) → Option Segments
segments_named parts =
    option_and_then (λ c. option_and_then (λ e. option_and_then (λ d. option_and_then (λ g. option_map
    (λ n. record { container = c; environment = e; database = d; group = g; name = n })
    (named (codes "name") parts)) (named (codes "group") parts)) (named (codes "database") parts))
    (named (codes "environment") parts)) (named (codes "container") parts)

-- the bytes of borrowed segments
abbrev pub segments_now : Borrowed → Segments
segments_now s = record { container = s.container.now; environment = s.environment.now; database = s.database.now; group = s.group.now; name = s.name.now }
