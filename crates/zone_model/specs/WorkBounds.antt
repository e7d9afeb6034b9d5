-- The bounds of the work for a commit and for a page.
use Rattle.std.specs.Prelude.{ℕ, ◌+◌, ◌*◌, List, [], ◌++◌, map, filter, length}
use Rattle.std.specs.List.{list_any, flat_map}
use Rattle.share_records.specs.declared.participant.Participant.{Participant}
use Rattle.share_records.specs.declared.share.Share.{Share as ShareOf}
use Rattle.record_model.specs.declared.records.Record.{Record}
use Rattle.zone_model.specs.declared.commits.Act.{Act}
use Rattle.zone_model.specs.declared.commits.Act.TheVariants.{Writes, DropZone}
use Rattle.zone_model.specs.declared.commits.Commit.{Commit}
use Rattle.zone_model.specs.Names.{is_in, distinct}
use Rattle.zone_model.specs.Records.{names_in}
use Rattle.zone_model.specs.Zones.{Zone, zone_at, after_act, written_name}
use Rattle.zone_model.specs.Ancestry.{is_ancestor}
use Rattle.zone_model.specs.Coverage.{shares_in}

-- the names that a commit writes; the removal of a zone writes each of its names
abbrev pub names_written : Zone → Act → List (List ℕ)
names_written z (Writes ws) = map written_name ws
names_written z DropZone = names_in z.rows
names_written z _ = []

-- the roots of the shares with these names
abbrev pub roots_of : List (List ℕ) → List Record → List (List ℕ)
roots_of names rows = map (λ (s : ShareOf). s.root) (shares_in (filter (λ (r : Record). is_in names r.name) rows))

-- the names at or below one of the roots
abbrev pub names_below : List (List ℕ) → List Record → List (List ℕ)
names_below roots rows = filter (λ x. list_any (λ a. is_ancestor rows a x) roots) (names_in rows)

-- the users whom a share of the zone names
abbrev pub users_in : List Record → List (List ℕ)
users_in rows = flat_map (λ (s : ShareOf). map (λ (p : Participant). p.user) s.participants) (shares_in rows)

-- how many different names there are
abbrev pub how_many : List (List ℕ) → ℕ
how_many names = length (distinct names)

-- from the records before and after, and the names that are written
abbrev pub bound_of : List Record → List Record → List (List ℕ) → ℕ
bound_of before after written =
    let roots = roots_of written before ++ roots_of written after in
    let moved = names_below roots before ++ names_below roots after in
    let users = users_in before ++ users_in after in
    (how_many written + 2 * how_many roots * how_many moved) * (how_many users + 1)

-- how many steps a commit may take
abbrev pub commit_bound : List Commit → Commit → ℕ
commit_bound log c =
    let z = zone_at log c.key in
    bound_of z.rows (after_act z c.act).rows (names_written z c.act)

-- how many steps a page with at most k items may take
abbrev pub page_bound : ℕ → ℕ
page_bound k = k + 1
