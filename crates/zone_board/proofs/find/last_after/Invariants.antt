use Rattle.std.proofs.Common.{◌≡◌, fold, drop}
use Rattle.std.specs.Prelude.{option_map}
use Rattle.zone_model.specs.Options.{or_else}
use Rattle.plain_creates.specs.OnePuts.{put_by}
use Rattle.zone_board.proofs.find.last_after.Given as goal

abbrev pub invariant-loop-commit : goal.invariant-loop-commit
invariant-loop-commit l = fold (λ last c. or_else (put_by l.key l.name c) last) (option_map (λ r. r.now) l.last) (drop l.commit-index l.commits)
    ≡ fold (λ last c. or_else (put_by l.key l.name c) last) (option_map (λ r. r.now) l.fn.found) l.commits
