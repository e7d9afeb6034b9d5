use Rattle.std.proofs.Common.{◌≡◌, ◌+◌, ℕ, List, fold, count_by, take}
use Rattle.std.specs.BTreeMap.{values}
use Rattle.zone_model.specs.Zones.{after_write, puts_name}
use Rattle.zone_commit.specs.Maps.{count_at}
use Rattle.zone_commit.specs.Kept.{AreLinked}
use Rattle.zone_commit.proofs.indexed.write_all.Given as goal

abbrev pub invariant-loop-write : goal.invariant-loop-write
invariant-loop-write l = record {
  linked : AreLinked l.zone.rows l.zone.children l.zone.referrers;
  rows : values l.zone.rows ≡ fold after_write (values l.fn.zone.rows) (take l.write-index l.writes);
  counts : (x : List ℕ) → count_at l.counts x ≡ count_at l.fn.counts x + count_by (puts_name x) (take l.write-index l.writes);
}
