use Rattle.std.proofs.Common.{◌≡◌, ◌≤◌, ◌-◌, drop, length}
use Rattle.ck_records.proofs.AscendingLemmas.{users, rises}
use Rattle.ck_records.proofs.reply_record.are_ascending.Given as goal

abbrev pub invariant-loop-place : goal.invariant-loop-place
invariant-loop-place l = record {
  some : 1 ≤ l.place;
  so_far : rises (users l.participants) ≡ rises (users (drop (l.place - 1) l.participants));
}

abbrev pub decreases-loop-place : goal.decreases-loop-place
decreases-loop-place l = length l.participants - l.place
