-- What a commit is told of a record that it writes.
use Rattle.std.specs.Prelude.{◌≡◌, ℕ, Bool, List, None, if◌then◌else◌}
use Rattle.record_model.specs.declared.records.Stamp.{Stamp}
use Rattle.record_model.specs.declared.records.Record.{Record}
use Rattle.zone_model.specs.Records.{is_there}
use Rattle.zone_model.specs.Effect.{Request, stamp}

-- how often the name was put before, whether the zone has a record of it, and when the request is made and by whom
pub record IsToldOf (q : Request) (name : List ℕ) (puts : ℕ) (there : Bool) (s : Stamp) : Type 0 where
  pub counted : q.puts name ≡ puts
  pub there_is : is_there q.rows name ≡ there
  pub stamp_is : stamp q ≡ s

-- the record, which is marked no more where its share goes
abbrev pub left_marked : Bool → Record → Record
left_marked unmarked r = record r { share = if unmarked then None else r.share }
