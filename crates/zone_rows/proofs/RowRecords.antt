-- Names and records that rows use.
use Rattle.std.specs.Prelude.{ℕ, Bool, true, List, [], ◌∷◌, Option, None, Some, codes}
use Rattle.share_records.specs.declared.permission.Permission.{Permission}
use Rattle.share_records.specs.declared.permission.Permission.TheVariants.{Nothing}
use Rattle.share_records.specs.declared.participant.PartKind.TheVariants.{Member, Public}
use Rattle.share_records.specs.declared.participant.Participant.{Participant}
use Rattle.record_model.specs.declared.records.Body.TheVariants.{Plain, Share}
use Rattle.record_model.specs.declared.records.Record.{Record}
use Rattle.zone_model.specs.declared.outcomes.Outcome.{Outcome}
use Rattle.zone_model.specs.declared.outcomes.Outcome.TheVariants.{Put, Deleted, Refused}
use Rattle.zone_rows.proofs.RowWords.{ann, link}

abbrev pub a : List ℕ
a = codes "a"

abbrev pub b : List ℕ
b = codes "b"

abbrev pub d : List ℕ
d = codes "d"

abbrev pub k : List ℕ
k = codes "k"

abbrev pub m : List ℕ
m = codes "m"

abbrev pub p : List ℕ
p = codes "p"

abbrev pub q : List ℕ
q = codes "q"

abbrev pub r : List ℕ
r = codes "r"

abbrev pub s : List ℕ
s = codes "s"

abbrev pub x : List ℕ
x = codes "x"

-- a record that ann made at 1000, with this tag and this parent
abbrev pub row : List ℕ → ℕ → Option (List ℕ) → Record
row name tag parent = record {
  name = name;
  rtype = codes "T";
  tag = tag;
  parent = parent;
  share = None;
  fields = [];
  created = record { moment = 1000; user = ann };
  modified = record { moment = 1000; user = ann };
  body = Plain;
}

-- the record, which names a share
abbrev pub marked : Record → List ℕ → Record
marked root name = record root { share = Some name }

-- the share of a root that ann made at 1000, with its first tag
abbrev pub share_row : List ℕ → List ℕ → Permission → List Participant → Record
share_row name root public people =
    record (row name 1 None) { rtype = codes "cloudkit.share"; body = Share (record { root = root; guid = link; public = public; participants = people }) }

-- who takes part: one whom the owner named, and one who came in by an open share
abbrev pub member : List ℕ → Permission → Bool → Participant
member u permission accepted = record { user = u; kind = Member; permission = permission; accepted = accepted }

abbrev pub stranger : List ℕ → Participant
stranger u = record { user = u; kind = Public; permission = Nothing; accepted = true }

-- the share marks of the records that the replies to puts show
abbrev pub marks : List Outcome → List (Option (List ℕ))
marks [] = []
marks (Put kept ∷ outcomes) = kept.share ∷ marks outcomes
marks (Deleted name ∷ outcomes) = marks outcomes
marks (Refused fault server ∷ outcomes) = marks outcomes
