use Rattle.std.proofs.Common.{◌≡◌, Ok, rules}
use Rattle.ck_base.specs.Reading.{name_of}
use Rattle.http_front.proofs.UsersLemmas.{part_is_name}
use Rattle.http_front.proofs.users.name_of_user.Goals as goal

pub unreachable-requires : goal.unreachable-requires
unreachable-requires c =
    let name : name_of c.args.part.now ≡ Ok c.args.part.now = part_is_name c.args.part.now c.requires in
    search rules
