-- Keys that are the same, with what is told of names.
use Rattle.std.proofs.Common.{◌≡◌, true}
use Rattle.std.proofs.lemmas.Bool.{and_from}
use Rattle.ck_base.specs.declared.key.ZoneKey.{ZoneKey}
use Rattle.zone_model.specs.Names.{same, same_key}
use Rattle.name_rules.proofs.NameLemmas.{same-refl}
pub use Rattle.name_rules.proofs.NameLemmas.{same-true, same-refl, same-sym_false, before-asym}

pub key-refl : (key : ZoneKey) → same_key key key ≡ true
key-refl key = and_from (same key.owner key.owner) _ (same-refl key.owner) (same-refl key.zone)
