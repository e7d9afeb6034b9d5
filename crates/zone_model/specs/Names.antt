-- Names, zones and scopes: when two are the same.
use Rattle.std.specs.Prelude.{Bool, true, false, not, ◌&&◌}
use Rattle.ck_base.specs.KnownNames.{default_zone}
use Rattle.ck_base.specs.declared.key.ZoneKey.{ZoneKey}
use Rattle.ck_base.specs.declared.scope.Scope.{Scope}
use Rattle.ck_base.specs.declared.scope.Scope.TheVariants.{Private, Shared}
use Rattle.name_rules.specs.Names.{same}
pub use Rattle.name_rules.specs.Names.{same, same_option, is_in, has_twice, distinct, with_name, names_of_both}

abbrev pub same_key : ZoneKey → ZoneKey → Bool
same_key k l = same k.owner l.owner && same k.zone l.zone

abbrev pub is_default : ZoneKey → Bool
is_default key = same key.zone default_zone

abbrev pub is_private : Scope → Bool
is_private Private = true
is_private Shared = false

abbrev pub is_shared : Scope → Bool
is_shared scope = not (is_private scope)
