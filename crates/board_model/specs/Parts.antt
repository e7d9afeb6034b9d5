-- Which parts a lock may be asked.
use Rattle.std.specs.Prelude.{◌≡◌, ℕ, ◌<◌, ◌^◌, true, List, length}
use Rattle.std.specs.List.{list_all}
use Rattle.ck_base.specs.Names.{lock_of_names}
use Rattle.ck_base.specs.declared.key.ZoneKey.{ZoneKey}
use Rattle.ck_base.specs.declared.scope.Scope.{Scope}
use Rattle.ck_base.specs.declared.scope.Scope.TheVariants.{Private}
use Rattle.zone_model.specs.declared.operations.Op.{Op}
use Rattle.zone_model.specs.Names.{is_default}
use Rattle.zone_model.specs.Form.{IsKey}
use Rattle.plain_creates.specs.PlainCreates.{is_plain_create}
use Rattle.zone_model.specs.OpForms.{AreMeantOps}
use Rattle.drawn_names.specs.Drawing.{words_drawn}
use Rattle.board_model.specs.declared.parts.Part.{Part}
use Rattle.board_model.specs.declared.parts.Part.TheVariants.{Modify, Lookup}

-- the zone is of the lock, and the user's own default zone
pub record IsOwnDefault (lock : ℕ) (user : List ℕ) (scope : Scope) (key : ZoneKey) : Type 0 where
  pub of_lock : lock_of_names key.owner key.zone ≡ lock
  pub in_private : scope ≡ Private
  pub by_owner : user ≡ key.owner
  pub in_default : is_default key ≡ true
  pub named : IsKey key

-- operations of a request, each a create of a record that stands alone, with the words that they draw
pub record AreBuilt (ops : List Op) (moment : ℕ) (words : List (List ℕ)) : Type 0 where
  pub meant : AreMeantOps ops
  pub plain : list_all is_plain_create ops ≡ true
  pub in_time : moment < 2 ^ 64
  pub enough : length words ≡ words_drawn ops

-- the parts that are built
abbrev pub MayBeAsked : ℕ → Part → Type 0
MayBeAsked lock (Modify user scope key atomic ops moment words) = IsOwnDefault lock user scope key × AreBuilt ops moment words
MayBeAsked lock (Lookup user scope key names) = IsOwnDefault lock user scope key
