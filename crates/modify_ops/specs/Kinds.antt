-- The words of operations in JSON, as in "Record Operation Dictionary" of the CloudKit Web Services Reference.
use Rattle.std.specs.Prelude.{ℕ, List, [], ◌∷◌, codes, bytes_eq, find, Option}
use Rattle.zone_model.specs.declared.operations.OpKind.{OpKind}
use Rattle.zone_model.specs.declared.operations.OpKind.TheVariants.{Create, Update, ForceUpdate, Replace, ForceReplace, Delete, ForceDelete}

abbrev pub kind_name : OpKind → List ℕ
kind_name Create = codes "create"
kind_name Update = codes "update"
kind_name ForceUpdate = codes "forceUpdate"
kind_name Replace = codes "replace"
kind_name ForceReplace = codes "forceReplace"
kind_name Delete = codes "delete"
kind_name ForceDelete = codes "forceDelete"

-- the kind that has the name
abbrev pub kind_named : List ℕ → Option OpKind
kind_named name = find (λ kind. bytes_eq (kind_name kind) name) (Create ∷ Update ∷ ForceUpdate ∷ Replace ∷ ForceReplace ∷ Delete ∷ ForceDelete ∷ [])
