-- What is to be done with subscriptions by the list of a call.
use Rattle.std.specs.Prelude.{ℕ, if◌then◌else◌, List, bytes_eq, codes, Option, None, Some, is_some, IfSome, option_and_then, option_map, Result}
use Rattle.serde_json.specs.Data.{Data}
use Rattle.serde_json.specs.Find.{as_array, as_object, as_str}
use Rattle.ck_base.specs.Names.{IsName}
use Rattle.field_values.specs.Members.{found}
use Rattle.field_values.specs.References.{name_in}
use Rattle.wire_calls.specs.declared.subscription_lists.SubscriptionOp.{SubscriptionOp}
use Rattle.wire_calls.specs.declared.subscription_lists.SubscriptionOp.TheVariants.{Create, Delete}
use Rattle.wire_calls.specs.declared.fault.CallKey.TheVariants.{Operations}
use Rattle.wire_calls.specs.declared.fault.BadCall.{BadCall}
use Rattle.wire_calls.specs.Listings.{each_in}

-- the ID that a subscription has, if it has one, unless that is no name
abbrev pub id_given : Option Data → Option (Option (List ℕ))
id_given None = Some None
id_given (Some d) = option_map Some (name_in (Some d))

abbrev pub id_of_object : Data → Option (Option (List ℕ))
id_of_object d = if is_some (as_object d) then id_given (found (codes "subscriptionID") d) else None

-- what an operation of this type does with the subscription of the ID; just a create may be without one
abbrev pub subscription_op_as : List ℕ → Option (List ℕ) → Option SubscriptionOp
subscription_op_as kind id =
    if bytes_eq kind (codes "create") then Some (Create id)
    else (if bytes_eq kind (codes "delete") then option_map Delete id else None)

abbrev pub subscription_op_of : Option (List ℕ) → Option (Option (List ℕ)) → Option SubscriptionOp
subscription_op_of None id = None
subscription_op_of (Some kind) None = None
subscription_op_of (Some kind) (Some id) = subscription_op_as kind id

-- an object with operationType, and an object as subscription
abbrev pub subscription_op_in : Data → Option SubscriptionOp
subscription_op_in d =
    subscription_op_of (option_and_then as_str (found (codes "operationType") d))
    (option_and_then id_of_object (found (codes "subscription") d))

abbrev pub subscription_ops_at : Option Data → Result (List SubscriptionOp) BadCall
subscription_ops_at o = each_in Operations subscription_op_in (option_and_then as_array o)

abbrev pub IsMeantSubscriptionOp : SubscriptionOp → Type 0
IsMeantSubscriptionOp (Create id) = IfSome id IsName
IsMeantSubscriptionOp (Delete id) = IsName id
