-- What is to be done with subscriptions.
use Rattle.std.proofs.Common.{List, ℕ, Option, None, Some, option_map}
use Rattle.std.specs.Prelude.{IfSome}
use Rattle.ck_base.specs.Names.{IsName}
use Rattle.wire_calls.specs.declared.subscription_lists.SubscriptionOp.TheVariants.{Delete}
use Rattle.wire_calls.specs.SubscriptionLists.{IsMeantSubscriptionOp}

pub delete_meant : (id : Option (List ℕ)) → IfSome id IsName → IfSome (option_map Delete id) IsMeantSubscriptionOp
delete_meant None is = tt
delete_meant (Some id) is = is
