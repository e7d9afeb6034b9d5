use Rattle.std.proofs.Common.{◌≡◌, ◌++◌, drop}
use Rattle.zone_model.specs.Putting.{after_wishes}
use Rattle.zone_judging.specs.Wishes.{AreInOrder}
use Rattle.zone_puts.specs.Orders.{AreFieldsInOrder}
use Rattle.zone_puts.proofs.fields.after_wishes.Given as goal

abbrev pub invariant-loop-wish : goal.invariant-loop-wish
invariant-loop-wish l = record {
  done : l.after.items ++ after_wishes l.rest.items (drop l.wish-index l.wishes) ≡ after_wishes l.fn.fields l.wishes;
  fields : AreFieldsInOrder l.rest.items;
  wishes : AreInOrder (drop l.wish-index l.wishes);
}
