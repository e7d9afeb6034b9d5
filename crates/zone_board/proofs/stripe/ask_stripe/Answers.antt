use Rattle.std.proofs.Common.{refl}
use Rattle.zone_board.proofs.AskLemmas.{lookup_answered, modify_answered, modify_made, modify_makes, modify_keeps}
use Rattle.zone_board.proofs.stripe.ask_stripe.Goals as goal

pub returns-in_ok-modify-in-Modify-clause-made : goal.returns-in_ok-modify-in-Modify-clause-made
returns-in_ok-modify-in-Modify-clause-made c =
    modify_made c.args.lock c.args.events.now.items c.args.part.now c.requires.part c.requires.puts _ _ _ _ _ _ _ c.in-Modify.is _ _ c.as_slice.ensures c.as_slice-in-Modify.ensures _ refl refl
    c.args.seat c.modify.new.events.items c.in_ok-modify-in-Modify.ensures.made

pub returns-in_ok-modify-in-Modify-clause-event : goal.returns-in_ok-modify-in-Modify-clause-event
returns-in_ok-modify-in-Modify-clause-event c =
    modify_makes c.args.lock c.args.events.now.items c.args.part.now c.requires.part c.requires.puts _ _ _ _ _ _ _ c.in-Modify.is _ _ c.as_slice.ensures c.as_slice-in-Modify.ensures _ refl refl
    c.in_ok-modify-in-Modify.field-0.event c.in_ok-modify-in-Modify.ensures.event

pub returns-in_ok-modify-in-Modify-clause-answer : goal.returns-in_ok-modify-in-Modify-clause-answer
returns-in_ok-modify-in-Modify-clause-answer c =
    modify_answered c.args.lock c.args.events.now.items c.args.part.now c.requires.part c.requires.puts _ _ _ _ _ _ _ c.in-Modify.is _ _ c.as_slice.ensures c.as_slice-in-Modify.ensures _ refl refl
    c.in_ok-modify-in-Modify.field-0.answer c.in_ok-modify-in-Modify.ensures.answer

pub returns-in_ok-modify-in-Modify-clause-kept : goal.returns-in_ok-modify-in-Modify-clause-kept
returns-in_ok-modify-in-Modify-clause-kept c kept =
    modify_keeps c.args.lock c.args.events.now.items c.args.part.now c.requires.part c.requires.puts _ _ _ _ _ _ _ c.in-Modify.is _ _ c.as_slice.ensures c.as_slice-in-Modify.ensures _ refl refl
    c.args.seat c.modify.new.events.items c.in_ok-modify-in-Modify.ensures.formed c.in_ok-modify-in-Modify.ensures.made kept

pub returns-in_ok-find_records-in-Lookup-clause-answer : goal.returns-in_ok-find_records-in-Lookup-clause-answer
returns-in_ok-find_records-in-Lookup-clause-answer c =
    lookup_answered c.args.lock c.args.events.now.items c.args.part.now c.requires.part c.requires.puts _ _ _ _ c.in-Lookup.is _ _ c.in_ok-find_records-in-Lookup.field-0
    c.deref.ensures.value c.as_slice-in-Lookup.ensures c.in_ok-find_records-in-Lookup.ensures
