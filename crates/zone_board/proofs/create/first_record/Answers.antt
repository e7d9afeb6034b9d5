use Rattle.std.proofs.Common.{arith}
use Rattle.zone_board.proofs.FieldLemmas.{too_large, is_first}
use Rattle.zone_board.proofs.create.first_record.Goals as goal

pub returns-then-record_size-gt-RECORD_SIZE : goal.returns-then-record_size-gt-RECORD_SIZE
returns-then-record_size-gt-RECORD_SIZE c =
    too_large c.args.asking.user.now c.args.asking.moment c.args.name _ c.args.draft.now c.in_ok-row.row c.in-Some.is c.requires c.as_slice.result.now c.as_slice.ensures c.in_ok-row.ensures c.record_size.result c.record_size.ensures (omega arith)

pub returns : goal.returns
returns c =
    is_first c.args.asking.user.now c.args.asking.moment c.args.name _ c.args.draft.now c.in_ok-row.row c.in-Some.is c.requires c.as_slice.result.now c.as_slice.ensures c.in_ok-row.ensures c.record_size.result c.record_size.ensures (omega arith)
