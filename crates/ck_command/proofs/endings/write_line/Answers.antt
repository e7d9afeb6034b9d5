use Rattle.std.proofs.Common.{refl}
use Rattle.std.proofs.lemmas.Result.{err_from_is_err_and, on_err_weaker}
use Rattle.ck_command.proofs.LineLemmas.{front_of, front_of_first, front_of_next}
use Rattle.ck_command.proofs.endings.write_line.Goals as goal

pub returns-in_err-write_whole-clause-err : goal.returns-in_err-write_whole-clause-err
returns-in_err-write_whole-clause-err g c =
    let p = err_from_is_err_and c.from_residual.result c.from_residual.ensures.1 in
    rw p.1 (front_of_first _ _ _ _ (front_of _ _ _ _ c.as_bytes.ensures.value c.in_err-write_whole.ensures.err))

pub returns-in_err-write_whole-2-clause-err : goal.returns-in_err-write_whole-2-clause-err
returns-in_err-write_whole-2-clause-err g c =
    let p = err_from_is_err_and c.from_residual-in_err-write_whole-2.result c.from_residual-in_err-write_whole-2.ensures.1 in
    rw p.1 (front_of_next _ _ _ _ _ _ c.as_bytes.ensures.value c.in_ok-write_whole.ensures.ok
    (front_of_first _ _ _ _ (front_of _ _ _ _ c.as_bytes-2.ensures.value c.in_err-write_whole-2.ensures.err)))

pub returns-clause-err : goal.returns-clause-err
returns-clause-err g c = on_err_weaker c.write_whole-3.result
    (λ h. front_of_next _ _ _ _ _ _ c.as_bytes.ensures.value c.in_ok-write_whole.ensures.ok
    (front_of_next _ _ _ _ _ _ c.as_bytes-2.ensures.value c.in_ok-write_whole-2.ensures.ok
    (front_of _ _ _ _ refl h)))
    c.write_whole-3.ensures.err
