use Rattle.std.proofs.Common.{◌≡◌, ◌++◌, ◌∷◌, [], true, false, sym, ap, ◌∙◌, subst, append-nil}
use Rattle.std.specs.List.{AllByRecursion}
use Rattle.ck_base.specs.Names.{IsName}
use Rattle.zone_model.specs.declared.commits.Commit.{Commit}
use Rattle.zone_model.specs.declared.outcomes.Modified.{Modified}
use Rattle.zone_model.specs.declared.outcomes.Outcome.TheVariants.{Put}
use Rattle.zone_model.specs.Events.{log_of}
use Rattle.zone_model.specs.Records.{is_there}
use Rattle.zone_model.specs.Zones.{zone_at}
use Rattle.zone_board.specs.Kept.{IsCreation}
use Rattle.zone_board.proofs.CreateLemmas.{refused_taken, refused_wrong, put_done, creation}
use Rattle.zone_board.proofs.create.create_record.Goals as goal

pub returns-then-is_taken-clause-told : goal.returns-then-is_taken-clause-told
returns-then-is_taken-clause-told c =
    let log = log_of c.args.events.now ++ c.args.commits.now.items in
    let name_taken : is_there (zone_at log c.args.asking.key.now).rows c.args.name ≡ true =
    ap (λ cs. is_there (zone_at (log_of c.args.events.now ++ cs) c.args.asking.key.now).rows c.args.name) (sym c.deref.ensures.value) ∙ sym c.is_taken.ensures ∙ c.if-is_taken.true in
    ap (λ (m : Modified). m.outcomes) (refused_taken c.args.asking log c.args.op.now c.args.name c.requires.own c.requires.puts c.requires.plain name_taken) ∙ ap (λ o. o ∷ []) (sym c.refused.ensures)

pub returns-then-is_taken-clause-made : goal.returns-then-is_taken-clause-made
returns-then-is_taken-clause-made c =
    let log = log_of c.args.events.now ++ c.args.commits.now.items in
    let name_taken : is_there (zone_at log c.args.asking.key.now).rows c.args.name ≡ true =
    ap (λ cs. is_there (zone_at (log_of c.args.events.now ++ cs) c.args.asking.key.now).rows c.args.name) (sym c.deref.ensures.value) ∙ sym c.is_taken.ensures ∙ c.if-is_taken.true in
    sym (ap (λ (m : Modified). c.args.commits.now.items ++ m.commits) (refused_taken c.args.asking log c.args.op.now c.args.name c.requires.own c.requires.puts c.requires.plain name_taken) ∙ append-nil c.args.commits.now.items)

pub returns-then-is_taken-clause-formed : goal.returns-then-is_taken-clause-formed
returns-then-is_taken-clause-formed c =
    let log = log_of c.args.events.now ++ c.args.commits.now.items in
    let name_taken : is_there (zone_at log c.args.asking.key.now).rows c.args.name ≡ true =
    ap (λ cs. is_there (zone_at (log_of c.args.events.now ++ cs) c.args.asking.key.now).rows c.args.name) (sym c.deref.ensures.value) ∙ sym c.is_taken.ensures ∙ c.if-is_taken.true in
    subst (λ (m : Modified). AllByRecursion (IsCreation c.args.asking.key.now) m.commits) (sym (refused_taken c.args.asking log c.args.op.now c.args.name c.requires.own c.requires.puts c.requires.plain name_taken)) tt

pub returns-in_default-clause-told : goal.returns-in_default-clause-told
returns-in_default-clause-told c =
    let log = log_of c.args.events.now ++ c.args.commits.now.items in
    let free : is_there (zone_at log c.args.asking.key.now).rows c.args.name ≡ false =
    ap (λ cs. is_there (zone_at (log_of c.args.events.now ++ cs) c.args.asking.key.now).rows c.args.name) (sym c.deref.ensures.value) ∙ sym c.is_taken.ensures ∙ c.if-is_taken.false in
    ap (λ (m : Modified). m.outcomes) (refused_wrong c.args.asking log c.args.op.now c.args.name c.requires.own c.requires.puts c.requires.plain free (sym c.in_default.is ∙ c.in_ok-row.ensures)) ∙ ap (λ o. o ∷ []) (sym c.refused-in_default.ensures)

pub returns-in_default-clause-made : goal.returns-in_default-clause-made
returns-in_default-clause-made c =
    let log = log_of c.args.events.now ++ c.args.commits.now.items in
    let free : is_there (zone_at log c.args.asking.key.now).rows c.args.name ≡ false =
    ap (λ cs. is_there (zone_at (log_of c.args.events.now ++ cs) c.args.asking.key.now).rows c.args.name) (sym c.deref.ensures.value) ∙ sym c.is_taken.ensures ∙ c.if-is_taken.false in
    sym (ap (λ (m : Modified). c.args.commits.now.items ++ m.commits) (refused_wrong c.args.asking log c.args.op.now c.args.name c.requires.own c.requires.puts c.requires.plain free (sym c.in_default.is ∙ c.in_ok-row.ensures)) ∙ append-nil c.args.commits.now.items)

pub returns-in_default-clause-formed : goal.returns-in_default-clause-formed
returns-in_default-clause-formed c =
    let log = log_of c.args.events.now ++ c.args.commits.now.items in
    let free : is_there (zone_at log c.args.asking.key.now).rows c.args.name ≡ false =
    ap (λ cs. is_there (zone_at (log_of c.args.events.now ++ cs) c.args.asking.key.now).rows c.args.name) (sym c.deref.ensures.value) ∙ sym c.is_taken.ensures ∙ c.if-is_taken.false in
    subst (λ (m : Modified). AllByRecursion (IsCreation c.args.asking.key.now) m.commits) (sym (refused_wrong c.args.asking log c.args.op.now c.args.name c.requires.own c.requires.puts c.requires.plain free (sym c.in_default.is ∙ c.in_ok-row.ensures))) tt

pub returns-clause-told : goal.returns-clause-told
returns-clause-told c =
    let log = log_of c.args.events.now ++ c.args.commits.now.items in
    let free : is_there (zone_at log c.args.asking.key.now).rows c.args.name ≡ false =
    ap (λ cs. is_there (zone_at (log_of c.args.events.now ++ cs) c.args.asking.key.now).rows c.args.name) (sym c.deref.ensures.value) ∙ sym c.is_taken.ensures ∙ c.if-is_taken.false in
    ap (λ (m : Modified). m.outcomes) (put_done c.args.asking log c.args.op.now c.args.name c.requires.own c.requires.puts c.requires.plain free c.in-Some.row (sym c.in-Some.is ∙ c.in_ok-row.ensures)) ∙ ap (λ r. Put r ∷ []) (sym c.in_ok-shown.ensures)

pub returns-clause-made : goal.returns-clause-made
returns-clause-made c =
    let log = log_of c.args.events.now ++ c.args.commits.now.items in
    let free : is_there (zone_at log c.args.asking.key.now).rows c.args.name ≡ false =
    ap (λ cs. is_there (zone_at (log_of c.args.events.now ++ cs) c.args.asking.key.now).rows c.args.name) (sym c.deref.ensures.value) ∙ sym c.is_taken.ensures ∙ c.if-is_taken.false in
    c.in_ok-push.ensures.items ∙ ap (λ (x : Commit). c.args.commits.now.items ++ x ∷ []) c.in_ok-put_commit.ensures
    ∙ sym (ap (λ (m : Modified). c.args.commits.now.items ++ m.commits) (put_done c.args.asking log c.args.op.now c.args.name c.requires.own c.requires.puts c.requires.plain free c.in-Some.row (sym c.in-Some.is ∙ c.in_ok-row.ensures)))

pub returns-clause-formed : goal.returns-clause-formed
returns-clause-formed c =
    let log = log_of c.args.events.now ++ c.args.commits.now.items in
    let free : is_there (zone_at log c.args.asking.key.now).rows c.args.name ≡ false =
    ap (λ cs. is_there (zone_at (log_of c.args.events.now ++ cs) c.args.asking.key.now).rows c.args.name) (sym c.deref.ensures.value) ∙ sym c.is_taken.ensures ∙ c.if-is_taken.false in
    let first = sym c.in-Some.is ∙ c.in_ok-row.ensures in
    subst (λ (m : Modified). AllByRecursion (IsCreation c.args.asking.key.now) m.commits)
    (sym (put_done c.args.asking log c.args.op.now c.args.name c.requires.own c.requires.puts c.requires.plain free c.in-Some.row first))
    (creation c.args.asking log c.args.op.now c.args.name c.requires.own c.requires.puts c.requires.plain free c.in-Some.row first (subst IsName c.name.view_is c.name.invariant) c.requires.meant, tt)
