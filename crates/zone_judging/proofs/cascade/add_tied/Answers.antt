use Rattle.std.proofs.Common.{not, option_map, sym, subst, Some}
use Rattle.zone_model.specs.Names.{is_in}
use Rattle.zone_judging.proofs.GrowLemmas.{IsGrowing, growing_next, growing_end}
use Rattle.zone_judging.proofs.cascade.add_tied.Goals as goal

pub loop-row-preserved : goal.loop-row-preserved
loop-row-preserved g c =
    let rows = g.V.Sees.rows c.args.zone.now in
    let taken = c.args.taken.now in
    subst (λ names. IsGrowing rows c.args.tie c.args.name.now (λ r. not (is_in taken r.name)) c.args.names.now.items names (Some c.in-Some.row.now.name)) (sym c.in_ok-add_untaken.ensures)
    (growing_next rows c.args.tie c.args.name.now taken c.args.names.now.items c.loop-row.names.items (option_map (λ x. x.now) c.loop-row.after) c.in-Some.row.now c.requires (sym c.in-Some.ensures) c.loop-row.invariant)

pub returns : goal.returns
returns g c =
    growing_end (g.V.Sees.rows c.args.zone.now) c.args.tie c.args.name.now (λ r. not (is_in c.args.taken.now r.name)) c.args.names.now.items c.loop-row.names.items (option_map (λ x. x.now) c.loop-row.after) (sym c.in_default.ensures) c.loop-row.invariant
