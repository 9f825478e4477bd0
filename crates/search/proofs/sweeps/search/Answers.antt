use Rattle.drawing.specs.Borders.{border_checks}
use Rattle.drawing.specs.Outcomes.{verdict}
use Rattle.drawing.proofs.Verdicts.{used_means, accepted_or_refused}
use Rattle.search.proofs.Conclusion.{search_leaves_the_best}
use Rattle.search.proofs.sweeps.search.Goals as goal

pub returns-clause-best : goal.returns-clause-best
returns-clause-best g c =
    let d = c.args.drawing.now in
    let used = used_means d c.args.junctions.now c.args.roads.now c.in-Ok.used c.in-Ok.ensures in
    search_leaves_the_best g.M.Measure.scale g.met.M.Measure.shows d c.args.junctions.now c.args.roads.now c.args.scope
    c.args.values.now _ _ _ _ used.1.0 used.1.1 c.make_values.ensures c.settle.ensures

pub returns-clause-short : goal.returns-clause-short
returns-clause-short g c x e =
    let d = c.args.drawing.now in
    let used = used_means d c.args.junctions.now c.args.roads.now c.in-Ok.used c.in-Ok.ensures in
    absurd (accepted_or_refused (verdict (border_checks d c.args.junctions.now c.args.roads.now)) x used.0 e)
