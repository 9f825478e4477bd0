use Rattle.std.proofs.Common.{ℕ, List}
use Rattle.roadtext.specs.Text.{fields}
use Rattle.roadtext.specs.Lines.{a_checks, arc_in}
use Rattle.roadtext.specs.Steps.{arc_step}
use Rattle.roadtext.proofs.Passed.{goes_up}
use Rattle.roadtext.proofs.steps.Progress.arc.Goals as goal

pub returns-in_err-arc : goal.returns-in_err-arc
returns-in_err-arc g c =
    let fs : List (List ℕ) = fields c.args.line.now in
    let p = c.args.self.now in
    goes_up (a_checks g.M.Measure.scale p.junctions fs) (arc_in fs) (arc_step p c.args.left (arc_in fs)) c.from_residual.result
    c.in_err-arc.field-0.0 c.from_residual.ensures.1 c.in_err-arc.ensures
