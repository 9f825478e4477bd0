use Rattle.std.proofs.Common.{ℕ, List, Some}
use Rattle.roadtext.specs.declared.parts.Stage.TheVariants.{Tail}
use Rattle.roadtext.specs.declared.steps.Event.TheVariants.{Move as MoveRead}
use Rattle.roadtext.specs.Text.{fields}
use Rattle.roadtext.specs.Lines.{d_checks, move_in}
use Rattle.roadtext.specs.Steps.{moved_to}
use Rattle.roadtext.proofs.Passed.{goes_up}
use Rattle.roadtext.proofs.steps.Progress.move_line.Goals as goal

pub returns-in_err-moved : goal.returns-in_err-moved
returns-in_err-moved c =
    let fs : List (List ℕ) = fields c.args.line.now in
    let p = c.args.self.now in
    goes_up (d_checks p.junctions fs) (move_in fs) (moved_to p Tail (Some (MoveRead (move_in fs)))) c.from_residual.result
    c.in_err-moved.field-0.0 c.from_residual.ensures.1 c.in_err-moved.ensures
