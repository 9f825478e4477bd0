use Rattle.std.proofs.Common.{ℕ, List, Some}
use Rattle.roadtext.specs.declared.parts.Stage.TheVariants.{Asks}
use Rattle.roadtext.specs.declared.steps.Event.TheVariants.{Ask as AskRead}
use Rattle.roadtext.specs.Text.{fields}
use Rattle.roadtext.specs.Lines.{q_checks, ask_in}
use Rattle.roadtext.specs.Steps.{moved_to}
use Rattle.roadtext.proofs.Passed.{goes_up}
use Rattle.roadtext.proofs.steps.Progress.ask.Goals as goal

pub returns-in_err-ask : goal.returns-in_err-ask
returns-in_err-ask c =
    let fs : List (List ℕ) = fields c.args.line.now in
    let p = c.args.self.now in
    goes_up (q_checks p.junctions fs) (ask_in fs) (moved_to p Asks (Some (AskRead (ask_in fs)))) c.from_residual.result
    c.in_err-ask.field-0.0 c.from_residual.ensures.1 c.in_err-ask.ensures
