use Rattle.std.proofs.Common.{ℕ, List, Ok, ap, ◌∙◌}
use Rattle.roadtext.specs.Text.{fields}
use Rattle.roadtext.specs.Lines.{p_checks, head_in}
use Rattle.roadtext.specs.Steps.{head_step}
use Rattle.roadtext.proofs.Passed.{goes_up, passes_with, value_passed}
use Rattle.roadtext.proofs.steps.Progress.head.Goals as goal

pub returns-in_err-head : goal.returns-in_err-head
returns-in_err-head c =
    let fs : List (List ℕ) = fields c.args.line.now in
    let p = c.args.self.now in
    goes_up (p_checks p.room.places fs) (head_in fs) (head_step p (head_in fs)) c.from_residual.result
    c.in_err-head.field-0.0 c.from_residual.ensures.1 c.in_err-head.ensures

pub returns : goal.returns
returns c =
    let fs : List (List ℕ) = fields c.args.line.now in
    let cs = p_checks c.args.self.now.room.places fs in
    let p = c.args.self.now in
    let h = c.in_ok-head.head in
    ap Ok (c.headed.ensures ∙ ap (head_step p) (value_passed cs (head_in fs) h c.in_ok-head.ensures))
    ∙ passes_with cs (head_in fs) h (head_step p (head_in fs)) c.in_ok-head.ensures
