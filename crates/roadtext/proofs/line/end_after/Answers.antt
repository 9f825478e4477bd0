use Rattle.std.proofs.Common.{◌+◌, [], ◌∷◌, ap, ◌∙◌}
use Rattle.roadtext.specs.Text.{fields}
use Rattle.roadtext.specs.Lines.{check, passed}
use Rattle.roadtext.specs.declared.fault.Cause.TheVariants.{Field}
use Rattle.roadtext.proofs.FieldNumbers.{is_there}
use Rattle.roadtext.proofs.line.end_after.Goals as goal

pub returns : goal.returns
returns c =
    c.fault_if.ensures
    ∙ ap (λ b. passed (check (c.args.i + 1) Field b ∷ []) tt)
    (c.is_some.ensures ∙ is_there (fields c.args.line.now.line.now) c.args.i c.field.result c.field.ensures)
