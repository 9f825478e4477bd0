-- The first field ends at the first space, or is all that is left. Assumes nothing.
use Rattle.std.proofs.Common.{drop, ap, sym}
use Rattle.std.proofs.lemmas.List.{take_rest}
use Rattle.roadtext.specs.Text.{field}
use Rattle.roadtext.proofs.Pieces.{field_cut, field_whole}
use Rattle.roadtext.proofs.fields.cut.Goals as goal

pub returns-in-Some-space-clause-first : goal.returns-in-Some-space-clause-first
returns-in-Some-space-clause-first c =
    rw c.in-Some.is (sym (ap (λ fs. field fs 1) (field_cut c.in-Some.text.now c.in-Some-space.end c.in-Some-space.ensures)))

pub returns-in-Some-space-clause-after : goal.returns-in-Some-space-clause-after
returns-in-Some-space-clause-after c =
    rw (c.in-Some.is, take_rest) (sym (ap (drop 1) (field_cut c.in-Some.text.now c.in-Some-space.end c.in-Some-space.ensures)))

pub returns-in-None-clause-first : goal.returns-in-None-clause-first
returns-in-None-clause-first c = rw c.in-Some.is (sym (ap (λ fs. field fs 1) (field_whole c.in-Some.text.now c.in-None.ensures)))

pub returns-in-None-clause-after : goal.returns-in-None-clause-after
returns-in-None-clause-after c = rw c.in-Some.is (sym (ap (drop 1) (field_whole c.in-Some.text.now c.in-None.ensures)))
