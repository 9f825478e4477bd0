use Rattle.std.proofs.Common.{◌≡◌, arith}
use Rattle.book.proofs.Merge.{left_turn, right_turn, both_turn, left_end, right_end}
use Rattle.book.proofs.joining.join_rows.Goals as goal

pub loop-name-preserved-then-name-other : goal.loop-name-preserved-then-name-other
loop-name-preserved-then-name-other g c =
    left_turn g.M.Measure.scale g.met.M.Measure.shows _ _ _ _ _ c.loop-name.invariant _ _ _ _
    c.in-Some.ensures c.in-Some-entry.ensures _ c.if-name-other.true c.step.ensures

pub loop-name-preserved-then-other-name : goal.loop-name-preserved-then-other-name
loop-name-preserved-then-other-name g c =
    right_turn g.M.Measure.scale g.met.M.Measure.shows _ _ _ _ _ c.loop-name.invariant _ _ _ _
    c.in-Some.ensures c.in-Some-entry.ensures _ c.if-other-name.true c.step-then-other-name.ensures

pub loop-name-preserved : goal.loop-name-preserved
loop-name-preserved g c =
    let same : c.in-Some.name ≡ c.in-Some-entry.other = omega arith in
    both_turn g.M.Measure.scale g.met.M.Measure.shows _ _ _ _ _ c.loop-name.invariant _ _ _ _
    c.in-Some.ensures c.in-Some-entry.ensures _ _ _ _ same
    c.step-else-other-name.ensures c.step-else-other-name-2.ensures c.join.ensures c.keep-best.ensures

pub returns-in_default-entry : goal.returns-in_default-entry
returns-in_default-entry g c =
    right_end g.M.Measure.scale g.met.M.Measure.shows _ _ _ _ _ c.loop-name.invariant c.in_default-entry.ensures

pub returns : goal.returns
returns g c =
    left_end g.M.Measure.scale g.met.M.Measure.shows _ _ _ _ _ c.loop-name.invariant c.in_default.ensures
