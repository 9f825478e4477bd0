use Rattle.std.proofs.Common.{◌+◌, length}
use Rattle.book.proofs.joining.join_rows.Given as goal
use Rattle.book.proofs.Merge.{Merging}

abbrev pub invariant-loop-name : goal.invariant-loop-name
invariant-loop-name g l =
    Merging g.M.Measure.scale l.first l.second l.left.rest.now l.right.rest.now l.best

abbrev pub decreases-loop-name : goal.decreases-loop-name
decreases-loop-name g l = length l.left.rest.now + length l.right.rest.now
