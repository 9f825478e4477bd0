use Rattle.std.proofs.Common.{◌≡◌, ◌++◌, length, take, drop, filter}
use Rattle.std.specs.List.{range_with_len}
use Rattle.drawing.specs.Marked.{is_marked}
use Rattle.drawing.proofs.marks.Marks.list.Given as goal

-- the first of the marked numbers stand at the front of the list
abbrev pub invariant-loop-i : goal.invariant-loop-i
invariant-loop-i l =
    l.list
    ≡ take (length l.yielded) (filter (is_marked l.self) (range_with_len 1 l.n)) ++ drop (length l.yielded) l.initial.list
