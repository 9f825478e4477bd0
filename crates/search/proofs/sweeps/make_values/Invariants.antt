use Rattle.std.proofs.Common.{◌≡◌, ◌++◌, map, take, drop}
use Rattle.measure.specs.Scale.{counts}
use Rattle.search.proofs.sweeps.make_values.Given as goal

-- the words so far are counted, and those to come are as they were
abbrev pub invariant-loop-word : goal.invariant-loop-word
invariant-loop-word g l =
    l.values ≡ map (counts g.M.Measure.scale) (take l.word-index l.initial.values) ++ drop l.word-index l.initial.values
