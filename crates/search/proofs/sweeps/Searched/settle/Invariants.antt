use Rattle.std.proofs.Common.{◌≡◌, ◌-◌, length}
use Rattle.search.specs.Sweeps.{arcs_over, there_and_back, after_sweeps}
use Rattle.search.proofs.sweeps.Searched.settle.Given as goal

-- the sweeps to come lead from here to where all of them lead
abbrev pub invariant-loop : goal.invariant-loop
invariant-loop g l =
    let s = g.M.Measure.scale in
    let arcs = arcs_over l.self (there_and_back l.self.used.roads.now) in
    after_sweeps s arcs (l.end - l.counter) l.values ≡ after_sweeps s arcs (length l.initial.values) l.initial.values
