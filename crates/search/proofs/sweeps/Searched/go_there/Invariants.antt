use Rattle.std.proofs.Common.{◌≡◌, false, drop}
use Rattle.search.specs.Sweeps.{arcs_over, after_arcs}
use Rattle.search.proofs.sweeps.Searched.go_there.Given as goal

-- the roads to come lead from here to where a whole sweep leads, and nothing has changed unless it is noted
abbrev pub invariant-loop-road : goal.invariant-loop-road
invariant-loop-road g l =
    let s = g.M.Measure.scale in
    (after_arcs s l.values (arcs_over l.self (drop l.road-index l.self.used.roads.now)) ≡ after_arcs s l.initial.values (arcs_over l.self l.self.used.roads.now))
    × (l.changed ≡ false → l.values ≡ l.initial.values)
