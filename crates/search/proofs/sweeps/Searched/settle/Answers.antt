use Rattle.std.proofs.Common.{◌≡◌, ◌+◌, ◌-◌, length, sym, refl, ap, ◌∙◌, arith}
use Rattle.search.specs.Sweeps.{arcs_over, there_and_back, after_arcs, after_sweeps}
use Rattle.search.proofs.Turns.{sweeps_in_turn, settled_stays}
use Rattle.search.proofs.sweeps.Searched.settle.Goals as goal

pub loop-preserved : goal.loop-preserved
loop-preserved g c =
    let s = g.M.Measure.scale in
    let arcs = arcs_over c.args.self.now (there_and_back c.args.self.now.used.roads.now) in
    ap (after_sweeps s arcs (length c.args.values.now - (c.loop.counter + 1))) c.sweep.ensures.written
    ∙ sweeps_in_turn s arcs c.loop.values (length c.args.values.now) c.loop.counter (omega arith)
    ∙ c.loop.invariant

pub returns-then-not-sweep : goal.returns-then-not-sweep
returns-then-not-sweep g c =
    let s = g.M.Measure.scale in
    let arcs = arcs_over c.args.self.now (there_and_back c.args.self.now.used.roads.now) in
    let same : c.sweep.new.values ≡ c.loop.values = c.if-not-sweep.ensures.told refl in
    let settled : after_arcs s c.loop.values arcs ≡ c.loop.values = sym c.sweep.ensures.written ∙ same in
    same ∙ sym (settled_stays s arcs c.loop.values settled (length c.args.values.now - c.loop.counter)) ∙ c.loop.invariant
