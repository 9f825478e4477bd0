use Rattle.std.proofs.Common.{◌≡◌, ℕ, ◌+◌, List, Some, Ok, Err, Result, ap, ◌∙◌}
use Rattle.roadtext.specs.declared.parts.Arc.{Arc}
use Rattle.roadtext.specs.declared.parts.LineFault.{LineFault}
use Rattle.roadtext.specs.declared.parts.Stage.{Stage}
use Rattle.roadtext.specs.declared.steps.Event.TheVariants.{Road}
use Rattle.roadtext.specs.declared.steps.Progress.{Progress}
use Rattle.roadtext.specs.declared.steps.Step.{Step}
use Rattle.roadtext.specs.Text.{fields}
use Rattle.roadtext.specs.Lines.{Check, a_checks, arc_in, passed}
use Rattle.roadtext.specs.Reading.{arcs_to_come_lem}
use Rattle.roadtext.specs.Steps.{road_checks, twin_step}
use Rattle.roadtext.proofs.Passed.{fails_with, fails_first, passes_on, passes_with, passed_on, value_passed}
use Rattle.roadtext.proofs.steps.Progress.twin.Goals as goal

-- the step to a stage, with one road more
abbrev step_at : Progress → Arc → Stage → Step
step_at p a g = record { progress = record { room = p.room; stage = g; junctions = p.junctions; roads = p.roads + 1 }; event = Some (Road a) }

stepped_to : (p : Progress) (a : Arc) (g : Stage) (left : ℕ) (ds : List Check) → g ≡ arcs_to_come_lem left → Ok (twin_step p a left) ≡ passed ds (twin_step p a left) → Ok (step_at p a g) ≡ passed ds (twin_step p a left)
stepped_to p a g left ds e h = ap (λ q. Ok (step_at p a q)) e ∙ h

-- the checks of the arc that was read
with_read : (p : Progress) (a b read : Arc) (r : Result Unit LineFault) → b ≡ read → r ≡ passed (road_checks p a b) tt → r ≡ passed (road_checks p a read) tt
with_read p a b read r e h = h ∙ ap (λ q. passed (road_checks p a q) (tt {0})) e

pub returns-in_err-second : goal.returns-in_err-second
returns-in_err-second g c =
    let fs : List (List ℕ) = fields c.args.line.now in
    let p = c.args.self.now in
    let cs = a_checks g.M.Measure.scale p.junctions fs in
    let ds = road_checks p c.args.first (arc_in fs) in
    let z = twin_step p c.args.first c.args.left in
    let f = c.in_err-second.field-0.0 in
    passed_on c.from_residual.result f c.from_residual.ensures.1 ∙ fails_first cs ds (arc_in fs) z f c.in_err-second.ensures

pub returns-in_err-check_twin : goal.returns-in_err-check_twin
returns-in_err-check_twin g c =
    let fs : List (List ℕ) = fields c.args.line.now in
    let p = c.args.self.now in
    let cs = a_checks g.M.Measure.scale p.junctions fs in
    let ds = road_checks p c.args.first (arc_in fs) in
    let z = twin_step p c.args.first c.args.left in
    let f = c.in_err-check_twin.field-0.0 in
    let e = value_passed cs (arc_in fs) c.in_ok-second.second c.in_ok-second.ensures in
    passed_on c.from_residual-in_err-check_twin.result f c.from_residual-in_err-check_twin.ensures.1
    ∙ passes_on cs ds (arc_in fs) c.in_ok-second.second z (Err f) c.in_ok-second.ensures
    (fails_with ds (tt {0}) z f (with_read p c.args.first c.in_ok-second.second (arc_in fs) (Err f) e c.in_err-check_twin.ensures))

pub returns : goal.returns
returns g c =
    let fs : List (List ℕ) = fields c.args.line.now in
    let p = c.args.self.now in
    let cs = a_checks g.M.Measure.scale p.junctions fs in
    let ds = road_checks p c.args.first (arc_in fs) in
    let z = twin_step p c.args.first c.args.left in
    let e = value_passed cs (arc_in fs) c.in_ok-second.second c.in_ok-second.ensures in
    passes_on cs ds (arc_in fs) c.in_ok-second.second z (Ok (step_at p c.args.first c.arcs_to_come-stage.result)) c.in_ok-second.ensures
    (stepped_to p c.args.first c.arcs_to_come-stage.result c.args.left ds c.arcs_to_come-stage.ensures (passes_with ds (tt {0}) (tt {0}) z (with_read p c.args.first c.in_ok-second.second (arc_in fs) (Ok tt) e c.in_ok-check_twin.ensures)))
