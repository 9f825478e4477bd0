use Rattle.std.proofs.Common.{◌≡◌, Some}
use Rattle.roadtext.specs.Text.{fields, letter_of}
use Rattle.roadtext.proofs.Stepping.{head_steps, arc_steps, twin_steps, asks_step, tail_asks, tail_moves, other_letter_steps}
use Rattle.roadtext.proofs.steps.Progress.step.Goals as goal

pub returns-in-Some-p-Head : goal.returns-in-Some-p-Head
returns-in-Some-p-Head g c =
    let e : Some 112 ≡ letter_of (fields c.args.line.now) = cc in
    head_steps g.M.Measure.scale (fields c.args.line.now) c.args.self.now c.head.result e c.in-Some-p-Head.is-1 c.head.ensures

pub returns-in-Some-a-Arc : goal.returns-in-Some-a-Arc
returns-in-Some-a-Arc g c =
    let e : Some 97 ≡ letter_of (fields c.args.line.now) = cc in
    arc_steps g.M.Measure.scale (fields c.args.line.now) c.args.self.now c.arc.result c.in-Some-a-Arc.left e c.in-Some-a-Arc.is-1 c.arc.ensures

pub returns-in-Some-a-Twin : goal.returns-in-Some-a-Twin
returns-in-Some-a-Twin g c =
    let e : Some 97 ≡ letter_of (fields c.args.line.now) = cc in
    twin_steps g.M.Measure.scale (fields c.args.line.now) c.args.self.now c.twin.result c.in-Some-a-Twin.first c.in-Some-a-Twin.left e c.in-Some-a-Twin.is-1 c.twin.ensures

pub returns-in-Some-d-Tail : goal.returns-in-Some-d-Tail
returns-in-Some-d-Tail g c =
    let e : Some 100 ≡ letter_of (fields c.args.line.now) = cc in
    tail_moves g.M.Measure.scale (fields c.args.line.now) c.args.self.now c.move_line.result e c.in-Some-d-Tail.is-1 c.move_line.ensures

pub returns-in-Some-q-Tail : goal.returns-in-Some-q-Tail
returns-in-Some-q-Tail g c =
    let e : Some 113 ≡ letter_of (fields c.args.line.now) = cc in
    tail_asks g.M.Measure.scale (fields c.args.line.now) c.args.self.now c.ask.result e c.in-Some-q-Tail.is-1 c.ask.ensures

pub returns-in-Some-q-Asks : goal.returns-in-Some-q-Asks
returns-in-Some-q-Asks g c =
    let e : Some 113 ≡ letter_of (fields c.args.line.now) = cc in
    asks_step g.M.Measure.scale (fields c.args.line.now) c.args.self.now c.ask-in-Some-q-Asks.result e c.in-Some-q-Asks.is-1 c.ask-in-Some-q-Asks.ensures

pub returns-in_default-5 : goal.returns-in_default-5
returns-in_default-5 g c =
    let e : Some c.in_default.field-0-0 ≡ letter_of (fields c.args.line.now) = cc in
    let other = c.in_default.field-0-0-test in
    other_letter_steps g.M.Measure.scale (fields c.args.line.now) c.in_default.field-0-0 e other.0.0.0.0.1 other.0.0.0.1 other.0.0.1 other.0.1 other.1 c.args.self.now
