use Rattle.std.proofs.Common.{sym, ap, ◌∙◌, subst, rules}
use Rattle.roadtext.specs.Reading.{nothing_read}
use Rattle.roadtext.specs.Read.{room_of}
use Rattle.roadtext.specs.Steps.{progress_of, stepped}
use Rattle.roadtext.proofs.Added.{event_far}
use Rattle.roadtext.proofs.Midway.{Midway, midway_start, midway_on}
use Rattle.roadtext.proofs.Whole.{started_far, line_accepted, all_drawn}
use Rattle.roadtext.proofs.draw.draw.Goals as goal

pub loop-event-init : goal.loop-event-init
loop-event-init g c =
    let w = c.over-event-items.ensures in
    let room = room_of c.args.junctions.now c.args.roads.now in (
      search rules,
      tt,
      nothing_read,
      subst (λ q. Midway g.M.Measure.scale room c.args.text.now q nothing_read) (sym c.into_iter-event-iterator.ensures.into_iter_gives)
          (midway_start g.M.Measure.scale room c.args.text.now c.over-event-items.result (w.progress ∙ ap (λ r. progress_of r nothing_read) c.of-room.ensures) w.number w.rest),
      started_far g.M.Measure.scale c.args.count c.args.junctions.now c.in_ok-drawing.drawing c.start.new.junctions c.args.roads.now c.in_ok-drawing.ensures,
    )

pub returns-in_err-draw_event : goal.returns-in_err-draw_event
returns-in_err-draw_event g c st good count can =
    let inv = c.loop-event.invariant in
    absurd
    (line_accepted c.args.junctions.now c.args.roads.now inv.3 st good count inv.4 c.next.new.self c.in-Some.ensures.steps c.in-Ok.event c.in-Ok.is
    can (search rules) (search rules)
    c.in_err-draw_event.field-0.0 c.draw_event.new.drawing c.draw_event.new.junctions c.draw_event.new.roads c.in_err-draw_event.ensures)

pub loop-event-preserved : goal.loop-event-preserved
loop-event-preserved g c =
    let inv = c.loop-event.invariant in (
      search rules,
      tt,
      stepped inv.2 (record { progress = c.next.new.self.progress; event = c.in-Ok.event }),
      midway_on inv.3 c.next.new.self c.in-Some.ensures.steps c.in-Ok.event c.in-Ok.is,
      event_far g.M.Measure.scale c.args.count c.in_ok-drawing.drawing c.start.new.junctions c.args.roads.now inv.2.roads inv.2.moves
          c.loop-event.drawing c.loop-event.junctions c.loop-event.roads inv.4
          c.in-Ok.event c.draw_event.new.drawing c.draw_event.new.junctions c.draw_event.new.roads c.in_ok-draw_event.ensures,
    )

pub returns : goal.returns
returns g c st good count can =
    let inv = c.loop-event.invariant in
    all_drawn c.args.junctions.now c.args.roads.now inv.3 st good count inv.4 c.next.new.self c.in-None.ensures.steps c.in_ok-drawing.ensures
