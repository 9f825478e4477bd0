use Rattle.std.proofs.Common.{◌≡◌, Ok, sym, subst, rules}
use Rattle.roadtext.specs.Reading.{nothing_read}
use Rattle.roadtext.specs.Steps.{Counted, stepped}
use Rattle.roadtext.proofs.Midway.{midway_start, midway_on, midway_counted}
use Rattle.roadtext.proofs.checking.check.Goals as goal

pub loop-event-init : goal.loop-event-init
loop-event-init g c =
    let w = c.over-walk.ensures in (
      search rules,
      nothing_read,
      midway_start g.M.Measure.scale c.args.room c.args.text.now c.over-walk.result w.progress w.number w.rest,
      subst (λ p. Counted p p.stage) (sym w.progress) tt,
    )

pub loop-event-preserved : goal.loop-event-preserved
loop-event-preserved g c =
    let inv = c.loop-event.invariant in
    let fine : c.in-Some.event ≡ Ok c.in_ok-event.field-0 = c.in_ok-event.was in (
      search rules,
      stepped inv.1 (record { progress = c.next.new.self.progress; event = c.in_ok-event.field-0 }),
      midway_on inv.2 c.next.new.self c.in-Some.ensures.steps c.in_ok-event.field-0 fine,
      midway_counted inv.2 c.next.new.self c.in-Some.ensures.steps c.in_ok-event.field-0 fine inv.3,
    )
