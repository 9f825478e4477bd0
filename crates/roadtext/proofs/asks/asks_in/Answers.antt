use Rattle.std.proofs.Common.{◌≡◌, List, Option, vec_items, sym, ap, ◌∙◌, subst, rules}
use Rattle.roadtext.specs.declared.parts.Ask.{Ask}
use Rattle.roadtext.specs.declared.steps.Event.{Event}
use Rattle.roadtext.specs.Reading.{nothing_read}
use Rattle.roadtext.specs.Steps.{stepped, with_ask}
use Rattle.roadtext.proofs.Midway.{Midway, midway_start, midway_on}
use Rattle.roadtext.proofs.asks.asks_in.Goals as goal

-- what is kept, of the asks that have been read
kept : (e : Option Event) (after asks read : List Ask) → asks ≡ read → after ≡ with_ask e asks → after ≡ with_ask e read
kept e after asks read h k = k ∙ ap (with_ask e) h

pub loop-event-init : goal.loop-event-init
loop-event-init g c =
    let w = c.over-event-items.ensures in (
      search rules,
      tt,
      nothing_read,
      subst (λ q. Midway g.M.Measure.scale c.args.room c.args.text.now q nothing_read) (sym c.into_iter-event-iterator.ensures.into_iter_gives)
          (midway_start g.M.Measure.scale c.args.room c.args.text.now c.over-event-items.result w.progress w.number w.rest),
      search rules,
    )

pub loop-event-preserved : goal.loop-event-preserved
loop-event-preserved g c =
    let inv = c.loop-event.invariant in (
      search rules,
      tt,
      stepped inv.2 (record { progress = c.next.new.self.progress; event = c.in-Ok.event }),
      midway_on inv.3 c.next.new.self c.in-Some.ensures.steps c.in-Ok.event c.in-Ok.is,
      kept c.in-Ok.event (vec_items c.keep.new.asks) (vec_items c.loop-event.asks) inv.2.asks inv.4 c.in_ok-keep.ensures,
    )
