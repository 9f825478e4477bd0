use Rattle.std.proofs.Common.{◌≡◌, vec_items}
use Rattle.roadtext.specs.Reading.{State}
use Rattle.roadtext.proofs.Midway.{Midway}
use Rattle.roadtext.proofs.asks.asks_in.Given as goal

-- some lines have been read, with these asks
abbrev pub invariant-loop-event : goal.invariant-loop-event
invariant-loop-event g l =
    (goal.iterator-loop-event g).can_next l.event-iterator
    × (goal.iterator-loop-event g).is_finite l.event-iterator
    × (st : State)
    × Midway g.M.Measure.scale l.fn.room l.text l.event-iterator st
    × (vec_items l.asks ≡ st.asks)
