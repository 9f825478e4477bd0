use Rattle.roadtext.specs.Reading.{State}
use Rattle.roadtext.specs.Read.{room_of}
use Rattle.roadtext.proofs.Added.{SoFar}
use Rattle.roadtext.proofs.Midway.{Midway}
use Rattle.roadtext.proofs.draw.draw.Given as goal

-- some lines have been read, and what they say is drawn
abbrev pub invariant-loop-event : goal.invariant-loop-event
invariant-loop-event g l =
    (goal.iterator-loop-event g).can_next l.event-iterator
    × (goal.iterator-loop-event g).is_finite l.event-iterator
    × (st : State)
    × Midway g.M.Measure.scale (room_of l.fn.junctions l.fn.roads) l.text l.event-iterator st
    × SoFar g.M.Measure.scale l.count l.initial.drawing l.initial.junctions l.initial.roads st.roads st.moves l.drawing l.junctions l.roads
