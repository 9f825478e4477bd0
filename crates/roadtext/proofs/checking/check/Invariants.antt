use Rattle.std.proofs.Common.{◌+◌, ◌^◌, ◌<◌, length}
use Rattle.roadtext.specs.Reading.{State}
use Rattle.roadtext.specs.Steps.{Counted}
use Rattle.roadtext.proofs.Midway.{Midway}
use Rattle.roadtext.proofs.checking.check.Given as goal

-- some lines have been read, and no fault was found in them
abbrev pub invariant-loop-event : goal.invariant-loop-event
invariant-loop-event g l =
    (l.walk.number + length l.walk.rest.now < 2 ^ 64)
    × (st : State)
    × Midway g.M.Measure.scale l.fn.room l.text l.walk st
    × Counted l.walk.progress l.walk.progress.stage

abbrev pub decreases-loop-event : goal.decreases-loop-event
decreases-loop-event g l = length l.walk.rest.now
