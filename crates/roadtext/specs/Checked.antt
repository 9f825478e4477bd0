-- What checking a text answers: the number of its junctions, or its first fault. Assumes nothing.
use Rattle.std.specs.Prelude.{ℕ, Ok, Err, Result}
use Rattle.roadtext.specs.declared.fault.Cause.TheVariants.{Letter}
use Rattle.roadtext.specs.declared.fault.Fault.{Fault}
use Rattle.roadtext.specs.declared.parts.Stage.{Stage}
use Rattle.roadtext.specs.declared.parts.Stage.TheVariants.{Head, Arc as ArcAwaited, Twin, Tail, Asks}
use Rattle.roadtext.specs.Reading.{State, fault}

-- the number of junctions of what was read, or the fault
abbrev pub junctions_read : Result State Fault → Result ℕ Fault
junctions_read (Ok st) = Ok st.junctions
junctions_read (Err f) = Err f

-- the end of a text with n junctions, where l is the line after the last
abbrev pub ended_at : ℕ → ℕ → Stage → Result ℕ Fault
ended_at l n Head = Err (fault l 1 Letter)
ended_at l n (ArcAwaited k) = Err (fault l 1 Letter)
ended_at l n (Twin a k) = Err (fault l 1 Letter)
ended_at l n Tail = Ok n
ended_at l n Asks = Ok n
