-- What one step of a walk over the lines of a text gives. Assumes nothing.
use Rattle.std.specs.Prelude.{◌≡◌, ℕ, ◌+◌, List, [], Some, None, Option, Ok, Err, Result}
use Rattle.measure.specs.Scale.{Scale}
use Rattle.roadtext.specs.declared.fault.Fault.{Fault}
use Rattle.roadtext.specs.declared.parts.LineFault.{LineFault}
use Rattle.roadtext.specs.declared.steps.Event.{Event}
use Rattle.roadtext.specs.declared.walk.Walk.{Walk}
use Rattle.roadtext.specs.Text.{lines, fields, CutLine}
use Rattle.roadtext.specs.Reading.{fault_at}
use Rattle.roadtext.specs.Steps.{Steps}

-- no line is left, and the walk stays; or the first line is cut off, and gives the step that it makes, or its fault
abbrev pub WalkGives : {M : Type 0} → Scale → Walk M → Option (Result (Option Event) Fault) → Walk M → Type 0
WalkGives s w None v = (lines w.rest.now ≡ []) × (v ≡ w)
WalkGives s w (Some (Ok event)) v =
    (line : List ℕ) × CutLine w.rest.now line v.rest.now × (v.number ≡ w.number + 1)
    × Steps s (fields line) w.progress (Ok (record { progress = v.progress; event = event }))
WalkGives s w (Some (Err f)) v =
    (line : List ℕ) × CutLine w.rest.now line v.rest.now × (v.number ≡ w.number + 1)
    × (g : LineFault) × Steps s (fields line) w.progress (Err g) × (f ≡ fault_at w.number g)
