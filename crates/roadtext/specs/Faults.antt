-- The numbers of a fault, and how it is written. Assumes nothing.
use Rattle.std.specs.Prelude.{ℕ, List, [], ◌∷◌}
use Rattle.drawing.specs.Refusals.{first_number, spaced}
use Rattle.roadtext.specs.declared.fault.Cause.{Cause}
use Rattle.roadtext.specs.declared.fault.Cause.TheVariants.{Letter, Field, Twin, TooLong, Drawing}
use Rattle.roadtext.specs.declared.fault.Fault.{Fault}

-- the number of a cause: what a drawing refuses has the first number of the refusal
abbrev pub cause_number : Cause → ℕ
cause_number Letter = 31
cause_number Field = 32
cause_number Twin = 33
cause_number TooLong = 34
cause_number (Drawing r) = first_number r

-- the numbers of a fault
abbrev pub fault_numbers : Fault → List ℕ
fault_numbers f = 13 ∷ f.line ∷ f.field ∷ cause_number f.cause ∷ []

-- a fault as text: its numbers, with a space between two
abbrev pub written_fault : Fault → List ℕ
written_fault f = spaced (fault_numbers f)
