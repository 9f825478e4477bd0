-- What each kind of line must be: its checks, in order, each with the field it faults and the cause. Assumes nothing.
use Rattle.std.specs.Prelude.{ℕ, ◌+◌, ◌%◌, Bool, true, false, cond, not, ◌&&◌, List, [], ◌∷◌, ◌++◌, length, is_some, Ok, Err, Result, ◌==◌, nat_lt}
use Rattle.std.specs.Option.{unwrap_or}
use Rattle.measure.specs.Scale.{Scale}
use Rattle.drawing.specs.Edits.{within}
use Rattle.drawing.specs.declared.refusal.Refusal.TheVariants.{BadCount, ShortTable, NoJunction, NoDistrict, EndsAlike, NotLawful}
use Rattle.roadtext.specs.Text.{field, number_in}
use Rattle.roadtext.specs.declared.fault.Cause.{Cause}
use Rattle.roadtext.specs.declared.fault.Cause.TheVariants.{Field, Twin as NoTwin, Drawing}
use Rattle.roadtext.specs.declared.parts.Arc.{Arc}
use Rattle.roadtext.specs.declared.parts.Head.{Head}
use Rattle.roadtext.specs.declared.parts.LineFault.{LineFault}
use Rattle.roadtext.specs.declared.parts.Move.{Move}
use Rattle.roadtext.specs.declared.parts.Ask.{Ask}

-- a check of a line: whether it fails, which field it then faults, and the cause
pub record Check : Type 0 where
  pub fails : Bool
  pub field_number : ℕ
  pub cause : Cause

abbrev pub check : ℕ → Cause → Bool → Check
check f x b = record { fails = b; field_number = f; cause = x }

-- field number i is missing, or writes no number
abbrev pub no_number : List (List ℕ) → ℕ → Bool
no_number fs i = not (is_some (number_in (field fs i)))

-- the number in field number i
abbrev pub number_at : List (List ℕ) → ℕ → ℕ
number_at fs i = unwrap_or (number_in (field fs i)) 0

-- field number i is this text
abbrev pub is_text : List ℕ → List ℕ → Bool
is_text [] [] = true
is_text [] (b ∷ bs) = false
is_text (a ∷ t) [] = false
is_text (a ∷ t) (b ∷ bs) = a == b && is_text t bs

abbrev pub field_is : List (List ℕ) → ℕ → List ℕ → Bool
field_is fs i t = cond (is_some (field fs i)) (is_text t (unwrap_or (field fs i) [])) false

-- a number that is a junction of a drawing with n
abbrev pub junction_checks : ℕ → List (List ℕ) → ℕ → List Check
junction_checks n fs i =
    check i Field (no_number fs i) ∷ check i (Drawing NoJunction) (not (within 1 n (number_at fs i))) ∷ []

-- there is no field beyond number i
abbrev pub end_check : List (List ℕ) → ℕ → Check
end_check fs i = check (i + 1) Field (nat_lt i (length fs))

-- `p sp N A`, with a junction table of so many entries: N junctions, and A arc lines to come
abbrev pub p_checks : ℕ → List (List ℕ) → List Check
p_checks places fs =
    check 2 Field (not (field_is fs 2 (115 ∷ 112 ∷ [])))
    ∷ check 3 Field (no_number fs 3)
    ∷ check 3 (Drawing BadCount) (not (within 1 4096 (number_at fs 3)))
    ∷ check 3 (Drawing (ShortTable (number_at fs 3))) (nat_lt places (number_at fs 3))
    ∷ check 4 Field (no_number fs 4)
    ∷ check 4 NoTwin (not (number_at fs 4 % 2 == 0))
    ∷ end_check fs 4
    ∷ []

-- `a U V W`: an arc from U to V with the value W
abbrev pub a_checks : Scale → ℕ → List (List ℕ) → List Check
a_checks s n fs =
    junction_checks n fs 2
    ++ (junction_checks n fs 3
    ++ (check 3 (Drawing EndsAlike) (number_at fs 2 == number_at fs 3)
    ∷ check 4 Field (no_number fs 4)
    ∷ check 4 (Drawing NotLawful) (not (s.lawful (number_at fs 4)))
    ∷ end_check fs 4
    ∷ []))

-- `d J D`: junction J lies in district D, of 64
abbrev pub d_checks : ℕ → List (List ℕ) → List Check
d_checks n fs =
    junction_checks n fs 2
    ++ (check 3 Field (no_number fs 3) ∷ check 3 (Drawing NoDistrict) (not (nat_lt (number_at fs 3) 64)) ∷ end_check fs 3 ∷ [])

-- `q S T`: a distance is asked from S to T
abbrev pub q_checks : ℕ → List (List ℕ) → List Check
q_checks n fs = junction_checks n fs 2 ++ (junction_checks n fs 3 ++ (end_check fs 3 ∷ []))

-- what a line without fault has
abbrev pub head_in : List (List ℕ) → Head
head_in fs = record { junctions = number_at fs 3; arcs = number_at fs 4 }

abbrev pub arc_in : List (List ℕ) → Arc
arc_in fs = record { from = number_at fs 2; to = number_at fs 3; worth = number_at fs 4 }

abbrev pub move_in : List (List ℕ) → Move
move_in fs = record { junction = number_at fs 2; district = number_at fs 3 }

abbrev pub ask_in : List (List ℕ) → Ask
ask_in fs = record { from = number_at fs 2; to = number_at fs 3 }

-- The value x, if no check of the list fails; otherwise the field and the cause of the first that does.
abbrev pub passed : {A : Type 0} → List Check → A → Result A LineFault
passed [] x = Ok x
passed (c ∷ cs) x = cond c.fails (Err (record { field = c.field_number; cause = c.cause })) (passed cs x)
