-- What a text means: which line may stand where, what has been read after each line, and the first fault. Assumes nothing.
use Rattle.std.specs.Prelude.{ℕ, ◌+◌, ◌-◌, Bool, false, cond, not, ◌&&◌, ◌||◌, List, [], ◌∷◌, ◌++◌, length, is_some, Ok, Err, Result, ◌==◌, nat_le, nat_lt}
use Rattle.std.specs.Option.{unwrap_or}
use Rattle.measure.specs.Scale.{Scale}
use Rattle.drawing.specs.declared.refusal.Refusal.TheVariants.{RoadsFull}
use Rattle.roadtext.specs.declared.fault.Cause.{Cause}
use Rattle.roadtext.specs.declared.fault.Cause.TheVariants.{Letter, Twin as NoTwin, TooLong, Drawing}
use Rattle.roadtext.specs.declared.fault.Fault.{Fault}
use Rattle.roadtext.specs.declared.parts.Room.{Room}
use Rattle.roadtext.specs.declared.parts.LineFault.{LineFault}
use Rattle.roadtext.specs.declared.parts.Arc.{Arc}
use Rattle.roadtext.specs.declared.parts.Move.{Move}
use Rattle.roadtext.specs.declared.parts.Ask.{Ask}
use Rattle.roadtext.specs.declared.parts.Stage.{Stage}
use Rattle.roadtext.specs.declared.parts.Stage.TheVariants.{Head, Arc as ArcAwaited, Twin, Tail, Asks}
use Rattle.roadtext.specs.Text.{lines, fields, letter_of}
use Rattle.roadtext.specs.Lines.{Check, check, passed, head_in, arc_in, move_in, ask_in, p_checks, a_checks, d_checks, q_checks}

-- what has been read so far
pub record State : Type 0 where
  pub stage : Stage
  pub junctions : ℕ
  pub roads : List Arc
  pub moves : List Move
  pub asks : List Ask

abbrev pub nothing_read : State
nothing_read = record { stage = Head; junctions = 0; roads = []; moves = []; asks = [] }

-- an arc with its ends exchanged
abbrev pub reversed : Arc → Arc
reversed a = record { from = a.to; to = a.from; worth = a.worth }

-- the second arc is the first with its ends exchanged
abbrev pub is_twin : Arc → Arc → Bool
is_twin a b = a.from == b.to && (a.to == b.from && a.worth == b.worth)

-- the letter of a line is this
abbrev pub has_letter : List (List ℕ) → ℕ → Bool
has_letter fs b = cond (is_some (letter_of fs)) (unwrap_or (letter_of fs) 0 == b) false

-- a line whose first field is `c`
abbrev pub is_comment : List (List ℕ) → Bool
is_comment fs = has_letter fs 99

-- the first field is the letter awaited
abbrev pub letter_check : List (List ℕ) → ℕ → Check
letter_check fs b = check 1 Letter (not (has_letter fs b))

-- the checks of a line that is no comment, in order
abbrev pub line_checks : Scale → Room → State → List (List ℕ) → Stage → List Check
line_checks s room st fs Head = letter_check fs 112 ∷ p_checks room.places fs
line_checks s room st fs (ArcAwaited k) = letter_check fs 97 ∷ a_checks s st.junctions fs
line_checks s room st fs (Twin a k) =
    letter_check fs 97
    ∷ (a_checks s st.junctions fs
    ++ (check 1 NoTwin (not (is_twin a (arc_in fs)))
    ∷ check 1 (Drawing RoadsFull) (nat_le 16384 (length st.roads) || nat_le room.records (length st.roads))
    ∷ []))
line_checks s room st fs Tail =
    cond (has_letter fs 100) (d_checks st.junctions fs) (letter_check fs 113 ∷ q_checks st.junctions fs)
line_checks s room st fs Asks = letter_check fs 113 ∷ q_checks st.junctions fs

-- what is awaited when k more arc lines are to come
abbrev pub arcs_to_come_lem : ℕ → Stage
arcs_to_come_lem k = cond (k == 0) Tail (ArcAwaited k)

-- what has been read after a line without fault
abbrev pub after_line : State → List (List ℕ) → Stage → State
after_line st fs Head =
    record { stage = arcs_to_come_lem (head_in fs).arcs; junctions = (head_in fs).junctions; roads = st.roads; moves = st.moves; asks = st.asks }
after_line st fs (ArcAwaited k) =
    record { stage = Twin (arc_in fs) (k - 2); junctions = st.junctions; roads = st.roads; moves = st.moves; asks = st.asks }
after_line st fs (Twin a k) =
    record { stage = arcs_to_come_lem k; junctions = st.junctions; roads = st.roads ++ (a ∷ []); moves = st.moves; asks = st.asks }
after_line st fs Tail =
    cond (has_letter fs 100)
    record { stage = Tail; junctions = st.junctions; roads = st.roads; moves = st.moves ++ (move_in fs ∷ []); asks = st.asks }
    record { stage = Asks; junctions = st.junctions; roads = st.roads; moves = st.moves; asks = st.asks ++ (ask_in fs ∷ []) }
after_line st fs Asks =
    record { stage = Asks; junctions = st.junctions; roads = st.roads; moves = st.moves; asks = st.asks ++ (ask_in fs ∷ []) }

-- a fault: its line, its field and its cause
abbrev pub fault : ℕ → ℕ → Cause → Fault
fault l f x = record { line = l; field = f; cause = x }

-- a fault of a line, with the line's number
abbrev pub fault_at : ℕ → LineFault → Fault
fault_at l f = fault l f.field f.cause

-- what reading a line gives, with the line's number at its fault
abbrev pub at_line : {A : Type 0} → ℕ → Result A LineFault → Result A Fault
at_line l (Ok x) = Ok x
at_line l (Err f) = Err (fault_at l f)

-- a line that is no comment: what has been read after it, or its first fault
abbrev pub judged : Scale → Room → List (List ℕ) → State → Result State LineFault
judged s room fs st = passed (line_checks s room st fs st.stage) (after_line st fs st.stage)

-- line number l read
abbrev pub read_line : Scale → Room → ℕ → List (List ℕ) → State → Result State Fault
read_line s room l fs st = cond (is_comment fs) (Ok st) (at_line l (judged s room fs st))

-- at the end of the text: nothing may be awaited but `d` and `q` lines; l is the line after the last
abbrev pub ended : ℕ → State → Stage → Result State Fault
ended l st Head = Err (fault l 1 Letter)
ended l st (ArcAwaited k) = Err (fault l 1 Letter)
ended l st (Twin a k) = Err (fault l 1 Letter)
ended l st Tail = Ok st
ended l st Asks = Ok st

-- lines read one after the other, where l is the number of the first
abbrev pub then_lines : (State → Result State Fault) → Result State Fault → Result State Fault
then_lines more (Ok st) = more st
then_lines more (Err x) = Err x

abbrev pub read_lines : Scale → Room → ℕ → List (List ℕ) → State → Result State Fault
read_lines s room l [] st = ended l st st.stage
read_lines s room l (line ∷ rest) st = then_lines (read_lines s room (l + 1) rest) (read_line s room l (fields line) st)

-- a text read: it has at most 65,536 bytes, and its lines are read from the first
abbrev pub read_text : Scale → Room → List ℕ → Result State Fault
read_text s room text =
    cond (nat_lt 65536 (length text)) (Err (fault 0 0 TooLong)) (read_lines s room 1 (lines text) nothing_read)
