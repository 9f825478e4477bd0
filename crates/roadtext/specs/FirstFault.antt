-- That the fault which reading a text gives is the text's first, and that a text which is read has none. Assumes nothing.
use Rattle.std.specs.Prelude.{◌≡◌, ℕ, ◌+◌, ◌<◌, ◌≤◌, Bool, true, false, cond, ◌⊎◌, List, [], ◌∷◌, ◌++◌, length, Ok, Err}
use Rattle.std.specs.List.{AllByRecursion}
use Rattle.measure.specs.Scale.{Scale}
use Rattle.roadtext.specs.declared.fault.Cause.{Cause}
use Rattle.roadtext.specs.declared.fault.Cause.TheVariants.{Letter, TooLong}
use Rattle.roadtext.specs.declared.fault.Fault.{Fault}
use Rattle.roadtext.specs.declared.parts.Room.{Room}
use Rattle.roadtext.specs.declared.parts.Stage.{Stage}
use Rattle.roadtext.specs.declared.parts.Stage.TheVariants.{Head, Arc as ArcAwaited, Twin, Tail, Asks}
use Rattle.roadtext.specs.Text.{lines, fields}
use Rattle.roadtext.specs.Lines.{Check}
use Rattle.roadtext.specs.Reading.{State, nothing_read, fault, is_comment, line_checks, after_line, read_text}

-- the checks of a line: a comment has none
abbrev pub checks_of : Scale → Room → State → List ℕ → List Check
checks_of s room st line = cond (is_comment (fields line)) [] (line_checks s room st (fields line) st.stage)

-- what has been read after a line without fault: after a comment, what had been read before
abbrev pub with_line : State → List ℕ → State
with_line st line = cond (is_comment (fields line)) st (after_line st (fields line) st.stage)

-- what has been read after lines without fault
abbrev pub with_lines : State → List (List ℕ) → State
with_lines st [] = st
with_lines st (line ∷ rest) = with_lines (with_line st line) rest

-- no check fails
abbrev pub AllPass : List Check → Type 0
AllPass checks = AllByRecursion (λ c. c.fails ≡ false) checks

-- no line has a fault, where st had been read before the first
abbrev pub NoFault : Scale → Room → State → List (List ℕ) → Type 0
NoFault s room st [] = Unit {0}
NoFault s room st (line ∷ rest) = AllPass (checks_of s room st line) × NoFault s room (with_line st line) rest

-- the first check that fails has this field and this cause
pub record FailsFirst (checks : List Check) (field : ℕ) (cause : Cause) : Type 0 where
  pub earlier : List Check
  pub failing : Check
  pub later : List Check
  pub in_order : checks ≡ earlier ++ (failing ∷ later)
  pub earlier_pass : AllPass earlier
  pub it_fails : failing.fails ≡ true
  pub its_field : field ≡ failing.field_number
  pub its_cause : cause ≡ failing.cause

-- Lines, the first of which has the number l, where st had been read before it: the fault is at one of them, those before it
-- have none, and of its own checks the first that fails has the fault's field and cause.
pub record AtALine (s : Scale) (room : Room) (l : ℕ) (st : State) (ls : List (List ℕ)) (f : Fault) : Type 0 where
  pub earlier : List (List ℕ)
  pub faulty : List ℕ
  pub later : List (List ℕ)
  pub in_order : ls ≡ earlier ++ (faulty ∷ later)
  pub its_number : f.line ≡ l + length earlier
  pub earlier_have_none : NoFault s room st earlier
  pub first_of_its_line : FailsFirst (checks_of s room (with_lines st earlier) faulty) f.field f.cause

-- a `p` line or an arc is awaited
abbrev pub awaits : Stage → Bool
awaits Head = true
awaits (ArcAwaited k) = true
awaits (Twin a k) = true
awaits Tail = false
awaits Asks = false

-- no line has a fault, but the lines ended while a `p` line or an arc was awaited
pub record AtTheEnd (s : Scale) (room : Room) (l : ℕ) (st : State) (ls : List (List ℕ)) (f : Fault) : Type 0 where
  pub lines_have_none : NoFault s room st ls
  pub awaited : awaits (with_lines st ls).stage ≡ true
  pub the_fault : f ≡ fault (l + length ls) 1 Letter

-- The first fault of a text: it is too long; or the fault is at a line; or at the end.
abbrev pub FirstFault : Scale → Room → List ℕ → Fault → Type 0
FirstFault s room text f =
    ((65536 < length text) × (f ≡ fault 0 0 TooLong))
    ⊎ ((length text ≤ 65536) × (AtALine s room 1 nothing_read (lines text) f ⊎ AtTheEnd s room 1 nothing_read (lines text) f))

-- A text without fault, and what has been read at its end.
pub record Faultless (s : Scale) (room : Room) (text : List ℕ) (st : State) : Type 0 where
  pub not_too_long : length text ≤ 65536
  pub lines_have_none : NoFault s room nothing_read (lines text)
  pub nothing_awaited : awaits (with_lines nothing_read (lines text)).stage ≡ false
  pub what_is_read : st ≡ with_lines nothing_read (lines text)

-- A text is refused with its first fault and no other, and read where it has none.
pub record FaultIsTheFirst (s : Scale) (room : Room) (text : List ℕ) : Type 0 where
  pub what_is_refused : (f : Fault) → read_text s room text ≡ Err f → FirstFault s room text f
  pub is_refused : (f : Fault) → FirstFault s room text f → read_text s room text ≡ Err f
  pub what_is_accepted : (st : State) → read_text s room text ≡ Ok st → Faultless s room text st
  pub is_accepted : (st : State) → Faultless s room text st → read_text s room text ≡ Ok st
