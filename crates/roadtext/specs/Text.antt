-- The lines of a text, the fields of a line, and the number that a field writes. Assumes nothing.
use Rattle.std.specs.Prelude.{◌≡◌, ℕ, zero, suc, ◌+◌, ◌-◌, ◌*◌, ◌<◌, Bool, true, cond, ◌&&◌, List, [], ◌∷◌, length, Some, None, Option, ◌==◌}
use Rattle.drawing.specs.Edits.{within}

-- a byte in front of the first of some pieces
abbrev pub put_first : ℕ → List (List ℕ) → List (List ℕ)
put_first b [] = (b ∷ []) ∷ []
put_first b (p ∷ ps) = (b ∷ p) ∷ ps

-- the lines of a text: each ends in byte 10, which the last may lack
abbrev pub lines : List ℕ → List (List ℕ)
lines [] = []
lines (b ∷ bs) = cond (b == 10) ([] ∷ lines bs) (put_first b (lines bs))

-- the lines of a text are this first one and those of the rest, which is shorter
pub record CutLine (text first rest : List ℕ) : Type 0 where
  pub lines_are : lines text ≡ first ∷ lines rest
  pub shorter : length rest < length text

-- the fields of a line: what single spaces part
abbrev pub fields : List ℕ → List (List ℕ)
fields [] = [] ∷ []
fields (b ∷ bs) = cond (b == 32) ([] ∷ fields bs) (put_first b (fields bs))

-- the fields of what is left of a line, where anything is left
abbrev pub left : Option (List ℕ) → List (List ℕ)
left None = []
left (Some bs) = fields bs

-- each byte is a decimal digit
abbrev pub all_digits : List ℕ → Bool
all_digits [] = true
all_digits (b ∷ bs) = within 48 57 b && all_digits bs

-- the number that digits write after the number n
abbrev pub digits_after : ℕ → List ℕ → ℕ
digits_after n [] = n
digits_after n (b ∷ bs) = digits_after (10 * n + (b - 48)) bs

-- the number that a field writes, if it has 1 to 10 digits and nothing else
abbrev pub number : List ℕ → Option ℕ
number f = cond (within 1 10 (length f) && all_digits f) (Some (digits_after 0 f)) None

-- field number i of a line, counted from 1, if it has so many
abbrev pub field : List (List ℕ) → ℕ → Option (List ℕ)
field [] i = None
field (f ∷ fs) zero = None
field (f ∷ fs) (suc zero) = Some f
field (f ∷ fs) (suc (suc i)) = field fs (suc i)

-- the number in a field, if the field is there and writes one
abbrev pub number_in : Option (List ℕ) → Option ℕ
number_in None = None
number_in (Some f) = number f

-- the letter of a line: its first field, if that has one byte
abbrev pub one_byte : Option (List ℕ) → Option ℕ
one_byte None = None
one_byte (Some []) = None
one_byte (Some (b ∷ [])) = Some b
one_byte (Some (b ∷ c ∷ bs)) = None

abbrev pub letter_of : List (List ℕ) → Option ℕ
letter_of fs = one_byte (field fs 1)
