-- How an answer is written. Assumes nothing.
use Rattle.std.specs.Prelude.{ℕ, List, [], ◌∷◌, ◌++◌, Some, None, decimal, Option}

-- the value in decimal digits, or the text `none`
abbrev pub value_bytes : Option ℕ → List ℕ
value_bytes None = 110 ∷ 111 ∷ 110 ∷ 101 ∷ []
value_bytes (Some x) = decimal x

-- `S T value`, with no line end
abbrev pub answer_bytes : ℕ → ℕ → Option ℕ → List ℕ
answer_bytes from to value = decimal from ++ 32 ∷ (decimal to ++ 32 ∷ value_bytes value)
