-- What the letter of a line says of the letters that may be awaited. Assumes nothing.
use Rattle.std.proofs.Common.{◌≡◌, ℕ, true, false, cond, not, eqb, List, ◌∷◌, is_some, Some, unwrap_or, sym, ap}
use Rattle.roadtext.specs.declared.fault.Cause.TheVariants.{Letter}
use Rattle.roadtext.specs.Text.{letter_of}
use Rattle.roadtext.specs.Lines.{Check, check, passed}
use Rattle.roadtext.specs.Reading.{has_letter, letter_check}

-- a line with this letter has it, and no other
pub letter_is : (fs : List (List ℕ)) (a b : ℕ) → Some a ≡ letter_of fs → has_letter fs b ≡ eqb a b
letter_is fs a b e = ap (λ o. cond (is_some o) (eqb (unwrap_or o 0) b) false) (sym e)

-- with the letter awaited the other checks decide
pub in_place : {A : Type 0} (fs : List (List ℕ)) (b : ℕ) (cs : List Check) (z : A) → has_letter fs b ≡ true → passed cs z ≡ passed (letter_check fs b ∷ cs) z
in_place fs b cs z h = sym (ap (λ v. passed (check 1 Letter (not v) ∷ cs) z) h)
