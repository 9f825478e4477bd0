-- The fields of a line by number. Assumes nothing.
use Rattle.std.proofs.Common.{◌≡◌, ℕ, zero, suc, ◌+◌, ltb, List, [], ◌∷◌, length, is_some, drop, Some, None, Option, Bor, sym, ap, ◌∙◌, add-one, arith}
use Rattle.std.specs.Option.{option_map}
use Rattle.std.proofs.lemmas.Bool.{lt-ltb, le-ltb}
use Rattle.std.proofs.lemmas.Bool.Decides.{nat_tests}
use Rattle.roadtext.specs.Text.{field}

-- where the first field is cut off, the others are counted from there
pub field_on : (fs rest : List (List ℕ)) (i : ℕ) → rest ≡ drop 1 fs → field rest (suc i) ≡ field fs (suc (suc i))
field_on [] rest i e = ap (λ gs. field gs (suc i)) e
field_on (f ∷ fs) rest i e = ap (λ gs. field gs (suc i)) e

-- there is a field after number i exactly if there are more than i
field_beyond : (fs : List (List ℕ)) (i : ℕ) → is_some (field fs (suc i)) ≡ ltb i (length fs)
field_beyond [] i = sym (le-ltb i 0 (omega arith))
field_beyond (f ∷ fs) zero = sym (lt-ltb 0 (suc (length fs)) (omega arith))
field_beyond (f ∷ fs) (suc i) = field_beyond fs i ∙ grind (arith, nat_tests)

-- a field after number i was found exactly if there are more than i
pub is_there : (fs : List (List ℕ)) (i : ℕ) (o : Option (Bor (List ℕ))) → option_map (λ x. x.now) o ≡ field fs (i + 1) → is_some o ≡ ltb i (length fs)
is_there fs i None e = ap is_some (rw add-one at e) ∙ field_beyond fs i
is_there fs i (Some x) e = ap is_some (rw add-one at e) ∙ field_beyond fs i
