-- The number that stands in the text is 13. Assumes nothing.
use Rattle.std.proofs.Common.{◌≡◌, ℕ, List, [], ◌∷◌, ◌++◌, decimal, ap, ◌∙◌, lit<, lit≤}
use Rattle.std.proofs.lemmas.Fmt.{decimal_digit, decimal_step}
use Rattle.roadtext.proofs.fault.FaultDisplay.fmt.Goals as goal

thirteen : decimal 13 ≡ 49 ∷ 51 ∷ []
thirteen = decimal_step 13 (lit≤ tt) (lit< tt) ∙ ap (λ (l : List ℕ). l ++ (51 ∷ [])) (decimal_digit 1 (lit< tt))

pub returns-clause-writes : goal.returns-clause-writes
returns-clause-writes g c = rw (thirteen, ← c.number-number.ensures) c.write.ensures.writes
