-- A number below 10 ^ 10, written in decimal, is read back. Assumes nothing.
use Rattle.std.proofs.Common.{◌≡◌, ℕ, ◌^◌, ◌<◌, true, ◌&&◌, List, [], ◌∷◌, map, length, Some, None, decimal, ap, ◌∙◌, arith, rules}
use Rattle.std.specs.List.{AllByRecursion}
use Rattle.std.proofs.lemmas.Fmt.{length-decimal-le, decimal_nonempty, digits_decimal, digits_value-decimal}
use Rattle.std.proofs.lemmas.Str.Parse.{IsNumeralModel, numerals_by_fold}
use Rattle.std.proofs.lemmas.Bool.{and_from, and_parts, cond-true, leb-true}
use Rattle.drawing.specs.Edits.{within}
use Rattle.drawing.proofs.Within.{is_within}
use Rattle.roadtext.specs.Text.{all_digits, digits_after, number}
use Rattle.roadtext.specs.Written.{Lacks}

pub own : IsNumeralModel (λ ds. all_digits ds ≡ true) (digits_after 0)
own = numerals_by_fold _ (search rules) digits_after (search rules)

module _ (n : ℕ) (small : n < 10 ^ 10) where
  pub decimal_has_digits : all_digits (decimal n) ≡ true
  decimal_has_digits = digits_decimal own n (omega arith)

  pub number_decimal : number (decimal n) ≡ Some n
  number_decimal =
      cond-true (within 1 10 (length (decimal n)) && all_digits (decimal n)) (Some (digits_after 0 (decimal n))) None
      (and_from _ _
      (is_within 1 10 (length (decimal n)) (decimal_nonempty n (omega arith)) (length-decimal-le 10 n (omega arith) small (omega arith)))
      decimal_has_digits)
      ∙ ap Some (digits_value-decimal own n (omega arith))

-- digits have no byte below 48, as a space or a line end
pub digits_lack : (byte : ℕ) → byte < 48 → (ds : List ℕ) → all_digits ds ≡ true → Lacks byte ds
digits_lack byte low [] h = tt
digits_lack byte low (d ∷ ds) h =
    let parts = and_parts (within 48 57 d) (all_digits ds) h in
    (λ e. omega (arith, leb-true 48 d (and_parts _ _ parts.0).0), digits_lack byte low ds parts.1)

pub decimal_lacks : (byte n : ℕ) → byte < 48 → n < 10 ^ 10 → Lacks byte (decimal n)
decimal_lacks byte n low small = digits_lack byte low (decimal n) (decimal_has_digits n small)

pub decimals_lack : (byte : ℕ) → byte < 48 → (ns : List ℕ) → AllByRecursion (λ n. n < 10 ^ 10) ns → AllByRecursion (Lacks byte) (map decimal ns)
decimals_lack byte low [] t = tt
decimals_lack byte low (n ∷ ns) (h, t) = (decimal_lacks byte n low h, decimals_lack byte low ns t)
