-- The number that digits write, one digit on. Assumes nothing.
use Rattle.std.proofs.Common.{◌≡◌, ℕ, ◌+◌, ◌-◌, ◌*◌, ◌^◌, ◌<◌, ◌≤◌, Bool, true, false, cond, ◌&&◌, List, length, get_or, drop, Some, None, sym, ap, ◌∙◌, add-one, arith, lit<}
use native.Mathlib.Nat.{pow-succ', pow-le-pow_right}
use Rattle.std.proofs.lemmas.List.{at_drop_more}
use Rattle.std.proofs.lemmas.Bool.{and_left, cond-false}
use Rattle.drawing.specs.Edits.{within}
use Rattle.roadtext.specs.Text.{all_digits, digits_after}

-- digits from place i on, where n is the number that the digits before write
module _ (text : List ℕ) (i n : ℕ) (so_far : digits_after n (drop i text) ≡ digits_after 0 text) (all : all_digits (drop i text) ≡ all_digits text) where
  -- another byte than a digit ends it
  pub no_number_here : i < length text → within 48 57 (get_or text i 0) ≡ false → None ≡ cond (all_digits text) (Some (digits_after 0 text)) None
  no_number_here h e =
      let none : all_digits text ≡ false =
      sym all ∙ at_drop_more all_digits text i 0 h ∙ and_left (within 48 57 (get_or text i 0)) (all_digits (drop (i + 1) text)) e in
      sym (cond-false (all_digits text) (Some (digits_after 0 text)) None none)

  -- a digit makes ten of one, and adds itself
  pub digit_read : i < length text → digits_after (10 * n + (get_or text i 0 - 48)) (drop (i + 1) text) ≡ digits_after 0 text
  digit_read h = sym (at_drop_more (digits_after n) text i 0 h) ∙ so_far

  pub digits_on : i < length text → within 48 57 (get_or text i 0) ≡ true → all_digits (drop (i + 1) text) ≡ all_digits text
  digits_on h e = sym (at_drop_more all_digits text i 0 h ∙ ap (λ (b : Bool). b && all_digits (drop (i + 1) text)) e) ∙ all

-- one digit more keeps the number below the next power of ten
pub power_on : (n d i : ℕ) → n < 10 ^ i → d ≤ 9 → 10 * n + d < 10 ^ (i + 1)
power_on n d i h digit = rw (add-one, pow-succ') (omega arith)

-- nineteen digits fit 64 bits
pub digits_fit : (n d i : ℕ) → n < 10 ^ i → d ≤ 9 → i < 19 → 10 * n + d < 2 ^ 64
digits_fit n d i h digit few =
    let more : i + 1 ≤ 19 = omega arith in
    let top : 10 ^ (i + 1) ≤ 10 ^ 19 = pow-le-pow_right (lit< tt) more in
    omega (arith, power_on n d i h digit)
