-- A front and six sections laid end to end: where each section lies, and how long they are together. Assumes nothing.
use Rattle.std.proofs.Common.{◌≡◌, ℕ, ◌+◌, ◌≤◌, List, ◌++◌, length, take, drop, ap, ◌∙◌, append_assoc, arith, length-append}
use Rattle.book.proofs.LaidEndToEnd.{middle}

-- six sections lie in the words ws one after another, the first of them at place u
pub record SixSections (ws : List ℕ) (u n q m k p l : ℕ) (a b c d e f : List ℕ) : Type 0 where
  pub first_is : take n (drop u ws) ≡ a
  pub second_is : take q (drop (u + n) ws) ≡ b
  pub third_is : take m (drop (u + n + q) ws) ≡ c
  pub fourth_is : take k (drop (u + n + q + m) ws) ≡ d
  pub fifth_is : take p (drop (u + n + q + m + k) ws) ≡ e
  pub sixth_is : take l (drop (u + n + q + m + k + p) ws) ≡ f

module _ (h a b c d e f more : List ℕ) where
  -- all words, and more behind them
  abbrev pub laid : List ℕ
  laid = h ++ (a ++ (b ++ (c ++ (d ++ (e ++ f)))))

  pub length_laid : length laid ≡ length h + length a + length b + length c + length d + length e + length f
  length_laid = simp length-append (omega arith)

  pub laid_is_no_longer : length laid ≤ length (laid ++ more)
  laid_is_no_longer = omega (arith, length-append laid more)

  -- a section with what lies before it
  at : (before here later : List ℕ) (first size : ℕ) → laid ++ more ≡ before ++ (here ++ later) → length before ≡ first → length here ≡ size
      → take size (drop first (laid ++ more)) ≡ here
  at before here later first size regrouped e f =
      ap (λ ws. take size (drop first ws)) regrouped ∙ middle before here later first size e f

  pub six_sections :
      (u n q m k p l : ℕ) → length h ≡ u → length a ≡ n → length b ≡ q → length c ≡ m → length d ≡ k → length e ≡ p → length f ≡ l
      → SixSections (laid ++ more) u n q m k p l a b c d e f
  six_sections u n q m k p l hu an bq cm dk ep fl = record {
    first_is = at h a (b ++ (c ++ (d ++ (e ++ (f ++ more))))) u n (simp append_assoc) hu an;
    second_is = at (h ++ a) b (c ++ (d ++ (e ++ (f ++ more)))) (u + n) q (simp append_assoc) (simp length-append (omega arith)) bq;
    third_is = at (h ++ a ++ b) c (d ++ (e ++ (f ++ more))) (u + n + q) m (simp append_assoc) (simp length-append (omega arith)) cm;
    fourth_is = at (h ++ a ++ b ++ c) d (e ++ (f ++ more)) (u + n + q + m) k (simp append_assoc) (simp length-append (omega arith)) dk;
    fifth_is = at (h ++ a ++ b ++ c ++ d) e (f ++ more) (u + n + q + m + k) p (simp append_assoc) (simp length-append (omega arith)) ep;
    sixth_is = at (h ++ a ++ b ++ c ++ d ++ e) f more (u + n + q + m + k + p) l (simp append_assoc) (simp length-append (omega arith)) fl;
  }
