-- A search that goes on where it has found nothing so far. Assumes nothing.
use Rattle.std.proofs.Common.{◌≡◌, ℕ, ◌+◌, ◌<◌, ◌≤◌, Bool, false, Some, None, Option, sym, subst, ◌∙◌, ⊎_elim, arith}
use Rattle.std.proofs.lemmas.Bool.{cases_lt}
use Rattle.book.specs.Bad.{Finds}

-- what fails from low up to i and at i fails up to i + 1
pub one_word_more : (test : ℕ → Bool) (low i : ℕ) → Finds test low i None → test i ≡ false → Finds test low (i + 1) None
one_word_more test low i before here j l h =
    ⊎_elim (λ k. before j l k) (λ k. let same : j ≡ i = omega arith in rw same here) (cases_lt j i)

-- what fails from low up to mid and from mid up to high fails from low up to high
pub none_further : (test : ℕ → Bool) (low mid high : ℕ) → Finds test low mid None → Finds test mid high None → Finds test low high None
none_further test low mid high before after j l h = ⊎_elim (λ k. before j l k) (λ k. after j k h) (cases_lt j mid)

-- what fails from low up to mid is found first where it is found first from mid on
pub found_further : (test : ℕ → Bool) (low mid high end i : ℕ) → low ≤ mid → high ≤ end → Finds test low mid None → Finds test mid high (Some i) → Finds test low end (Some i)
found_further test low mid high end i k m before (l, h, here, after) =
    (omega arith, omega arith, here, none_further test low mid i before after)

-- what fails from low up to mid, and then whatever a search from mid on finds
pub search_goes_on : (test : ℕ → Bool) (low mid high : ℕ) (r : Option ℕ) → low ≤ mid → Finds test low mid None → Finds test mid high r → Finds test low high r
search_goes_on test low mid high None l before h = none_further test low mid high before h
search_goes_on test low mid high (Some i) l before h = found_further test low mid high high i l (omega arith) before h

-- two tests that agree from low on and below high
pub finds_alike : (test other : ℕ → Bool) (low high : ℕ) (r : Option ℕ) → ((j : ℕ) → low ≤ j → j < high → other j ≡ test j) → Finds other low high r → Finds test low high r
finds_alike test other low high None same h = λ j l less. sym (same j l less) ∙ h j l less
finds_alike test other low high (Some i) same h =
    (h.0, h.1, sym (same i h.0 h.1) ∙ h.2, λ j l less. sym (same j l (omega (arith, h.1))) ∙ h.3 j l less)

-- what was found is below the end
pub is_below : (test : ℕ → Bool) (low high : ℕ) (r : Option ℕ) → Finds test low high r → (i : ℕ) → r ≡ Some i → i < high
is_below test low high r h i is = (let found : Finds test low high (Some i) = subst (Finds test low high) is h in found).1
