-- The first of a list of tests that holds is what a search through the list finds. Assumes nothing.
use Rattle.std.proofs.Common.{◌≡◌, ℕ, suc, ◌+◌, ◌-◌, ◌<◌, ◌≤◌, Bool, true, false, List, [], ◌∷◌, length, get_or, Option, sym, refl, subst, zero-add, arith}
use native.Mathlib.Nat.{sub-zero}
use Rattle.book.specs.Bad.{Finds}
use Rattle.book.specs.Found.{first_true}
use Rattle.book.proofs.Searches.{one_word_more, search_goes_on, finds_alike}

pub first_true_finds : (k : ℕ) (bs : List Bool) → Finds (λ i. get_or bs (i - k) false) k (k + length bs) (first_true k bs)
first_true_finds k [] = λ j low less. refl
first_true_finds k (true ∷ bs) =
    (omega arith, omega arith, (let e : k - k ≡ 0 = omega arith in rw e refl), λ j low less. absurd (omega arith))
first_true_finds k (false ∷ bs) =
    let e : k - k ≡ 0 = omega arith in
    let same : (j : ℕ) → k + 1 ≤ j → j < k + suc (length bs) → get_or bs (j - (k + 1)) false ≡ get_or (false ∷ bs) (j - k) false = λ j low high.
    let f : j - k ≡ suc (j - (k + 1)) = omega arith in rw f refl
    in
    let size : k + suc (length bs) ≡ k + 1 + length bs = omega arith in
    let test : ℕ → Bool = λ i. get_or (false ∷ bs) (i - k) false in
    search_goes_on test k (k + 1) (k + suc (length bs)) (first_true (k + 1) bs) (omega arith)
    (one_word_more test k k (λ j low less. absurd (omega arith)) (rw e refl))
    (finds_alike test (λ i. get_or bs (i - (k + 1)) false) (k + 1) (k + suc (length bs)) (first_true (k + 1) bs) same
    (rw size (first_true_finds (k + 1) bs)))

pub first_true_found : (bs : List Bool) (r : Option ℕ) → r ≡ first_true 0 bs → Finds (λ i. get_or bs i false) 0 (length bs) r
first_true_found bs r is =
    subst (λ o. Finds (λ i. get_or bs i false) 0 (length bs) o) (sym is) (simp (sub-zero, zero-add) at (first_true_finds 0 bs))
