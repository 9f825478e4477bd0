-- A number between two limits, and the test for it. Assumes nothing.
use Rattle.std.proofs.Common.{◌≡◌, ℕ, ◌≤◌, true, false, not, leb}
use Rattle.std.proofs.lemmas.Bool.{and_from, and_parts, not-false, le-leb, leb-true}
use Rattle.drawing.specs.Edits.{within}

pub is_within : (low high n : ℕ) → low ≤ n → n ≤ high → within low high n ≡ true
is_within low high n a b = and_from (leb low n) (leb n high) (le-leb low n a) (le-leb n high b)

-- a number that is not outside lies between the limits
pub between : (low high n : ℕ) → not (within low high n) ≡ false → (low ≤ n) × (n ≤ high)
between low high n e =
    let t = and_parts (leb low n) (leb n high) (not-false (within low high n) e) in
    (leb-true low n t.0, leb-true n high t.1)
