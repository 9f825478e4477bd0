-- The entries of a run of cells are a row. Assumes nothing.
use Rattle.std.proofs.Common.{◌≡◌, ℕ, zero, suc, ◌+◌, ◌<◌, List, [], ◌∷◌, length, get_or, sym, refl, ap, ◌∙◌, add-one, arith}
use Rattle.measure.specs.Scale.{Scale, Laws, counts}
use Rattle.network.specs.Labels.{row}
use Rattle.network.specs.Told.{entries_of}
use Rattle.network.proofs.Distance.{Distance}
use Rattle.network.proofs.Counts.{value_counts}
use Rattle.network.proofs.Cells.{cell_at}
use Rattle.network.proofs.CellsJoined.{cell_is_a_value}
use Rattle.network.proofs.ToldCells.{AreCells}
use Rattle.network.proofs.RowRanks.{collected, row_is_collected}

-- entries of a run are collected from what its words count as
pub entries_are_collected :
    (s : Scale) (name f : ℕ → ℕ) (low : ℕ) (xs : List ℕ)
    → ((i : ℕ) → i < length xs → counts s (get_or xs i 0) ≡ f (low + i))
    → entries_of s name low xs ≡ collected s name f low (length xs)
entries_are_collected s name f low [] same = refl
entries_are_collected s name f low (x ∷ xs) same =
    let here : counts s x ≡ f low = same zero (omega arith) ∙ ap f (omega arith) in
    let later : entries_of s name (suc low) xs ≡ collected s name f (suc low) (length xs) =
    entries_are_collected s name f (suc low) xs (λ i h. same (suc i) (omega arith) ∙ ap f (omega arith)) in
    rw (add-one low, here, later)

-- where each word is the cell of v under the hub of its rank, the entries are v's row
pub entries_are_the_row :
    (s : Scale) (laws : Laws s) (d : ℕ → ℕ → ℕ) (dist : Distance s d) (name : ℕ → ℕ) (hubs : List ℕ) (v : ℕ) (xs : List ℕ)
    → length xs ≡ length hubs → AreCells s d hubs v (length hubs) xs → entries_of s name 0 xs ≡ row s d name hubs v
entries_are_the_row s laws d dist name hubs v xs same_length are =
    let counted : (i : ℕ) → i < length xs → counts s (get_or xs i 0) ≡ cell_at s d hubs v (0 + i) = λ i h.
    let k : i < length hubs = omega arith in
    ap (counts s) (are i k) ∙ value_counts s (cell_at s d hubs v i) (cell_is_a_value s laws d dist hubs v i k)
    ∙ ap (cell_at s d hubs v) (omega arith) in
    entries_are_collected s name (cell_at s d hubs v) 0 xs counted
    ∙ ap (collected s name (cell_at s d hubs v) 0) same_length
    ∙ sym (row_is_collected s d name hubs v)
