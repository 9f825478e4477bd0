-- Rules that look like the right ones and mislead, on the network of six junctions. Assumes nothing.
use Rattle.std.specs.Prelude.{◌≡◌, ℕ, ◌-◌, Bool, true, cond, not, ◌&&◌, List, [], ◌∷◌, ◌++◌, length, Some, slice_index}
use Rattle.measure.specs.Scale.{Scale}
use Rattle.measure.specs.Measures.{metres}
use Rattle.network.specs.Walks.{best_within}
use Rattle.network.specs.Networks.{Network, district, best}
use Rattle.network.specs.Labels.{Entry, entry, row, put_cell, meet}
use Rattle.network.specs.Rows.{border_row, inner_arcs, members}
use Rattle.network.specs.Worked.{six, six_order}

-- a district row made without shortcuts: best is taken over the arcs inside the district alone
abbrev pub row_without_shortcuts : Scale → Network → ℕ → List Entry
row_without_shortcuts s net v =
    row s (best_within s (inner_arcs net (district net v)) (net.junctions - 1)) (λ i. slice_index (members net (district net v)) i)
    (members net (district net v)) v

-- From 1 to 3 such rows answer 1600, by junction 2, though 450 is the best.
abbrev pub RowsWithoutShortcutsMislead : Type 0
RowsWithoutShortcutsMislead =
    (meet metres (row_without_shortcuts metres six 1) (row_without_shortcuts metres six 3) ≡ Some (entry 1 1600))
    × (best metres six 1 3 ≡ 450)

-- the way from b to v by any junction of a list is not better
abbrev pub no_better_by_all : Scale → (ℕ → ℕ → ℕ) → ℕ → ℕ → List ℕ → Bool
no_better_by_all s d b v [] = true
no_better_by_all s d b v (c ∷ cs) = not (s.better (s.join (d b c) (d c v)) (d b v)) && no_better_by_all s d b v cs

-- a row in which a cell is kept also where the way by an earlier hub is as good
abbrev pub row_that_keeps_ties : Scale → (ℕ → ℕ → ℕ) → List ℕ → List ℕ → ℕ → List Entry
row_that_keeps_ties s d earlier [] v = []
row_that_keeps_ties s d earlier (b ∷ bs) v =
    put_cell s (length earlier) (cond (no_better_by_all s d b v earlier) (d b v) s.none)
    (row_that_keeps_ties s d (earlier ++ (b ∷ [])) bs v)

-- Junction 1 would get the entries 1:450, 2:250 and 3:100, which no answer needs: its border row is 0:0 alone.
abbrev pub KeptTiesAddEntries : Type 0
KeptTiesAddEntries =
    (row_that_keeps_ties metres (best metres six) [] six_order 1 ≡ entry 0 0 ∷ entry 1 450 ∷ entry 2 250 ∷ entry 3 100 ∷ [])
    × (border_row metres six six_order 1 ≡ entry 0 0 ∷ [])
