-- What runs of cells tell: a next cell, a value, a row. Words that are no values are taken for none. Code that builds rows from a
-- table of cells will cite this. Assumes nothing.
use Rattle.std.specs.Prelude.{ℕ, ◌+◌, Bool, false, cond, not, ◌||◌, List, [], ◌∷◌}
use Rattle.measure.specs.Scale.{Scale, counts}
use Rattle.network.specs.Labels.{Entry, put_cell}

-- some two cells of the same hub, joined, are as good as x: x is covered
abbrev pub covered : Scale → ℕ → List ℕ → List ℕ → Bool
covered s x [] cs = false
covered s x (b ∷ bs) [] = false
covered s x (b ∷ bs) (c ∷ cs) =
    not (s.better (counts s x) (counts s (s.join (counts s b) (counts s c)))) || covered s x bs cs

-- what a value becomes in its cell: none if it is covered
abbrev pub told : Scale → ℕ → List ℕ → List ℕ → ℕ
told s x bs cs = cond (covered s x bs cs) s.none x

-- the best of x and of two rows of cells joined hub by hub
abbrev pub best_joined : Scale → ℕ → List ℕ → List ℕ → ℕ
best_joined s x [] cs = x
best_joined s x (b ∷ bs) [] = x
best_joined s x (b ∷ bs) (c ∷ cs) =
    best_joined s
    (cond (s.better (counts s (s.join (counts s b) (counts s c))) (counts s x)) (s.join (counts s b) (counts s c)) x) bs cs

-- the entries of a run of cells, the first of which has rank i; `name` names the hub of each rank
abbrev pub entries_of : Scale → (ℕ → ℕ) → ℕ → List ℕ → List Entry
entries_of s name i [] = []
entries_of s name i (x ∷ xs) = put_cell s (name i) (counts s x) (entries_of s name (i + 1) xs)
