-- What a cursor shows of a row, and how the best offer so far is kept. Assumes nothing.
use Rattle.std.specs.Prelude.{ℕ, cond, List, [], ◌∷◌, Some, None, Option, ◌==◌}
use Rattle.measure.specs.Scale.{Scale, counts}

-- the first entry of a row: its hub's name and its value
abbrev pub front : List ℕ → Option (ℕ × ℕ)
front [] = None
front (h ∷ []) = None
front (h ∷ x ∷ ws) = Some (h, x)

-- an offer, its value and its hub, where the best so far is known: it is kept only if it is better
abbrev pub kept_of : Scale → Option (ℕ × ℕ) → ℕ → ℕ → Option (ℕ × ℕ)
kept_of s None x h = Some (x, h)
kept_of s (Some b) x h = cond (s.better (counts s x) (counts s b.0)) (Some (x, h)) (Some b)

-- the same, where an offer of none is no offer
abbrev pub kept : Scale → Option (ℕ × ℕ) → ℕ → ℕ → Option (ℕ × ℕ)
kept s best x h = cond (x == s.none) best (kept_of s best x h)
