-- Clearance first, then metres: an order on pairs that no measure can have. Assumes nothing.
use Rattle.std.specs.Prelude.{◌≡◌, ℕ, Bool, true, ◌&&◌, ◌||◌, ◌==◌}
use Rattle.measure.specs.Scale.{Scale, Value, Laws}
use Rattle.measure.specs.Measures.{metres, clearance}

-- a walk's clearance and its length
pub record Pair : Type 0 where
  pub height : ℕ
  pub length_in_metres : ℕ

abbrev pub pair : ℕ → ℕ → Pair
pair h l = record { height = h; length_in_metres = l }

-- the higher pair is better; of two equally high, the shorter
abbrev pub pair_better : Pair → Pair → Bool
pair_better p q =
    clearance.better p.height q.height
    || (p.height == q.height && metres.better p.length_in_metres q.length_in_metres)

-- each part joined as its own measure joins it
abbrev pub pair_join : Pair → Pair → Pair
pair_join p q =
    pair (clearance.join p.height q.height) (metres.join p.length_in_metres q.length_in_metres)

-- A measure s has the pairs if each pair has a value of s, and the better pair the better value, and joined pairs have the
-- joined value.
pub record HasThePairs (s : Scale) : Type 0 where
  pub code : Pair → ℕ
  pub code_is_a_value : (p : Pair) → Value s (code p)
  pub code_keeps_better : (p q : Pair) → s.better (code p) (code q) ≡ pair_better p q
  pub code_keeps_join : (p q : Pair) → s.join (code p) (code q) ≡ code (pair_join p q)

-- (400, 900) beats (300, 100), and loses to it once both are joined with (300, 100); so no measure has the pairs.
pub record ClearanceThenMetresIsNoMeasure : Type 0 where
  pub it_beats : pair_better (pair 400 900) (pair 300 100) ≡ true
  pub joined_it_loses : pair_better (pair_join (pair 300 100) (pair 300 100)) (pair_join (pair 400 900) (pair 300 100)) ≡ true
  pub no_measure_has_it : (s : Scale) → Laws s → HasThePairs s → ⊥
