-- What the theory of labels needs of a distance. Assumes nothing.
use Rattle.std.proofs.Common.{◌≡◌, ℕ, ◌⊎◌, List}
use Rattle.measure.specs.Scale.{Scale, Value, NoWorse}
use Rattle.network.specs.Walks.{Arc, Walk, walk_value, Walked}

pub record Distance (s : Scale) (d : ℕ → ℕ → ℕ) : Type 0 where
  pub is_a_value : (u v : ℕ) → Value s (d u v)
  pub home : (u : ℕ) → d u u ≡ s.start
  pub triangle : (u t v : ℕ) → NoWorse s (d u v) (s.join (d u t) (d t v))
  pub both_ways : (u v : ℕ) → d u v ≡ d v u

-- d is the best value over walks of a list of arcs, as far as it is not none
pub record WalkDistance (s : Scale) (arcs : List Arc) (d : ℕ → ℕ → ℕ) : Type 0 where
  pub reached : (u v : ℕ) → (d u v ≡ s.none) ⊎ Walked s arcs u v (d u v)
  pub no_walk_is_better : (u v : ℕ) (w : List Arc) → Walk arcs u v w → NoWorse s (d u v) (walk_value s w)
