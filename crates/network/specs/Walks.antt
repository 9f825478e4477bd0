-- Arcs, walks, their values, and what the best value is. Assumes nothing.
use Rattle.std.specs.Prelude.{◌≡◌, ℕ, zero, suc, cond, ◌⊎◌, List, [], ◌∷◌, map, ◌==◌}
use Rattle.measure.specs.Scale.{Scale, NoWorse, joined}
use Rattle.network.specs.Lists.{In}

-- An arc leads one way, from one junction to another, and has a value.
pub record Arc : Type 0 where
  pub from : ℕ
  pub to : ℕ
  pub worth : ℕ

abbrev pub arc : ℕ → ℕ → ℕ → Arc
arc u v x = record { from = u; to = v; worth = x }

-- A walk from u to v: a chain of arcs of the list, each beginning where the one before it ended.
abbrev pub Walk : List Arc → ℕ → ℕ → List Arc → Type 0
Walk arcs u v [] = u ≡ v
Walk arcs u v (a ∷ w) = In a arcs × (a.from ≡ u) × Walk arcs a.to v w

-- A walk's value joins the values of its arcs; the walk of no arc has the start value.
abbrev pub walk_value : Scale → List Arc → ℕ
walk_value s w = joined s (map (λ a. a.worth) w)

-- x is the value of some walk from u to v
abbrev pub Walked : Scale → List Arc → ℕ → ℕ → ℕ → Type 0
Walked s arcs u v x = (w : List Arc) × Walk arcs u v w × (walk_value s w ≡ x)

-- x is the best of the values that P holds of, or none where P holds of no value
abbrev pub BestOf : Scale → (ℕ → Type 0) → ℕ → Type 0
BestOf s P x = (P x × ((y : ℕ) → P y → NoWorse s x y)) ⊎ (((y : ℕ) → P y → ⊥) × (x ≡ s.none))

-- x is the best value from u to v: that of a walk which no other walk betters, or none where there is no walk
abbrev pub Best : Scale → List Arc → ℕ → ℕ → ℕ → Type 0
Best s arcs u v = BestOf s (Walked s arcs u v)

-- the better of two values; the first where neither is
abbrev pub pick : Scale → ℕ → ℕ → ℕ
pick s x y = cond (s.better y x) y x

-- the best of x and what the arcs out of u offer: an arc's value joined with what `onward` has from its far end
abbrev pub best_step : Scale → List Arc → ℕ → (ℕ → ℕ) → ℕ → ℕ
best_step s [] u onward x = x
best_step s (a ∷ arcs) u onward x =
    best_step s arcs u onward (cond (a.from == u) (pick s x (s.join a.worth (onward a.to))) x)

-- the best value from u to v over walks of at most k arcs, by computing
abbrev pub best_within : Scale → List Arc → ℕ → ℕ → ℕ → ℕ
best_within s arcs zero u v = cond (u == v) s.start s.none
best_within s arcs (suc k) u v = best_step s arcs u (λ t. best_within s arcs k t v) (cond (u == v) s.start s.none)
