-- Walks joined, walks turned round, and their values. Assumes nothing.
use Rattle.std.proofs.Common.{◌≡◌, ℕ, ◌⊎◌, List, [], ◌∷◌, ◌++◌, sym, refl, ap, ◌∙◌, subst, ap₂, inl, inr}
use Rattle.measure.specs.Scale.{Scale, Value, Laws}
use Rattle.network.specs.Lists.{In}
use Rattle.network.specs.Walks.{Arc, arc, Walk, walk_value, Walked, Best}
use Rattle.network.proofs.Order.{start_changes_nothing_behind, none_stays_none_behind}

-- an arc the other way, with the same value
abbrev pub turned : Arc → Arc
turned a = arc a.to a.from a.worth

-- a walk from its end to its beginning
abbrev pub backwards : List Arc → List Arc
backwards [] = []
backwards (a ∷ w) = backwards w ++ (turned a ∷ [])

-- x is none, or some walk that leads from u to v has it
abbrev pub Reached : Scale → List Arc → ℕ → ℕ → ℕ → Type 0
Reached s arcs u v x = (x ≡ s.none) ⊎ Walked s arcs u v x

-- a walk of some arcs is a walk of more arcs
pub walk_of_more_arcs :
    (less more : List Arc) → ((a : Arc) → In a less → In a more) → (u v : ℕ) (w : List Arc) → Walk less u v w → Walk more u v w
walk_of_more_arcs less more all u v [] e = e
walk_of_more_arcs less more all u v (a ∷ w) (i, e, k) = (all a i, e, walk_of_more_arcs less more all a.to v w k)

module _ (arcs : List Arc) where
  -- one walk after another is a walk
  pub walks_join : (u t v : ℕ) (p q : List Arc) → Walk arcs u t p → Walk arcs t v q → Walk arcs u v (p ++ q)
  walks_join u t v [] q e k = subst (λ x. Walk arcs x v q) (sym e) k
  walks_join u t v (a ∷ p) q (i, e, h) k = (i, e, walks_join a.to t v p q h k)

  -- where each arc has one the other way, so has each walk
  pub walk_backwards :
      ((a : Arc) → In a arcs → In (turned a) arcs) → (u v : ℕ) (w : List Arc) → Walk arcs u v w → Walk arcs v u (backwards w)
  walk_backwards turn u v [] e = sym e
  walk_backwards turn u v (a ∷ w) (i, e, k) =
      walks_join v a.to u (backwards w) (turned a ∷ []) (walk_backwards turn a.to v w k) (turn a i, refl, e)

module _ (s : Scale) (laws : Laws s) (arcs : List Arc) (worths : (a : Arc) → In a arcs → Value s a.worth) where
  pub walk_value_is_a_value : (u v : ℕ) (w : List Arc) → Walk arcs u v w → Value s (walk_value s w)
  walk_value_is_a_value u v [] e = laws.start_is_a_value
  walk_value_is_a_value u v (a ∷ w) (i, e, k) =
      laws.join_is_a_value a.worth (walk_value s w) (worths a i) (walk_value_is_a_value a.to v w k)

  pub value_of_walks_joined :
      (u t v : ℕ) (p q : List Arc) → Walk arcs u t p → Walk arcs t v q
      → walk_value s (p ++ q) ≡ s.join (walk_value s p) (walk_value s q)
  value_of_walks_joined u t v [] q e k = sym (laws.start_changes_nothing (walk_value s q) (walk_value_is_a_value t v q k))
  value_of_walks_joined u t v (a ∷ p) q (i, e, h) k =
      ap (λ x. s.join a.worth x) (value_of_walks_joined a.to t v p q h k)
      ∙ sym (laws.join_is_associative a.worth (walk_value s p) (walk_value s q)
      (worths a i) (walk_value_is_a_value a.to t p h) (walk_value_is_a_value t v q k))

  pub value_of_one_arc : (a : Arc) → In a arcs → walk_value s (a ∷ []) ≡ a.worth
  value_of_one_arc a i = start_changes_nothing_behind s laws a.worth (worths a i)

  pub value_backwards :
      ((a : Arc) → In a arcs → In (turned a) arcs) → (u v : ℕ) (w : List Arc) → Walk arcs u v w
      → walk_value s (backwards w) ≡ walk_value s w
  value_backwards turn u v [] e = refl
  value_backwards turn u v (a ∷ w) (i, e, k) =
      value_of_walks_joined v a.to u (backwards w) (turned a ∷ []) (walk_backwards arcs turn a.to v w k) (turn a i, refl, e)
      ∙ ap (λ x. s.join x (walk_value s (turned a ∷ []))) (value_backwards turn a.to v w k)
      ∙ ap (λ x. s.join (walk_value s w) x) (value_of_one_arc (turned a) (turn a i))
      ∙ laws.join_is_commutative (walk_value s w) a.worth (walk_value_is_a_value a.to v w k) (worths a i)

  -- by way of t, what is walked on both legs, joined, is walked
  pub walked_by_way : (u t v x y : ℕ) → Walked s arcs u t x → Walked s arcs t v y → Walked s arcs u v (s.join x y)
  walked_by_way u t v x y (p, h, e) (q, k, f) =
      (p ++ q, walks_join arcs u t v p q h k, value_of_walks_joined u t v p q h k ∙ ap₂ s.join e f)

  -- and so is what is reached
  pub reached_by_way :
      (u t v x y : ℕ) → Value s x → Value s y → Reached s arcs u t x → Reached s arcs t v y → Reached s arcs u v (s.join x y)
  reached_by_way u t v x y vx vy (inl e) r = inl (ap (λ z. s.join z y) e ∙ laws.none_stays_none y vy)
  reached_by_way u t v x y vx vy (inr q) (inl e) = inl (ap (λ z. s.join x z) e ∙ none_stays_none_behind s laws x vx)
  reached_by_way u t v x y vx vy (inr p) (inr q) = inr (walked_by_way u t v x y p q)

  pub reached_backwards :
      ((a : Arc) → In a arcs → In (turned a) arcs) → (u v x : ℕ) → Reached s arcs u v x → Reached s arcs v u x
  reached_backwards turn u v x (inl e) = inl e
  reached_backwards turn u v x (inr (w, h, e)) =
      inr (backwards w, walk_backwards arcs turn u v w h, value_backwards turn u v w h ∙ e)

  pub walked_is_a_value : (u v x : ℕ) → Walked s arcs u v x → Value s x
  walked_is_a_value u v x (w, h, e) = subst (Value s) e (walk_value_is_a_value u v w h)

  pub one_is_best : (u v x y : ℕ) → Best s arcs u v x → Best s arcs u v y → x ≡ y
  one_is_best u v x y (inl (p, h)) (inl (q, k)) =
      laws.no_worse_both_ways_is_equal x y (walked_is_a_value u v x p) (walked_is_a_value u v y q) (h y q) (k x p)
  one_is_best u v x y (inl (p, h)) (inr (k, f)) = absurd (k x p)
  one_is_best u v x y (inr (h, e)) (inl (q, k)) = absurd (h y q)
  one_is_best u v x y (inr (h, e)) (inr (k, f)) = e ∙ sym f
