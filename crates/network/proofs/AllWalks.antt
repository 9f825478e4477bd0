-- What is best over walks is a distance, and `best_within` with enough arcs is best over walks. Assumes nothing.
use Rattle.std.proofs.Common.{◌≡◌, ℕ, suc, ◌≤◌, List, [], length, sym, refl, subst, inl, inr, ⊎_elim, arith}
use Rattle.measure.specs.Scale.{Scale, Value, Laws, NoWorse}
use Rattle.network.specs.Lists.{In}
use Rattle.network.specs.Walks.{Arc, Walk, walk_value, Walked, Best, best_within}
use Rattle.network.proofs.Walks.{turned, Reached, walk_value_is_a_value, reached_by_way, reached_backwards}
use Rattle.network.proofs.FewArcs.{few_arcs_suffice}
use Rattle.network.proofs.BestWithin.{within_is_a_value, within_is_reached, within_is_best}
use Rattle.network.proofs.Distance.{Distance, WalkDistance}

-- For a distance over walks.
module _ (s : Scale) (arcs : List Arc) (d : ℕ → ℕ → ℕ) (walks : WalkDistance s arcs d) where
  pub none_where_no_walk : (u v : ℕ) → ((w : List Arc) → Walk arcs u v w → ⊥) → d u v ≡ s.none
  none_where_no_walk u v h = ⊎_elim (λ e. e) (λ q. absurd (h q.0 q.1)) (walks.reached u v)

  pub walked_is_no_better : (u v x : ℕ) → Walked s arcs u v x → NoWorse s (d u v) x
  walked_is_no_better u v x (w, h, e) = subst (λ y. NoWorse s (d u v) y) e (walks.no_walk_is_better u v w h)

  -- it is the best value, if it is none only where there is no walk
  pub distance_is_best :
      ((u v : ℕ) → d u v ≡ s.none → (w : List Arc) → Walk arcs u v w → ⊥) → (u v : ℕ) → Best s arcs u v (d u v)
  distance_is_best h u v =
      ⊎_elim (λ e. inr ((λ y q. h u v e q.0 q.1), e)) (λ q. inl (q, walked_is_no_better u v)) (walks.reached u v)

  -- where it is a value
  module _ (laws : Laws s) (values : (u v : ℕ) → Value s (d u v)) where
    -- whatever is none or the value of a walk is no better
    pub reached_is_no_better : (u v x : ℕ) → Reached s arcs u v x → NoWorse s (d u v) x
    reached_is_no_better u v x (inl e) = subst (λ y. NoWorse s (d u v) y) (sym e) (laws.none_is_worst (d u v) (values u v))
    reached_is_no_better u v x (inr q) = walked_is_no_better u v x q

    -- it is a distance, where each arc has a value, and one the other way
    pub distance_over_walks :
        ((a : Arc) → In a arcs → Value s a.worth) → ((a : Arc) → In a arcs → In (turned a) arcs) → Distance s d
    distance_over_walks worths turn =
        let one_way : (u v : ℕ) → NoWorse s (d u v) (d v u) =
        λ u v. reached_is_no_better u v (d v u) (reached_backwards s laws arcs worths turn v u (d v u) (walks.reached v u)) in
        record {
          is_a_value = values;
          home = λ u. laws.no_worse_both_ways_is_equal (d u u) s.start (values u u) laws.start_is_a_value
              (walks.no_walk_is_better u u [] refl) (laws.start_is_best (d u u) (values u u));
          triangle = λ u t v. reached_is_no_better u v (s.join (d u t) (d t v))
              (reached_by_way s laws arcs worths u t v (d u t) (d t v) (values u t) (values t v) (walks.reached u t) (walks.reached t v));
          both_ways = λ u v. laws.no_worse_both_ways_is_equal (d u v) (d v u) (values u v) (values v u) (one_way u v) (one_way v u);
        }

-- For what is computed, with as many arcs as `few_arcs_suffice` asks for.
module _ (s : Scale) (laws : Laws s) (arcs : List Arc) (worths : (a : Arc) → In a arcs → Value s a.worth)
    (all : List ℕ) (ends : (a : Arc) → In a arcs → In a.from all × In a.to all) (k : ℕ) (enough : length all ≤ suc k) where
  no_walk_beats_within : (u v : ℕ) (w : List Arc) → Walk arcs u v w → NoWorse s (best_within s arcs k u v) (walk_value s w)
  no_walk_beats_within u v w h =
      let q = few_arcs_suffice s laws arcs worths all ends u v w h in
      let value = walk_value_is_a_value s laws arcs worths u v in
      laws.order_is_transitive (best_within s arcs k u v) (walk_value s q.0) (walk_value s w)
      (within_is_a_value s laws arcs worths k u v) (value q.0 q.1) (value w h)
      (within_is_best s laws arcs worths k u v q.0 (omega arith) q.1) q.2

  pub best_within_walk_distance : WalkDistance s arcs (best_within s arcs k)
  best_within_walk_distance =
      record { reached = within_is_reached s laws arcs worths k; no_walk_is_better = no_walk_beats_within }

  pub best_within_distance : ((a : Arc) → In a arcs → In (turned a) arcs) → Distance s (best_within s arcs k)
  best_within_distance =
      distance_over_walks s arcs (best_within s arcs k) best_within_walk_distance laws (within_is_a_value s laws arcs worths k) worths
