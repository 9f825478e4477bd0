-- Best values of a network are well defined, and a distance. Assumes nothing.
use Rattle.std.proofs.Common.{◌≡◌, ℕ, ◌-◌, ◌≤◌, map, length, subst, arith}
use lib.ListN.{length-map}
use Rattle.measure.specs.Scale.{Scale, Laws, NoWorse}
use Rattle.network.specs.Lists.{count_up}
use Rattle.network.specs.Walks.{walk_value, Best}
use Rattle.network.specs.Networks.{Network, arcs, best}
use Rattle.network.specs.Theorems.{Allowed, NoWalk, BestIsWellDefined}
use Rattle.network.proofs.Order.{none_alone_is_as_bad}
use Rattle.network.proofs.Lists.{length_count_up}
use Rattle.network.proofs.Walks.{walk_value_is_a_value, one_is_best}
use Rattle.network.proofs.FewArcs.{few_arcs_suffice}
use Rattle.network.proofs.AllWalks.{none_where_no_walk, distance_is_best, best_within_distance, best_within_walk_distance}
use Rattle.network.proofs.NetworkArcs.{arcs_turn, enough_arcs, arc_worths_are_values, arc_ends_are_counted, walk_is_lawful}
use Rattle.network.proofs.Distance.{Distance, WalkDistance}

module _ (s : Scale) (laws : Laws s) (net : Network) (allowed : Allowed s net) where
  pub best_distance : Distance s (best s net)
  best_distance =
      best_within_distance s laws (arcs net) (arc_worths_are_values s laws net allowed.sound) (count_up 1 net.junctions)
      (arc_ends_are_counted s net allowed.sound) (net.junctions - 1) (enough_arcs net) (arcs_turn net)

  pub best_walks : WalkDistance s (arcs net) (best s net)
  best_walks =
      best_within_walk_distance s laws (arcs net) (arc_worths_are_values s laws net allowed.sound) (count_up 1 net.junctions)
      (arc_ends_are_counted s net allowed.sound) (net.junctions - 1) (enough_arcs net)

  -- a walk of few arcs is not worth none, and for every walk there is one of few arcs
  pub no_walk_where_none : (u v : ℕ) → best s net u v ≡ s.none → NoWalk net u v
  no_walk_where_none u v e w h =
      let worths = arc_worths_are_values s laws net allowed.sound in
      let q = few_arcs_suffice s laws (arcs net) worths (count_up 1 net.junctions) (arc_ends_are_counted s net allowed.sound) u v w h in
      let few : length q.0 ≤ 4095 = omega (arith, q.3, length_count_up 1 net.junctions, allowed.few_junctions) in
      laws.few_roads_are_not_none (map (λ a. a.worth) q.0) (walk_is_lawful s net allowed.sound u v q.0 q.1)
      (simp length-map few)
      (none_alone_is_as_bad s laws (walk_value s q.0) (walk_value_is_a_value s laws (arcs net) worths u v q.0 q.1)
      (subst (λ x. NoWorse s x (walk_value s q.0)) e (best_walks.no_walk_is_better u v q.0 q.1)))

  pub computed_is_best : (u v : ℕ) → Best s (arcs net) u v (best s net u v)
  computed_is_best = distance_is_best s (arcs net) (best s net) best_walks no_walk_where_none

  pub best_is_well_defined_lem : BestIsWellDefined s net
  best_is_well_defined_lem = record {
    computed_is_best = computed_is_best;
    only_one_is_best = one_is_best s laws (arcs net) (arc_worths_are_values s laws net allowed.sound);
    none_without_a_walk = none_where_no_walk s (arcs net) (best s net) best_walks;
    no_walk_at_none = no_walk_where_none;
    best_is_a_value = best_distance.is_a_value;
    no_way_round_is_better = best_distance.triangle;
    both_ways_are_alike = best_distance.both_ways;
  }
