-- What is best in a district's network, what offers give, and borders between districts, for every network that a book may be
-- made of. Assumes nothing.
use Rattle.std.proofs.Common.{◌≡◌, ℕ, ◌-◌, List}
use Rattle.measure.specs.Scale.{Scale, Laws, NoWorse}
use Rattle.network.specs.Lists.{In, count_up}
use Rattle.network.specs.Walks.{Best}
use Rattle.network.specs.Networks.{Network, Junction, district, best, BorderOrder}
use Rattle.network.specs.Rows.{district_arcs, district_best}
use Rattle.network.specs.Theorems.{Allowed, OffersGiveBest}
use Rattle.network.proofs.Distance.{Distance, WalkDistance}
use Rattle.network.proofs.AllWalks.{best_within_distance, best_within_walk_distance}
use Rattle.network.proofs.NetworkArcs.{enough_arcs}
use Rattle.network.proofs.WellDefined.{best_distance, best_walks, no_walk_where_none}
use Rattle.network.proofs.Shortcuts.{district_arc_ends, district_arc_has_a_value, district_arcs_run_both_ways}
use Rattle.network.proofs.Crossing.{best_passes_a_border}
use Rattle.network.proofs.DistrictBest.{best_is_best_in_the_district, district_best_is_the_best}
use Rattle.network.proofs.Offers.{offers_give_best_lem}

module _ (s : Scale) (laws : Laws s) (net : Network) (allowed : Allowed s net) where
  pub district_distance : (k : ℕ) → Distance s (district_best s net k)
  district_distance k =
      let sound = allowed.sound in
      let dist = best_distance s laws net allowed in
      best_within_distance s laws (district_arcs s net k) (district_arc_has_a_value s net sound k dist laws)
      (count_up 1 net.junctions) (district_arc_ends s net sound k) (net.junctions - 1) (enough_arcs net)
      (district_arcs_run_both_ways s net sound k dist)

  pub district_walks : (k : ℕ) → WalkDistance s (district_arcs s net k) (district_best s net k)
  district_walks k =
      let sound = allowed.sound in
      best_within_walk_distance s laws (district_arcs s net k)
      (district_arc_has_a_value s net sound k (best_distance s laws net allowed) laws)
      (count_up 1 net.junctions) (district_arc_ends s net sound k) (net.junctions - 1) (enough_arcs net)

  -- between two junctions of a district, best in its network is best in the whole network
  pub district_best_is_best :
      (k u v : ℕ) → Junction net u → Junction net v → district net u ≡ k → district net v ≡ k
      → Best s (district_arcs s net k) u v (best s net u v) × (district_best s net k u v ≡ best s net u v)
  district_best_is_best k u v u_junction v_junction u_is_here v_is_here =
      let dist = best_distance s laws net allowed in
      let walks = best_walks s laws net allowed in
      let no_walk = no_walk_where_none s laws net allowed in (
        best_is_best_in_the_district s laws net allowed.sound dist walks no_walk k u v u_is_here v_is_here,
        district_best_is_the_best s laws net allowed.sound dist walks no_walk k u v u_is_here v_is_here
            (district_distance k).is_a_value (district_walks k),
      )

  pub offers_give_the_best : OffersGiveBest s net
  offers_give_the_best =
      offers_give_best_lem s laws net allowed.sound (best_distance s laws net allowed) (best_walks s laws net allowed)
      (no_walk_where_none s laws net allowed)

  -- between two districts, the way by some border of the order is as good as the best
  pub some_border_covers :
      (order : List ℕ) → BorderOrder net order → (u v : ℕ) → (best s net u v ≡ s.none → ⊥) → (district net u ≡ district net v → ⊥)
      → (b : ℕ) × In b order × NoWorse s (s.join (best s net u b) (best s net b v)) (best s net u v)
  some_border_covers order is_order u v reached differ =
      let r = best_passes_a_border s laws net allowed.sound (best_distance s laws net allowed) (best_walks s laws net allowed) u v reached differ in
      (r.0, is_order.holds_every_border r.0 r.1, r.2)
