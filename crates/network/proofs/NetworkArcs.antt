-- The arcs of a sound network: their values, their ends, and that each has one the other way. Assumes nothing.
use Rattle.std.proofs.Common.{◌≡◌, ℕ, suc, ◌-◌, ◌≤◌, true, ◌⊎◌, List, [], ◌∷◌, map, length, sym, refl, ap, subst, inl, inr, ⊎_elim, arith}
use Rattle.std.proofs.lemmas.Bool.{cond_both}
use Rattle.measure.specs.Scale.{Scale, Value, Lawful, AllLawful, Laws}
use Rattle.network.specs.Lists.{In, count_up}
use Rattle.network.specs.Walks.{Arc, arc, Walk}
use Rattle.network.specs.Networks.{Road, Network, Junction, Sound, SoundRoad, arcs_of, arcs}
use Rattle.network.proofs.Lists.{all_in, in_count_up, count_up_in, length_count_up}
use Rattle.network.proofs.Walks.{turned}

-- the two arcs of a road
abbrev pub there : Road → Arc
there r = arc r.first r.second r.worth

abbrev pub and_back : Road → Arc
and_back r = arc r.second r.first r.worth

-- the arc is one of an open road of the list
abbrev pub ComesOf : Arc → List Road → Type 0
ComesOf a roads = (r : Road) × In r roads × (r.is_open ≡ true) × ((a ≡ there r) ⊎ (a ≡ and_back r))

pub arc_comes_of_a_road : (a : Arc) (roads : List Road) → In a (arcs_of roads) → ComesOf a roads
arc_comes_of_a_road a [] i = absurd i
arc_comes_of_a_road a (r ∷ roads) i =
    let later : In a (arcs_of roads) → ComesOf a (r ∷ roads) =
    λ j. let q = arc_comes_of_a_road a roads j in (q.0, inr q.1, q.2, q.3) in
    cond_both r.is_open (there r ∷ and_back r ∷ arcs_of roads) (arcs_of roads) (λ l. In a l → ComesOf a (r ∷ roads))
    (λ t. ⊎_elim (λ e. (r, inl refl, t, inl e)) (⊎_elim (λ e. (r, inl refl, t, inr e)) later)) (λ t. later) i

pub open_road_has_arcs :
    (r : Road) (roads : List Road) → In r roads → r.is_open ≡ true → In (there r) (arcs_of roads) × In (and_back r) (arcs_of roads)
open_road_has_arcs r [] i t = absurd i
open_road_has_arcs r (q ∷ roads) (inl e) t =
    rw (subst (λ x. x.is_open ≡ true) e t) (inl (ap there e), inr (inl (ap and_back e)))
open_road_has_arcs r (q ∷ roads) (inr i) t =
    let h = open_road_has_arcs r roads i t in
    cond_both q.is_open (there q ∷ and_back q ∷ arcs_of roads) (arcs_of roads) (λ l. In (there r) l × In (and_back r) l)
    (λ o. (inr (inr h.0), inr (inr h.1))) (λ o. h)

-- each arc has one the other way
pub arcs_turn : (net : Network) (a : Arc) → In a (arcs net) → In (turned a) (arcs net)
arcs_turn net a i =
    let q = arc_comes_of_a_road a net.roads i in
    let both = open_road_has_arcs q.0 net.roads q.1 q.2 in
    ⊎_elim (λ e. subst (λ b. In (turned b) (arcs net)) (sym e) both.1) (λ e. subst (λ b. In (turned b) (arcs net)) (sym e) both.0) q.3

-- the junctions are what `count_up` lists
pub junction_is_counted : (net : Network) (v : ℕ) → Junction net v → In v (count_up 1 net.junctions)
junction_is_counted net v j = in_count_up v 1 net.junctions j.0 (omega arith)

pub counted_is_a_junction : (net : Network) (v : ℕ) → In v (count_up 1 net.junctions) → Junction net v
counted_is_a_junction net v i = let h = count_up_in v 1 net.junctions i in (h.0, omega arith)

-- one arc fewer than there are junctions
pub enough_arcs : (net : Network) → length (count_up 1 net.junctions) ≤ suc (net.junctions - 1)
enough_arcs net = rw length_count_up (omega arith)

module _ (s : Scale) (net : Network) (sound : Sound s net) where
  -- what holds of both arcs of each sound road holds of each arc
  pub each_arc :
      (P : Arc → Type 0) → ((r : Road) → SoundRoad s net r → P (there r) × P (and_back r)) → (a : Arc) → In a (arcs net) → P a
  each_arc P h a i =
      let q = arc_comes_of_a_road a net.roads i in
      let both = h q.0 (all_in (SoundRoad s net) q.0 net.roads sound.roads_are_sound q.1) in
      ⊎_elim (λ e. subst P (sym e) both.0) (λ e. subst P (sym e) both.1) q.3

  pub arc_worths_are_lawful : (a : Arc) → In a (arcs net) → Lawful s a.worth
  arc_worths_are_lawful = each_arc (λ a. Lawful s a.worth) (λ r h. (h.worth_is_lawful, h.worth_is_lawful))

  pub arc_ends_are_junctions : (a : Arc) → In a (arcs net) → Junction net a.from × Junction net a.to
  arc_ends_are_junctions =
      each_arc (λ a. Junction net a.from × Junction net a.to)
      (λ r h. ((h.first_is_a_junction, h.second_is_a_junction), (h.second_is_a_junction, h.first_is_a_junction)))

  pub arc_ends_are_counted :
      (a : Arc) → In a (arcs net) → In a.from (count_up 1 net.junctions) × In a.to (count_up 1 net.junctions)
  arc_ends_are_counted a i =
      let h = arc_ends_are_junctions a i in (junction_is_counted net a.from h.0, junction_is_counted net a.to h.1)

  -- a walk's arcs have lawful values
  pub walk_is_lawful : (u v : ℕ) (w : List Arc) → Walk (arcs net) u v w → AllLawful s (map (λ a. a.worth) w)
  walk_is_lawful u v [] e = tt
  walk_is_lawful u v (a ∷ w) (i, e, k) = (arc_worths_are_lawful a i, walk_is_lawful a.to v w k)

pub arc_worths_are_values :
    (s : Scale) (laws : Laws s) (net : Network) (sound : Sound s net) (a : Arc) → In a (arcs net) → Value s a.worth
arc_worths_are_values s laws net sound a i = laws.lawful_is_a_value a.worth (arc_worths_are_lawful s net sound a i)
