-- A road network cut into districts, its arcs, and its borders. Assumes nothing.
use Rattle.std.specs.Prelude.{◌≡◌, ℕ, ◌-◌, ◌<◌, ◌≤◌, Bool, true, false, cond, not, ◌&&◌, ◌||◌, List, [], ◌∷◌, length, filter, ◌==◌, slice_index}
use Rattle.std.specs.List.{AllByRecursion}
use Rattle.measure.specs.Scale.{Scale, Lawful}
use Rattle.network.specs.Lists.{In, Distinct, count_up}
use Rattle.network.specs.Walks.{Arc, arc, best_within}

-- A road between two junctions, which runs both ways; a closed road counts for nothing.
pub record Road : Type 0 where
  pub first : ℕ
  pub second : ℕ
  pub worth : ℕ
  pub is_open : Bool

-- A network: junctions, which are numbered from 1; districts, numbered from 0; the district of junction 1, 2 and so on; roads.
pub record Network : Type 0 where
  pub junctions : ℕ
  pub districts : ℕ
  pub places : List ℕ
  pub roads : List Road

-- the district in which junction v lies
abbrev pub district : Network → ℕ → ℕ
district net v = slice_index net.places (v - 1)

-- v is a junction of the network
abbrev pub Junction : Network → ℕ → Type 0
Junction net v = (1 ≤ v) × (v ≤ net.junctions)

-- both ends are junctions, and two; the value is one that a road may have
pub record SoundRoad (s : Scale) (net : Network) (r : Road) : Type 0 where
  pub first_is_a_junction : Junction net r.first
  pub second_is_a_junction : Junction net r.second
  pub ends_differ : r.first ≡ r.second → ⊥
  pub worth_is_lawful : Lawful s r.worth

pub record Sound (s : Scale) (net : Network) : Type 0 where
  pub every_junction_has_a_district : length net.places ≡ net.junctions
  pub districts_are_below_their_number : AllByRecursion (λ d. d < net.districts) net.places
  pub roads_are_sound : AllByRecursion (SoundRoad s net) net.roads

-- the arcs of a list of roads: two for each open road, one each way
abbrev pub arcs_of : List Road → List Arc
arcs_of [] = []
arcs_of (r ∷ rs) =
    cond r.is_open (arc r.first r.second r.worth ∷ arc r.second r.first r.worth ∷ arcs_of rs) (arcs_of rs)

abbrev pub arcs : Network → List Arc
arcs net = arcs_of net.roads

-- the best value from u to v, by computing: a walk that passes no junction twice has fewer arcs than there are junctions
abbrev pub best : Scale → Network → ℕ → ℕ → ℕ
best s net = best_within s (arcs net) (net.junctions - 1)

-- the arc leads into another district
abbrev pub crosses : Network → Arc → Bool
crosses net a = not (district net a.from == district net a.to)

-- the junction is an end of one of the arcs that lead into another district
abbrev pub at_a_crossing : Network → List Arc → ℕ → Bool
at_a_crossing net [] v = false
at_a_crossing net (a ∷ rest) v = (crosses net a && (a.from == v || a.to == v)) || at_a_crossing net rest v

-- a border: a junction with an open road into another district
abbrev pub is_border : Network → ℕ → Bool
is_border net v = at_a_crossing net (arcs net) v

-- the borders, ascending
abbrev pub borders : Network → List ℕ
borders net = filter (is_border net) (count_up 1 net.junctions)

-- a border order: each border stands in it once, and nothing else does
pub record BorderOrder (net : Network) (order : List ℕ) : Type 0 where
  pub holds_borders_alone : AllByRecursion (λ v. is_border net v ≡ true) order
  pub holds_every_border : (v : ℕ) → is_border net v ≡ true → In v order
  pub holds_none_twice : Distinct order
