-- What a search leaves at each junction: the best over offers that walks go on from. Assumes nothing.
use Rattle.std.specs.Prelude.{◌≡◌, List, Err, ◌⊎◌, ℕ, ◌-◌, ◌≤◌, length, get_or}
use Rattle.measure.specs.Scale.{Scale, NoWorse, counts}
use Rattle.network.specs.Walks.{Arc, Walk, walk_value}
use Rattle.network.specs.Networks.{Network, Junction, Sound, arcs}
use Rattle.network.specs.Rows.{inner_arcs}
use Rattle.drawing.specs.Borders.{network_of, border_checks}
use Rattle.drawing.specs.Outcomes.{verdict}
use Rattle.drawing.specs.declared.refusal.Refusal.{Refusal}
use Rattle.drawing.specs.declared.rest.Rest.{Rest}
use Rattle.drawing.specs.declared.tables.Junction.{Junction as JunctionEntry}
use Rattle.drawing.specs.declared.tables.Road.{Road}
use Rattle.search.specs.declared.scope.Scope.{Scope}
use Rattle.search.specs.declared.scope.Scope.TheVariants.{Everywhere, Inside}

-- the arcs of the roads in a search's scope: all open roads, or those with both ends in one district
abbrev pub scope_arcs : Network → Scope → List Arc
scope_arcs net Everywhere = arcs net
scope_arcs net (Inside k) = inner_arcs net k

-- what junction u offers: what its word counts as
abbrev pub offer : Scale → List ℕ → ℕ → ℕ
offer s offers u = counts s (get_or offers (u - 1) s.none)

-- y is a junction's offer joined with the value of a walk that goes on from there to v
abbrev pub GoneOn : Scale → Network → List Arc → List ℕ → ℕ → ℕ → Type 0
GoneOn s net arcs offers v y =
    (u : ℕ) × Junction net u × ((w : List Arc) × Walk arcs u v w × (s.join (offer s offers u) (walk_value s w) ≡ y))

-- nothing that P holds of is better than x; and P holds of x, or x is none
abbrev pub NoneBetter : Scale → (ℕ → Type 0) → ℕ → Type 0
NoneBetter s P x = ((x ≡ s.none) ⊎ P x) × ((y : ℕ) → P y → NoWorse s x y)

-- the tables hold a sound network, and there is a word for each of its junctions
pub record Searchable (s : Scale) (d : Rest) (junctions : List JunctionEntry) (roads : List Road) (values : List ℕ) : Type 0 where
  pub junctions_are_there : d.junctions ≤ length junctions
  pub roads_are_there : d.roads ≤ length roads
  pub a_word_for_each_junction : length values ≡ d.junctions
  pub sound : Sound s (network_of d junctions roads)

-- Where the tables hold a sound network, a search leaves at each junction the best over all offers that were there, each joined
-- with walks in its scope that go on to the junction; none where none goes on to it.
abbrev pub LeavesTheBest : Scale → Rest → List JunctionEntry → List Road → Scope → List ℕ → List ℕ → Type 0
LeavesTheBest s d junctions roads scope offers after =
    Searchable s d junctions roads offers
    → (v : ℕ) → Junction (network_of d junctions roads) v
    → NoneBetter s (GoneOn s (network_of d junctions roads) (scope_arcs (network_of d junctions roads) scope) offers v)
    (get_or after (v - 1) 0)

-- where a table is too short for the drawing, the words stay as they were
abbrev pub StayWhereShort : Rest → List JunctionEntry → List Road → List ℕ → List ℕ → Type 0
StayWhereShort d junctions roads offers after = (x : Refusal) → verdict (border_checks d junctions roads) ≡ Err x → after ≡ offers
