-- The network that a drawing and its tables hold, and its borders. Assumes nothing.
use Rattle.std.specs.Prelude.{◌≡◌, ℕ, ◌-◌, Bool, true, false, not, ◌&&◌, List, [], ◌∷◌, ◌++◌, map, length, take, drop, Result, ◌==◌, slice_index}
use Rattle.network.specs.Networks.{Network, borders}
use Rattle.network.specs.Networks as network
use Rattle.drawing.specs.Edits.{size_check}
use Rattle.drawing.specs.Outcomes.{Check, verdict, Ends}
use Rattle.drawing.specs.declared.refusal.Refusal.{Refusal}
use Rattle.drawing.specs.declared.rest.Rest.{Rest}
use Rattle.drawing.specs.declared.used.Used.{Used}
use Rattle.drawing.specs.declared.tables.Junction.{Junction}
use Rattle.drawing.specs.declared.tables.Mark.{Mark}
use Rattle.drawing.specs.declared.tables.Mark.TheVariants.{Open, Closed}
use Rattle.drawing.specs.declared.tables.Road.{Road}

abbrev pub is_open : Mark → Bool
is_open Open = true
is_open Closed = false

-- a record of the road table, as a road of a network
abbrev pub road_of : Road → network.Road
road_of r = record { first = r.first; second = r.second; worth = r.value; is_open = is_open r.mark }

-- the districts of junctions, by their entries
abbrev pub places_in : List Junction → List ℕ
places_in junctions = map (λ j. j.district) junctions

-- the network of a drawing: the parts of the tables that it uses
abbrev pub network_of : Rest → List Junction → List Road → Network
network_of d junctions roads = record {
  junctions = d.junctions;
  districts = d.districts;
  places = places_in (take d.junctions junctions);
  roads = map road_of (take d.roads roads);
}

-- an open road into another district, by the districts of the junctions
abbrev pub road_crosses : List ℕ → Road → Bool
road_crosses places r =
    is_open r.mark && not (slice_index places (r.first - 1) == slice_index places (r.second - 1))

abbrev pub border_checks : Rest → List Junction → List Road → List Check
border_checks d junctions roads =
    size_check d.junctions (length junctions) ∷ size_check d.roads (length roads) ∷ []

-- the parts of the tables that a drawing uses, where both are long enough
abbrev pub UsesTheTables : Rest → List Junction → List Road → Result Used Refusal → Type 0
UsesTheTables d junctions roads r =
    Ends (verdict (border_checks d junctions roads)) r (Unit {0})
    (λ u. (u.junctions.now ≡ take d.junctions junctions) × (u.roads.now ≡ take d.roads roads))

-- the network's borders
abbrev pub borders_in : Rest → List Junction → List Road → List ℕ
borders_in d junctions roads = borders (network_of d junctions roads)

-- the call answers how many borders the drawing has
abbrev pub CountsTheBorders : Rest → List Junction → List Road → Result ℕ Refusal → Type 0
CountsTheBorders d junctions roads r =
    Ends (verdict (border_checks d junctions roads)) r (Unit {0}) (λ n. n ≡ length (borders (network_of d junctions roads)))

abbrev pub list_checks : Rest → List Junction → List Road → List ℕ → List Check
list_checks d junctions roads list =
    border_checks d junctions roads ++ (size_check (length (borders_in d junctions roads)) (length list) ∷ [])

-- The call writes the borders to the front of a list, ascending, and answers how many there are; the words behind them stay.
abbrev pub ListsTheBorders : Rest → List Junction → List Road → List ℕ → Result ℕ Refusal → List ℕ → Type 0
ListsTheBorders d junctions roads list r after =
    Ends (verdict (list_checks d junctions roads list)) r (after ≡ list)
    (λ n. (n ≡ length (borders_in d junctions roads)) × (after ≡ borders_in d junctions roads ++ drop n list))
