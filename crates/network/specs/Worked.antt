-- The rules worked out on a network of six junctions, as a list of cases. Assumes nothing.
use Rattle.std.specs.Prelude.{◌≡◌, ℕ, true, List, [], ◌∷◌}
use Rattle.measure.specs.Measures.{metres}
use Rattle.network.specs.Walks.{arc}
use Rattle.network.specs.Networks.{Road, Network, borders}
use Rattle.network.specs.Labels.{entry}
use Rattle.network.specs.Rows.{border_row, district_row, shortcuts}

-- each statement of a list holds
abbrev pub AllHold : List (Type 0) → Type 0
AllHold [] = Unit {0}
AllHold (p ∷ ps) = p × AllHold ps

abbrev pub open_road : ℕ → ℕ → ℕ → Road
open_road u v x = record { first = u; second = v; worth = x; is_open = true }

-- six junctions, of which 4, 5 and 6 lie in district 1 and the others in district 0
abbrev pub six_with : List Road → Network
six_with rs = record { junctions = 6; districts = 2; places = 0 ∷ 0 ∷ 0 ∷ 1 ∷ 1 ∷ 1 ∷ []; roads = rs }

-- the network, in metres
abbrev pub six : Network
six =
    six_with
    (open_road 1 2 700
    ∷ open_road 2 3 900
    ∷ open_road 3 4 200
    ∷ open_road 1 5 100
    ∷ open_road 4 5 150
    ∷ open_road 5 6 400
    ∷ [])

-- its border order
abbrev pub six_order : List ℕ
six_order = 1 ∷ 3 ∷ 4 ∷ 5 ∷ []

-- Its borders in order; its border rows, as rank and value; its shortcuts; its district rows, as hub and value.
abbrev pub network_cases : List (Type 0)
network_cases =
    (borders six ≡ six_order)
    ∷ (border_row metres six six_order 1 ≡ entry 0 0 ∷ [])
    ∷ (border_row metres six six_order 2 ≡ entry 0 700 ∷ entry 1 900 ∷ [])
    ∷ (border_row metres six six_order 3 ≡ entry 0 450 ∷ entry 1 0 ∷ [])
    ∷ (border_row metres six six_order 4 ≡ entry 0 250 ∷ entry 1 200 ∷ entry 2 0 ∷ [])
    ∷ (border_row metres six six_order 5 ≡ entry 0 100 ∷ entry 1 350 ∷ entry 2 150 ∷ entry 3 0 ∷ [])
    ∷ (border_row metres six six_order 6 ≡ entry 0 500 ∷ entry 1 750 ∷ entry 2 550 ∷ entry 3 400 ∷ [])
    ∷ (shortcuts metres six 0 ≡ arc 1 3 450 ∷ arc 3 1 450 ∷ [])
    ∷ (shortcuts metres six 1 ≡ arc 4 5 150 ∷ arc 5 4 150 ∷ [])
    ∷ (district_row metres six 1 ≡ entry 1 0 ∷ [])
    ∷ (district_row metres six 2 ≡ entry 1 700 ∷ entry 2 0 ∷ [])
    ∷ (district_row metres six 3 ≡ entry 1 450 ∷ entry 2 900 ∷ entry 3 0 ∷ [])
    ∷ (district_row metres six 4 ≡ entry 4 0 ∷ [])
    ∷ (district_row metres six 5 ≡ entry 4 150 ∷ entry 5 0 ∷ [])
    ∷ (district_row metres six 6 ≡ entry 4 550 ∷ entry 5 400 ∷ entry 6 0 ∷ [])
    ∷ []
