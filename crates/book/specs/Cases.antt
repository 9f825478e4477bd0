-- The rules worked out on the network of six junctions: one list of cases, from its borders to answers. Assumes nothing.
use Rattle.std.specs.Prelude.{◌≡◌, ℕ, ◌+◌, ◌*◌, false, cond, List, [], ◌∷◌, ◌++◌, length, Some, None, Option, ◌==◌}
use Rattle.measure.specs.Scale.{Scale}
use Rattle.measure.specs.Measures.{metres, clearance}
use Rattle.network.specs.Lists.{count_up}
use Rattle.network.specs.Networks.{Road, Network, district, borders}
use Rattle.network.specs.Labels.{meet}
use Rattle.network.specs.Rows.{border_row, district_row, members}
use Rattle.network.specs.Worked.{open_road, six_with, six, six_order, network_cases}
use Rattle.book.specs.Words.{border_rows, district_rows, all_entries, words}
use Rattle.book.specs.Opened.{as_pair, as_pair_by_rank}

-- the best value between two junctions and the junction where their rows meet: of district rows in one district, and of border
-- rows in two; nothing where there is no road
abbrev pub answer : Scale → Network → List ℕ → ℕ → ℕ → Option (ℕ × ℕ)
answer s net order u v =
    cond (district net u == district net v) (as_pair (meet s (district_row s net u) (district_row s net v)))
    (as_pair_by_rank order (meet s (border_row s net order u) (border_row s net order v)))

-- the sum over a list of districts of the squared number of their junctions
abbrev pub squares : Network → List ℕ → ℕ
squares net [] = 0
squares net (k ∷ ks) = length (members net k) * length (members net k) + squares net ks

-- The working table of a build: two scratch words for each junction, the borders, a cell for each junction and border, and in
-- each district a cell for any two junctions.
abbrev pub working_words : Network → List ℕ → ℕ
working_words net order =
    2 * net.junctions + length order + net.junctions * length order + squares net (count_up 0 net.districts)

abbrev pub closed_road : ℕ → ℕ → ℕ → Road
closed_road u v x = record { first = u; second = v; worth = x; is_open = false }

-- the network with roads 3 and 4 closed
abbrev pub six_cut : Network
six_cut =
    six_with
    (open_road 1 2 700
    ∷ open_road 2 3 900
    ∷ closed_road 3 4 200
    ∷ closed_road 1 5 100
    ∷ open_road 4 5 150
    ∷ open_road 5 6 400
    ∷ [])

-- the network with clearances, in centimetres
abbrev pub six_heights : Network
six_heights =
    six_with
    (open_road 1 2 420
    ∷ open_road 2 3 500
    ∷ open_road 3 4 300
    ∷ open_road 1 5 450
    ∷ open_road 4 5 400
    ∷ open_road 5 6 380
    ∷ [])

abbrev pub book_cases : List (Type 0)
book_cases =
    (length (all_entries (border_rows metres six six_order)) ≡ 16)
    ∷ (length (all_entries (district_rows metres six)) ≡ 12)
    ∷ (length (words metres six six_order) ≡ 88)
    ∷ (working_words six six_order ≡ 58)
    ∷ (answer metres six six_order 1 3 ≡ Some (450, 1))
    ∷ (answer metres six six_order 2 6 ≡ Some (1200, 1))
    ∷ (answer metres six six_order 3 6 ≡ Some (750, 3))
    ∷ (answer metres six six_order 4 4 ≡ Some (0, 4))
    ∷ (borders six_cut ≡ [])
    ∷ (answer metres six_cut [] 2 6 ≡ None)
    ∷ (answer metres six_cut [] 1 3 ≡ Some (1600, 1))
    ∷ (length (words metres six_cut []) ≡ 52)
    ∷ (answer clearance six_heights six_order 1 3 ≡ Some (420, 1))
    ∷ (answer clearance six_heights six_order 2 6 ≡ Some (380, 1))
    ∷ []

-- all cases
abbrev pub cases : List (Type 0)
cases = network_cases ++ book_cases
