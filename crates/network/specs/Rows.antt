-- Border rows, shortcuts, the network of a district, and district rows. Assumes nothing.
use Rattle.std.specs.Prelude.{ℕ, ◌-◌, Bool, cond, ◌&&◌, List, [], ◌∷◌, ◌++◌, filter, ◌==◌, slice_index}
use Rattle.measure.specs.Scale.{Scale}
use Rattle.network.specs.Lists.{count_up}
use Rattle.network.specs.Walks.{Arc, arc, best_within}
use Rattle.network.specs.Networks.{Network, district, arcs, best, borders}
use Rattle.network.specs.Labels.{Entry, row}

-- the border row of v under a border order: its hubs are the borders, named by their rank in the order, from 0
abbrev pub border_row : Scale → Network → List ℕ → ℕ → List Entry
border_row s net order v = row s (best s net) (λ i. i) order v

-- the arc runs inside district k
abbrev pub runs_inside : Network → ℕ → Arc → Bool
runs_inside net k a = district net a.from == k && district net a.to == k

-- the arcs inside district k
abbrev pub inner_arcs : Network → ℕ → List Arc
inner_arcs net k = filter (runs_inside net k) (arcs net)

-- the borders of district k, ascending
abbrev pub borders_of : Network → ℕ → List ℕ
borders_of net k = filter (λ v. district net v == k) (borders net)

-- the shortcuts from b to junctions of the list: to each other than b, with their best value, unless that is none
abbrev pub shortcuts_from : Scale → Network → ℕ → List ℕ → List Arc
shortcuts_from s net b [] = []
shortcuts_from s net b (c ∷ cs) =
    cond (b == c) (shortcuts_from s net b cs)
    (cond (best s net b c == s.none) (shortcuts_from s net b cs) (arc b c (best s net b c) ∷ shortcuts_from s net b cs))

-- the shortcuts from each junction of the first list to each of the second
abbrev pub shortcuts_among : Scale → Network → List ℕ → List ℕ → List Arc
shortcuts_among s net [] cs = []
shortcuts_among s net (b ∷ bs) cs = shortcuts_from s net b cs ++ shortcuts_among s net bs cs

-- the shortcuts of district k: between any two of its borders, with their best value, if that is not none
abbrev pub shortcuts : Scale → Network → ℕ → List Arc
shortcuts s net k = shortcuts_among s net (borders_of net k) (borders_of net k)

-- the network of district k: the arcs inside it, and its shortcuts
abbrev pub district_arcs : Scale → Network → ℕ → List Arc
district_arcs s net k = inner_arcs net k ++ shortcuts s net k

-- the best value in the network of district k, by computing
abbrev pub district_best : Scale → Network → ℕ → ℕ → ℕ → ℕ
district_best s net k = best_within s (district_arcs s net k) (net.junctions - 1)

-- the junctions of district k, ascending
abbrev pub members : Network → ℕ → List ℕ
members net k = filter (λ v. district net v == k) (count_up 1 net.junctions)

-- the district row of v: its hubs are the junctions of its district, named by their numbers
abbrev pub district_row : Scale → Network → ℕ → List Entry
district_row s net v =
    row s (district_best s net (district net v)) (λ i. slice_index (members net (district net v)) i) (members net (district net v)) v
