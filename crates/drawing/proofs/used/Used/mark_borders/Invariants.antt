use Rattle.std.proofs.Common.{◌≡◌, ℕ, ◌≤◌, map, take}
use Rattle.network.specs.Networks.{Network, arcs_of, at_a_crossing}
use Rattle.drawing.specs.Marked.{is_marked}
use Rattle.drawing.specs.Borders.{road_of, places_in}
use Rattle.drawing.proofs.used.Used.mark_borders.Given as goal

-- the marks are what the roads so far make borders
abbrev pub invariant-loop-road : goal.invariant-loop-road
invariant-loop-road l =
    (net : Network) → net.places ≡ places_in l.self.junctions.now
    → (v : ℕ) → v ≤ 4096 → is_marked l.marks v ≡ at_a_crossing net (arcs_of (map road_of (take l.road-index l.self.roads.now))) v
