-- What a search does to its words, arc by arc and sweep by sweep. Assumes nothing.
use Rattle.std.specs.Prelude.{ℕ, zero, suc, ◌-◌, Bool, true, cond, ◌&&◌, List, [], ◌∷◌, ◌++◌, reverse, ◌==◌, slice_index, slice_set}
use Rattle.measure.specs.Scale.{Scale, counts}
use Rattle.network.specs.Walks.{Arc, arc}
use Rattle.drawing.specs.Borders.{is_open, places_in}
use Rattle.drawing.specs.declared.tables.Road.{Road}
use Rattle.search.specs.declared.scope.Scope.{Scope}
use Rattle.search.specs.declared.scope.Scope.TheVariants.{Everywhere, Inside}
use Rattle.search.specs.declared.sweeps.Searched.{Searched}
use Rattle.search.specs.Searching.{offer}

-- whether both ends of a road lie in a search's scope, by the districts of the junctions
abbrev pub ends_within : List ℕ → Scope → Road → Bool
ends_within places Everywhere r = true
ends_within places (Inside k) r =
    slice_index places (r.first - 1) == k && slice_index places (r.second - 1) == k

-- whether a search may use a road: it is open, and lies in the scope
abbrev pub is_used : List ℕ → Scope → Road → Bool
is_used places scope r = is_open r.mark && ends_within places scope r

-- the arcs that a search uses: two for each road in its scope, one each way
abbrev pub used_arcs : List ℕ → Scope → List Road → List Arc
used_arcs places scope [] = []
used_arcs places scope (r ∷ rs) =
    cond (is_used places scope r)
    (arc r.first r.second r.value ∷ arc r.second r.first r.value ∷ used_arcs places scope rs) (used_arcs places scope rs)

-- the arcs that a search uses of these roads, by the districts and the scope of what it goes over
abbrev pub arcs_over : Searched → List Road → List Arc
arcs_over x rs = used_arcs (places_in x.used.junctions.now) x.scope rs

-- the roads as a sweep goes over them: from the first to the last, and back
abbrev pub there_and_back : List Road → List Road
there_and_back rs = rs ++ reverse rs

-- what an arc brings to its far end: its value joined with what stands where it begins
abbrev pub brought : Scale → List ℕ → Arc → ℕ
brought s values a = s.join (counts s a.worth) (offer s values a.from)

-- the words after one arc: what it brings is written where it is better
abbrev pub after_arc : Scale → List ℕ → Arc → List ℕ
after_arc s values a =
    cond (s.better (counts s (brought s values a)) (offer s values a.to)) (slice_set values (a.to - 1) (brought s values a)) values

-- the words after some arcs, one after the other
abbrev pub after_arcs : Scale → List ℕ → List Arc → List ℕ
after_arcs s values [] = values
after_arcs s values (a ∷ arcs) = after_arcs s (after_arc s values a) arcs

-- the words after so many sweeps over all arcs
abbrev pub after_sweeps : Scale → List Arc → ℕ → List ℕ → List ℕ
after_sweeps s arcs zero values = values
after_sweeps s arcs (suc n) values = after_sweeps s arcs n (after_arcs s values arcs)
