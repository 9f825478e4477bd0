-- Roads one after the other, and sweeps one after the other. Assumes nothing.
use Rattle.std.proofs.Common.{◌≡◌, ℕ, zero, suc, ◌+◌, ◌-◌, ◌<◌, true, false, cond, List, [], ◌∷◌, ◌++◌, length, get_or, drop, sym, refl, ap, ◌∙◌, arith}
use Rattle.std.proofs.lemmas.List.{drop_more}
use Rattle.measure.specs.Scale.{Scale}
use Rattle.network.specs.Walks.{Arc, arc}
use Rattle.drawing.specs.declared.tables.Road.{Road}
use Rattle.search.specs.declared.scope.Scope.{Scope}
use Rattle.search.specs.Sweeps.{is_used, used_arcs, after_arc, after_arcs, after_sweeps}

-- some roads, and then others
pub roads_and_others :
    (s : Scale) (places : List ℕ) (scope : Scope) (rs others : List Road) (values : List ℕ)
    → after_arcs s (after_arcs s values (used_arcs places scope rs)) (used_arcs places scope others)
    ≡ after_arcs s values (used_arcs places scope (rs ++ others))
roads_and_others s places scope [] others values = refl
roads_and_others s places scope (r ∷ rs) others values =
    let there = arc r.first r.second r.value in
    let back = arc r.second r.first r.value in
    let first = used_arcs places scope rs in
    let all = used_arcs places scope (rs ++ others) in
    elim (is_used places scope r) as (λ t.
    after_arcs s (after_arcs s values (cond t (there ∷ back ∷ first) first)) (used_arcs places scope others)
    ≡ after_arcs s values (cond t (there ∷ back ∷ all) all)) [
      | true ↦ roads_and_others s places scope rs others (after_arc s (after_arc s values there) back)
      | false ↦ roads_and_others s places scope rs others values
    ]

-- the road at place i, and then those behind it
pub roads_in_turn :
    (s : Scale) (places : List ℕ) (scope : Scope) (rs : List Road) (values : List ℕ) (i : ℕ) (d : Road) → i < length rs
    → after_arcs s (after_arcs s values (used_arcs places scope (get_or rs i d ∷ []))) (used_arcs places scope (drop (i + 1) rs))
    ≡ after_arcs s values (used_arcs places scope (drop i rs))
roads_in_turn s places scope rs values i d h =
    roads_and_others s places scope (get_or rs i d ∷ []) (drop (i + 1) rs) values
    ∙ ap (λ l. after_arcs s values (used_arcs places scope l)) (sym (drop_more rs i d h))

-- one sweep of those that are to come
pub sweeps_in_turn :
    (s : Scale) (arcs : List Arc) (values : List ℕ) (n i : ℕ) → i < n
    → after_sweeps s arcs (n - (i + 1)) (after_arcs s values arcs) ≡ after_sweeps s arcs (n - i) values
sweeps_in_turn s arcs values n i h =
    let one_more : suc (n - (i + 1)) ≡ n - i = omega arith in ap (λ k. after_sweeps s arcs k values) one_more

-- what a sweep leaves as it is stays so
pub settled_stays :
    (s : Scale) (arcs : List Arc) (values : List ℕ) → after_arcs s values arcs ≡ values → (n : ℕ)
    → after_sweeps s arcs n values ≡ values
settled_stays s arcs values e zero = refl
settled_stays s arcs values e (suc n) = ap (after_sweeps s arcs n) e ∙ settled_stays s arcs values e n
