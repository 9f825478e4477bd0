-- Sweeps over the arcs in a search's scope leave the best. Assumes nothing.
use Rattle.std.proofs.Common.{◌≡◌, ℕ, ◌-◌, ◌<◌, ◌≤◌, Bool, true, false, cond, ◌&&◌, eqb, ◌⊎◌, List, [], ◌∷◌, ◌++◌, map, length, get_or, take, filter, reverse, sym, refl, ap, ◌∙◌, subst, ap₂, inl, inr, ⊎_elim, arith}
use Rattle.std.proofs.lemmas.List.{get_or_default, length-map, reverse-append}
use Rattle.std.proofs.lemmas.Bool.{cond_both}
use Rattle.std.proofs.Math.ListN.{get_or-map}
use Rattle.measure.specs.Scale.{Scale, Value, Laws, NoWorse, counts}
use Rattle.network.specs.Lists.{In, count_up}
use Rattle.network.specs.Walks.{Arc, arc, walk_value}
use Rattle.network.specs.Networks.{Network, Junction, district, arcs_of, arcs}
use Rattle.network.specs.Rows.{runs_inside}
use Rattle.network.proofs.Order.{start_changes_nothing_behind, none_stays_none_behind, join_keeps_the_order_behind}
use Rattle.network.proofs.Lists.{length_count_up, in_append_left, in_append_cases}
use Rattle.network.proofs.Walks.{walk_value_is_a_value, walk_of_more_arcs, walks_join, value_of_walks_joined, value_of_one_arc}
use Rattle.network.proofs.FewArcs.{few_arcs_suffice}
use Rattle.network.proofs.NetworkArcs.{arc_ends_are_junctions, arc_ends_are_counted, arc_worths_are_values}
use Rattle.network.proofs.DistrictArcs.{inner_is_in}
use Rattle.drawing.specs.Borders.{is_open, road_of, places_in, network_of}
use Rattle.drawing.specs.declared.rest.Rest.{Rest}
use Rattle.drawing.specs.declared.tables.Junction.{Junction as JunctionEntry}
use Rattle.drawing.specs.declared.tables.Road.{Road}
use Rattle.search.specs.declared.scope.Scope.{Scope}
use Rattle.search.specs.declared.scope.Scope.TheVariants.{Everywhere, Inside}
use Rattle.search.specs.Searching.{scope_arcs, offer, GoneOn, NoneBetter, LeavesTheBest}
use Rattle.search.specs.Sweeps.{is_used, used_arcs, there_and_back, after_sweeps}
use Rattle.search.proofs.Improving.{count_is_a_value, value_counts_as_itself, offer_is_a_value, length_after_sweeps, Between, values_after_sweeps, have_after_sweeps, every_walk_is_taken}

-- the arcs of a road, those both inside a district or both not
both_or_none :
    (a b : Bool) (x y : Arc) (us rest : List Arc) → us ≡ rest
    → cond (a && b) (x ∷ y ∷ us) us ≡ cond (a && b) (x ∷ cond (b && a) (y ∷ rest) rest) (cond (b && a) (y ∷ rest) rest)
both_or_none true true x y us rest e = ap (λ l. x ∷ y ∷ l) e
both_or_none true false x y us rest e = e
both_or_none false true x y us rest e = e
both_or_none false false x y us rest e = e

everywhere : (places : List ℕ) (rs : List Road) → used_arcs places Everywhere rs ≡ arcs_of (map road_of rs)
everywhere places [] = refl
everywhere places (r ∷ rs) =
    let there = arc r.first r.second r.value in
    let back = arc r.second r.first r.value in
    elim (is_open r.mark) as (λ t.
    cond (t && true) (there ∷ back ∷ used_arcs places Everywhere rs) (used_arcs places Everywhere rs)
    ≡ cond t (there ∷ back ∷ arcs_of (map road_of rs)) (arcs_of (map road_of rs))) [
      | true ↦ ap (λ l. there ∷ back ∷ l) (everywhere places rs)
      | false ↦ everywhere places rs
    ]

inside : (net : Network) (k : ℕ) (rs : List Road) → used_arcs net.places (Inside k) rs ≡ filter (runs_inside net k) (arcs_of (map road_of rs))
inside net k [] = refl
inside net k (r ∷ rs) =
    let there = arc r.first r.second r.value in
    let back = arc r.second r.first r.value in
    let a = eqb (district net r.first) k in
    let b = eqb (district net r.second) k in
    let us = used_arcs net.places (Inside k) rs in
    let rest = arcs_of (map road_of rs) in
    elim (is_open r.mark) as (λ t.
    cond (t && (a && b)) (there ∷ back ∷ us) us ≡ filter (runs_inside net k) (cond t (there ∷ back ∷ rest) rest)) [
      | true ↦ both_or_none a b there back us (filter (runs_inside net k) rest) (inside net k rs)
      | false ↦ inside net k rs
    ]

-- the arcs of the roads in a search's scope, once for each road, are those in its scope
used_are_in_scope :
    (net : Network) (scope : Scope) (rs : List Road) → net.roads ≡ map road_of rs → used_arcs net.places scope rs ≡ scope_arcs net scope
used_are_in_scope net Everywhere rs e = everywhere net.places rs ∙ ap arcs_of (sym e)
used_are_in_scope net (Inside k) rs e = inside net k rs ∙ ap (λ l. filter (runs_inside net k) (arcs_of l)) (sym e)

-- the two arcs of a road
abbrev there : Road → Arc
there r = arc r.first r.second r.value

abbrev back : Road → Arc
back r = arc r.second r.first r.value

-- the arc is one of a road of the list, and the search may use that road
abbrev ComesOf : List ℕ → Scope → List Road → Arc → Type 0
ComesOf places scope rs a = (r : Road) × In r rs × (is_used places scope r ≡ true) × ((a ≡ there r) ⊎ (a ≡ back r))

used_comes_of_a_road : (places : List ℕ) (scope : Scope) (a : Arc) (rs : List Road) → In a (used_arcs places scope rs) → ComesOf places scope rs a
used_comes_of_a_road places scope a [] i = absurd i
used_comes_of_a_road places scope a (r ∷ rs) i =
    let later : In a (used_arcs places scope rs) → ComesOf places scope (r ∷ rs) a =
    λ j. let q = used_comes_of_a_road places scope a rs j in (q.0, inr q.1, q.2, q.3) in
    cond_both (is_used places scope r) (there r ∷ back r ∷ used_arcs places scope rs) (used_arcs places scope rs)
    (λ l. In a l → ComesOf places scope (r ∷ rs) a)
    (λ t. ⊎_elim (λ e. (r, inl refl, t, inl e)) (⊎_elim (λ e. (r, inl refl, t, inr e)) later)) (λ t. later) i

used_road_has_arcs :
    (places : List ℕ) (scope : Scope) (r : Road) (rs : List Road) → In r rs → is_used places scope r ≡ true
    → In (there r) (used_arcs places scope rs) × In (back r) (used_arcs places scope rs)
used_road_has_arcs places scope r [] i t = absurd i
used_road_has_arcs places scope r (q ∷ rs) (inl e) t =
    rw (subst (λ x. is_used places scope x ≡ true) e t) (inl (ap there e), inr (inl (ap back e)))
used_road_has_arcs places scope r (q ∷ rs) (inr i) t =
    let h = used_road_has_arcs places scope r rs i t in
    cond_both (is_used places scope q) (there q ∷ back q ∷ used_arcs places scope rs) (used_arcs places scope rs)
    (λ l. In (there r) l × In (back r) l) (λ u. (inr (inr h.0), inr (inr h.1))) (λ u. h)

-- more roads, more arcs
used_of_more_roads :
    (places : List ℕ) (scope : Scope) (less more : List Road) → ((r : Road) → In r less → In r more)
    → (a : Arc) → In a (used_arcs places scope less) → In a (used_arcs places scope more)
used_of_more_roads places scope less more all a i =
    let q = used_comes_of_a_road places scope a less i in
    let both = used_road_has_arcs places scope q.0 more (all q.0 q.1) q.2 in
    ⊎_elim (λ e. subst (λ b. In b (used_arcs places scope more)) (sym e) both.0)
    (λ e. subst (λ b. In b (used_arcs places scope more)) (sym e) both.1) q.3

in_reverse : (r : Road) (rs : List Road) → In r (reverse rs) → In r rs
in_reverse r [] i = i
in_reverse r (q ∷ rs) i =
    ⊎_elim (λ j. inr (in_reverse r rs j)) (⊎_elim (λ e. inl e) (λ n. absurd n)) (in_append_cases r (reverse rs) (q ∷ []) (subst (In r) (reverse-append (q ∷ []) rs) i))

-- a sweep goes over the arcs in scope, and over no others
module _ (net : Network) (scope : Scope) (rs : List Road) (same : net.roads ≡ map road_of rs) where
  abbrev pub swept : List Arc
  swept = used_arcs net.places scope (there_and_back rs)

  pub swept_is_in_scope : (a : Arc) → In a swept → In a (scope_arcs net scope)
  swept_is_in_scope a i =
      subst (In a) (used_are_in_scope net scope rs same)
      (used_of_more_roads net.places scope (there_and_back rs) rs
      (λ r j. ⊎_elim (λ h. h) (λ h. in_reverse r rs h) (in_append_cases r rs (reverse rs) j)) a i)

  pub scope_is_swept : (a : Arc) → In a (scope_arcs net scope) → In a swept
  scope_is_swept a i =
      used_of_more_roads net.places scope rs (there_and_back rs) (λ r j. in_append_left r rs (reverse rs) j) a
      (subst (In a) (sym (used_are_in_scope net scope rs same)) i)

-- what is in the scope is an arc of the network
scope_is_in : (net : Network) (scope : Scope) (a : Arc) → In a (scope_arcs net scope) → In a (arcs net)
scope_is_in net Everywhere a i = i
scope_is_in net (Inside k) a i = (inner_is_in net k a i).0

module _ (s : Scale) (laws : Laws s) (offers : List ℕ) where
  -- once they are counted, the words are values, and offer the same
  counted_are_values : (i : ℕ) → get_or (map (counts s) offers) i s.none ≡ counts s (get_or offers i s.none)
  counted_are_values i =
      subst (λ d. get_or (map (counts s) offers) i d ≡ counts s (get_or offers i s.none))
      (value_counts_as_itself s laws s.none laws.none_is_a_value) (get_or-map (counts s) offers i s.none)

  counted_offer : (u : ℕ) → offer s (map (counts s) offers) u ≡ offer s offers u
  counted_offer u =
      ap (counts s) (counted_are_values (u - 1)) ∙ value_counts_as_itself s laws (offer s offers u) (offer_is_a_value s laws offers u)

  module _ (net : Network) (arcs : List Arc) (ends : Between s laws net arcs) (worths : (a : Arc) → In a arcs → Value s a.worth) where
    -- none, or what an offer comes to
    abbrev Comes : ℕ → ℕ → Type 0
    Comes v x = (x ≡ s.none) ⊎ GoneOn s net arcs offers v x

    gone_on_from_home : (v : ℕ) → Junction net v → Comes v (offer s (map (counts s) offers) v)
    gone_on_from_home v j =
        inr (v, j, ([], refl, start_changes_nothing_behind s laws (offer s offers v) (offer_is_a_value s laws offers v) ∙ sym (counted_offer v)))

    gone_on_further : (a : Arc) → In a arcs → (x : ℕ) → Value s x → Comes a.from x → Comes a.to (s.join (counts s a.worth) x)
    gone_on_further a i x vx (inl e) =
        inl (ap (s.join (counts s a.worth)) e ∙ none_stays_none_behind s laws (counts s a.worth) (count_is_a_value s laws a.worth))
    gone_on_further a i x vx (inr (u, j, (w, h, e))) =
        let o = offer s offers u in
        let vo = offer_is_a_value s laws offers u in
        let y = walk_value s w in
        let vy = walk_value_is_a_value s laws arcs worths u a.from w h in
        let va = worths a i in
        let value =
        ap (s.join o) (value_of_walks_joined s laws arcs worths u a.from a.to w (a ∷ []) h (i, refl, refl)
        ∙ ap (s.join y) (value_of_one_arc s laws arcs worths a i))
        ∙ sym (laws.join_is_associative o y a.worth vo vy va)
        ∙ ap (λ z. s.join z a.worth) e
        ∙ laws.join_is_commutative x a.worth vx va
        ∙ ap (λ z. s.join z x) (sym (value_counts_as_itself s laws a.worth va)) in
        inr (u, j, (w ++ (a ∷ []), walks_join arcs u a.from a.to w (a ∷ []) h (i, refl, refl), value))

    -- enough sweeps leave the best
    pub sweeps_leave_the_best :
        (all : List ℕ) → ((a : Arc) → In a arcs → In a.from all × In a.to all) → length offers ≡ net.junctions
        → (n : ℕ) → length all ≤ n → (v : ℕ) → Junction net v
        → NoneBetter s (GoneOn s net arcs offers v) (offer s (after_sweeps s arcs n (map (counts s) offers)) v)
    sweeps_leave_the_best all within size n enough v j =
        let words = map (counts s) offers in
        let there = length-map offers (counts s) ∙ size in
        let after = offer s (after_sweeps s arcs n words) v in
        let best : (y : ℕ) → GoneOn s net arcs offers v y → NoWorse s after y =
        λ y (u, k, (w, h, e)).
        let o = offer s offers u in
        let vo = offer_is_a_value s laws offers u in
        let q = few_arcs_suffice s laws arcs worths all within u v w h in
        let vq = walk_value_is_a_value s laws arcs worths u v q.0 q.1 in
        let vw = walk_value_is_a_value s laws arcs worths u v w h in
        subst (NoWorse s after) e
        (laws.order_is_transitive after (s.join o (walk_value s q.0)) (s.join o (walk_value s w))
        (offer_is_a_value s laws (after_sweeps s arcs n words) v)
        (laws.join_is_a_value o (walk_value s q.0) vo vq) (laws.join_is_a_value o (walk_value s w) vo vw)
        (subst (λ z. NoWorse s after (s.join z (walk_value s q.0))) (counted_offer u)
        (every_walk_is_taken s laws net arcs ends worths n words there u v q.0 (omega (arith, q.3)) q.1))
        (join_keeps_the_order_behind s laws (walk_value s q.0) (walk_value s w) o vq vw vo q.2)) in
        (have_after_sweeps s laws net arcs ends Comes n words there gone_on_further gone_on_from_home v j, best)

    -- and each word is what its junction then offers
    pub sweeps_leave_values :
        length offers ≡ net.junctions → (n v : ℕ) → Junction net v
        → get_or (after_sweeps s arcs n (map (counts s) offers)) (v - 1) 0 ≡ offer s (after_sweeps s arcs n (map (counts s) offers)) v
    sweeps_leave_values size n v (low, high) =
        let words = map (counts s) offers in
        let after = after_sweeps s arcs n words in
        let there = length-map offers (counts s) ∙ size in
        let long : v - 1 < length after = omega (arith, length_after_sweeps s arcs n words ∙ there) in
        let counted : (i : ℕ) → Value s (get_or words i s.none) =
        λ i. subst (Value s) (sym (counted_are_values i)) (count_is_a_value s laws (get_or offers i s.none)) in
        get_or_default after (v - 1) 0 s.none long
        ∙ sym (value_counts_as_itself s laws (get_or after (v - 1) s.none)
        (values_after_sweeps s laws net arcs ends n words there counted (v - 1)))

-- where the same arcs are walked, the same is best
same_is_best :
    (s : Scale) (net : Network) (some others : List Arc) (offers : List ℕ) (v x : ℕ)
    → ((a : Arc) → In a some → In a others) → ((a : Arc) → In a others → In a some)
    → NoneBetter s (GoneOn s net some offers v) x → NoneBetter s (GoneOn s net others offers v) x
same_is_best s net some others offers v x all back (left, best) = (
  ⊎_elim (λ e. inl e) (λ (u, j, (w, h, e)). inr (u, j, (w, walk_of_more_arcs some others all u v w h, e))) left,
  λ y (u, j, (w, h, e)). best y (u, j, (w, walk_of_more_arcs others some back u v w h, e)),
)

-- as many sweeps as there are words leave the best
enough_sweeps_leave_the_best :
    (s : Scale) → Laws s → (d : Rest) (junctions : List JunctionEntry) (roads : List Road) (scope : Scope) (offers : List ℕ)
    → LeavesTheBest s d junctions roads scope offers
    (after_sweeps s (used_arcs (places_in (take d.junctions junctions)) scope (there_and_back (take d.roads roads)))
    (length (map (counts s) offers)) (map (counts s) offers))
enough_sweeps_leave_the_best s laws d junctions roads scope offers ok v j =
    let net = network_of d junctions roads in
    let rs = take d.roads roads in
    let arcs_in = swept net scope rs refl in
    let within : (a : Arc) → In a arcs_in → In a (arcs net) = λ a i. scope_is_in net scope a (swept_is_in_scope net scope rs refl a i) in
    let ends : Between s laws net arcs_in = λ a i. arc_ends_are_junctions s net ok.sound a (within a i) in
    let worths : (a : Arc) → In a arcs_in → Value s a.worth = λ a i. arc_worths_are_values s laws net ok.sound a (within a i) in
    let all = count_up 1 net.junctions in
    let size = ok.a_word_for_each_junction in
    let n = length (map (counts s) offers) in
    let enough : length all ≤ n = omega (arith, length_count_up 1 net.junctions, length-map offers (counts s), size) in
    same_is_best s net arcs_in (scope_arcs net scope) offers v _ (swept_is_in_scope net scope rs refl) (scope_is_swept net scope rs refl)
    (subst (NoneBetter s (GoneOn s net arcs_in offers v)) (sym (sweeps_leave_values s laws offers net arcs_in ends worths size n v j))
    (sweeps_leave_the_best s laws offers net arcs_in ends worths all (λ a i. arc_ends_are_counted s net ok.sound a (within a i)) size n enough v j))

-- and so does what ends there, from the used parts of the tables
pub search_leaves_the_best :
    (s : Scale) → Laws s → (d : Rest) (junctions : List JunctionEntry) (roads : List Road) (scope : Scope) (offers : List ℕ)
    → (js : List JunctionEntry) (rs : List Road) (words after : List ℕ)
    → js ≡ take d.junctions junctions → rs ≡ take d.roads roads → words ≡ map (counts s) offers
    → after ≡ after_sweeps s (used_arcs (places_in js) scope (there_and_back rs)) (length words) words
    → LeavesTheBest s d junctions roads scope offers after
search_leaves_the_best s laws d junctions roads scope offers js rs words after j r w e =
    let arcs_alike = ap₂ (λ (x : List JunctionEntry) (y : List Road). used_arcs (places_in x) scope (there_and_back y)) j r in
    let words_alike = ap₂ (λ (x : List Arc) (l : List ℕ). after_sweeps s x (length l) l) arcs_alike w in
    subst (LeavesTheBest s d junctions roads scope offers) (sym (e ∙ words_alike))
    (enough_sweeps_leave_the_best s laws d junctions roads scope offers)
