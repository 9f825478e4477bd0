-- Arcs that cross into another district, arcs inside a district, borders and junctions of a district: which they are.
-- Assumes nothing.
use Rattle.std.proofs.Common.{◌≡◌, ℕ, ◌<◌, true, false, ◌&&◌, ◌||◌, eqb, ◌⊎◌, List, [], ◌∷◌, length, get_or, refl, subst, inl, inr, ⊎_elim}
use Rattle.std.proofs.lemmas.Bool.{and_parts, and_from, or_cases, or_left, or_right, eq-eqb, eqb-true, ne_eqb, not_from_false, both_ways}
use Rattle.std.proofs.ByRecursion.{All-get_or, kept_by_passes}
use Rattle.measure.specs.Scale.{Scale}
use Rattle.network.specs.Lists.{In, count_up}
use Rattle.network.specs.Walks.{Arc}
use Rattle.network.specs.Networks.{Network, Junction, Sound, district, arcs, crosses, at_a_crossing, is_border, borders, BorderOrder}
use Rattle.network.specs.Rows.{runs_inside, inner_arcs, borders_of, members}
use Rattle.network.proofs.Lists.{in_kept_by, kept_by_in, distinct_kept_by, distinct_count_up}
use Rattle.network.proofs.NetworkArcs.{junction_is_counted, counted_is_a_junction, arc_ends_are_junctions}

-- an end of an arc that crosses is at a crossing
ends_are_at_a_crossing : (net : Network) (rest : List Arc) (a : Arc) (v : ℕ) → In a rest → crosses net a ≡ true
    → (a.from ≡ v) ⊎ (a.to ≡ v) → at_a_crossing net rest v ≡ true
ends_are_at_a_crossing net [] a v h t end = absurd h
ends_are_at_a_crossing net (b ∷ rest) a v (inl e) t end =
    or_left (crosses net b && (eqb b.from v || eqb b.to v)) (at_a_crossing net rest v)
    (and_from (crosses net b) (eqb b.from v || eqb b.to v) (subst (λ x. crosses net x ≡ true) e t)
    (subst (λ x. (eqb x.from v || eqb x.to v) ≡ true) e
    (⊎_elim (λ f. or_left (eqb a.from v) (eqb a.to v) (eq-eqb a.from v f))
    (λ f. or_right (eqb a.from v) (eqb a.to v) (eq-eqb a.to v f)) end)))
ends_are_at_a_crossing net (b ∷ rest) a v (inr h) t end =
    or_right (crosses net b && (eqb b.from v || eqb b.to v)) (at_a_crossing net rest v) (ends_are_at_a_crossing net rest a v h t end)

-- what is at a crossing is an end of an arc that crosses
crossing_has_an_end : (net : Network) (rest : List Arc) (v : ℕ) → at_a_crossing net rest v ≡ true
    → (a : Arc) × In a rest × (crosses net a ≡ true) × ((a.from ≡ v) ⊎ (a.to ≡ v))
crossing_has_an_end net [] v t = absurd (both_ways false refl t)
crossing_has_an_end net (b ∷ rest) v t =
    ⊎_elim
    (λ k. let c = and_parts (crosses net b) (eqb b.from v || eqb b.to v) k in (
      b,
      inl refl,
      c.0,
      ⊎_elim (λ f. inl (eqb-true b.from v f)) (λ f. inr (eqb-true b.to v f))
          (or_cases (eqb b.from v) (eqb b.to v) c.1),
    ))
    (λ k. let r = crossing_has_an_end net rest v k in (r.0, inr r.1, r.2, r.3))
    (or_cases (crosses net b && (eqb b.from v || eqb b.to v)) (at_a_crossing net rest v) t)

module _ (net : Network) (a : Arc) (in_net : In a (arcs net)) (differ : district net a.from ≡ district net a.to → ⊥) where
  it_crosses : crosses net a ≡ true
  it_crosses = not_from_false (eqb (district net a.from) (district net a.to)) (ne_eqb (district net a.from) (district net a.to) differ)

  pub crossing_leaves_a_border : is_border net a.from ≡ true
  crossing_leaves_a_border = ends_are_at_a_crossing net (arcs net) a a.from in_net it_crosses (inl refl)

  pub crossing_enters_a_border : is_border net a.to ≡ true
  crossing_enters_a_border = ends_are_at_a_crossing net (arcs net) a a.to in_net it_crosses (inr refl)

-- an arc inside a district is an arc of the network with both ends in the district, and conversely
pub inner_is_in : (net : Network) (k : ℕ) (a : Arc) → In a (inner_arcs net k)
    → In a (arcs net) × (district net a.from ≡ k) × (district net a.to ≡ k)
inner_is_in net k a h =
    let i = kept_by_in (runs_inside net k) a (arcs net) h in
    let both = and_parts (eqb (district net a.from) k) (eqb (district net a.to) k) i.1 in
    (i.0, eqb-true (district net a.from) k both.0, eqb-true (district net a.to) k both.1)

pub in_is_inner : (net : Network) (k : ℕ) (a : Arc) → In a (arcs net) → district net a.from ≡ k → district net a.to ≡ k
    → In a (inner_arcs net k)
in_is_inner net k a h e f =
    in_kept_by (runs_inside net k) a (arcs net)
    (and_from (eqb (district net a.from) k) (eqb (district net a.to) k) (eq-eqb (district net a.from) k e) (eq-eqb (district net a.to) k f))
    h

-- the borders of a district are what `borders_of` lists
pub listed_is_border : (net : Network) (k v : ℕ) → In v (borders_of net k) → (is_border net v ≡ true) × (district net v ≡ k)
listed_is_border net k v h =
    let i = kept_by_in (λ x. eqb (district net x) k) v (borders net) h in
    ((kept_by_in (is_border net) v (count_up 1 net.junctions) i.0).1, eqb-true (district net v) k i.1)

module _ (s : Scale) (net : Network) (sound : Sound s net) where
  pub border_is_a_junction : (v : ℕ) → is_border net v ≡ true → Junction net v
  border_is_a_junction v t =
      let r = crossing_has_an_end net (arcs net) v t in
      let ends = arc_ends_are_junctions s net sound r.0 r.1 in
      ⊎_elim (λ e. subst (Junction net) e ends.0) (λ e. subst (Junction net) e ends.1) r.3

  pub border_is_in_borders : (v : ℕ) → is_border net v ≡ true → In v (borders net)
  border_is_in_borders v t =
      in_kept_by (is_border net) v (count_up 1 net.junctions) t (junction_is_counted net v (border_is_a_junction v t))

  pub border_is_listed : (k v : ℕ) → is_border net v ≡ true → district net v ≡ k → In v (borders_of net k)
  border_is_listed k v t e =
      in_kept_by (λ x. eqb (district net x) k) v (borders net) (eq-eqb (district net v) k e) (border_is_in_borders v t)

  -- what stands in a border order is a border, and a junction
  pub border_of_order :
      (order : List ℕ) → BorderOrder net order → (i : ℕ) → i < length order
      → Junction net (get_or order i 0) × (is_border net (get_or order i 0) ≡ true)
  border_of_order order is_order i low =
      let t = All-get_or (λ v. is_border net v ≡ true) order i 0 low is_order.holds_borders_alone in
      (border_is_a_junction (get_or order i 0) t, t)

  -- the borders, ascending, are a border order
  pub borders_are_an_order_lem : BorderOrder net (borders net)
  borders_are_an_order_lem = record {
    holds_borders_alone = kept_by_passes (is_border net) (count_up 1 net.junctions);
    holds_every_border = border_is_in_borders;
    holds_none_twice =
        distinct_kept_by (is_border net) (count_up 1 net.junctions) (distinct_count_up 1 net.junctions);
  }

-- the junctions of a district are what `members` lists
pub member_is_listed : (net : Network) (k v : ℕ) → Junction net v → district net v ≡ k → In v (members net k)
member_is_listed net k v j e =
    in_kept_by (λ x. eqb (district net x) k) v (count_up 1 net.junctions) (eq-eqb (district net v) k e) (junction_is_counted net v j)

pub listed_is_member : (net : Network) (k v : ℕ) → In v (members net k) → Junction net v × (district net v ≡ k)
listed_is_member net k v h =
    let i = kept_by_in (λ x. eqb (district net x) k) v (count_up 1 net.junctions) h in
    (counted_is_a_junction net v i.0, eqb-true (district net v) k i.1)
