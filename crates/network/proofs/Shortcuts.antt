-- Which arcs are the shortcuts of a district, and what the arcs of a district's network are. Assumes nothing.
use Rattle.std.proofs.Common.{◌≡◌, ℕ, true, cond, eqb, List, [], ◌∷◌, sym, refl, ap, ◌∙◌, subst, inl, inr, ⊎_elim}
use Rattle.std.proofs.lemmas.Bool.{cond_both, eqb-false, ne_eqb}
use Rattle.measure.specs.Scale.{Scale, Value, Laws}
use Rattle.network.specs.Lists.{In, count_up}
use Rattle.network.specs.Walks.{Arc, arc}
use Rattle.network.specs.Networks.{Network, Sound, district, best, is_border}
use Rattle.network.specs.Rows.{borders_of, shortcuts_from, shortcuts_among, shortcuts, inner_arcs, district_arcs}
use Rattle.network.proofs.Distance.{Distance}
use Rattle.network.proofs.Lists.{in_append_left, in_append_right, in_append_cases}
use Rattle.network.proofs.Walks.{turned}
use Rattle.network.proofs.NetworkArcs.{arcs_turn, junction_is_counted, arc_ends_are_counted, arc_worths_are_values}
use Rattle.network.proofs.DistrictArcs.{inner_is_in, in_is_inner, border_is_a_junction, border_is_listed, listed_is_border}

-- a shortcut leads from b to c: they are two, and one reaches the other
abbrev pub Joins : Scale → Network → ℕ → ℕ → Type 0
Joins s net b c = (b ≡ c → ⊥) × (best s net b c ≡ s.none → ⊥)

-- the shortcut from b to c
abbrev pub shortcut : Scale → Network → ℕ → ℕ → Arc
shortcut s net b c = arc b c (best s net b c)

module _ (s : Scale) (net : Network) where
  from_is_one : (b : ℕ) (cs : List ℕ) (a : Arc) → In a (shortcuts_from s net b cs)
      → (c : ℕ) × In c cs × Joins s net b c × (a ≡ shortcut s net b c)
  from_is_one b [] a h = absurd h
  from_is_one b (c ∷ cs) a h =
      let Found : Type 0 = (x : ℕ) × In x (c ∷ cs) × Joins s net b x × (a ≡ shortcut s net b x) in
      let later : In a (shortcuts_from s net b cs) → Found = λ k. let r = from_is_one b cs a k in (r.0, inr r.1, r.2, r.3) in
      cond_both (eqb b c) (shortcuts_from s net b cs)
      (cond (eqb (best s net b c) s.none) (shortcuts_from s net b cs) (shortcut s net b c ∷ shortcuts_from s net b cs))
      (λ l. In a l → Found) (λ _. later)
      (λ differ. cond_both (eqb (best s net b c) s.none) (shortcuts_from s net b cs) (shortcut s net b c ∷ shortcuts_from s net b cs)
      (λ l. In a l → Found) (λ _. later)
      (λ reached. ⊎_elim (λ e. (c, inl refl, (eqb-false b c differ, eqb-false (best s net b c) s.none reached), e)) later))
      h

  one_is_from : (b c : ℕ) (cs : List ℕ) → In c cs → Joins s net b c → In (shortcut s net b c) (shortcuts_from s net b cs)
  one_is_from b c [] h joins = absurd h
  one_is_from b c (d ∷ cs) (inl e) joins =
      let joined : Joins s net b d = subst (Joins s net b) e joins in
      rw (ne_eqb b d joined.0, ne_eqb (best s net b d) s.none joined.1) (inl (ap (shortcut s net b) e))
  one_is_from b c (d ∷ cs) (inr h) joins =
      cond_both (eqb b d) (shortcuts_from s net b cs)
      (cond (eqb (best s net b d) s.none) (shortcuts_from s net b cs) (shortcut s net b d ∷ shortcuts_from s net b cs))
      (In (shortcut s net b c)) (λ _. one_is_from b c cs h joins)
      (λ _. cond_both (eqb (best s net b d) s.none) (shortcuts_from s net b cs) (shortcut s net b d ∷ shortcuts_from s net b cs)
      (In (shortcut s net b c)) (λ _. one_is_from b c cs h joins) (λ _. inr (one_is_from b c cs h joins)))

  among_is_one : (bs cs : List ℕ) (a : Arc) → In a (shortcuts_among s net bs cs)
      → (b : ℕ) × (c : ℕ) × In b bs × In c cs × Joins s net b c × (a ≡ shortcut s net b c)
  among_is_one [] cs a h = absurd h
  among_is_one (b ∷ bs) cs a h =
      ⊎_elim (λ k. let r = from_is_one b cs a k in (b, r.0, inl refl, r.1, r.2, r.3))
      (λ k. let r = among_is_one bs cs a k in (r.0, r.1, inr r.2, r.3, r.4, r.5))
      (in_append_cases a (shortcuts_from s net b cs) (shortcuts_among s net bs cs) h)

  one_is_among : (b c : ℕ) (bs cs : List ℕ) → In b bs → In c cs → Joins s net b c → In (shortcut s net b c) (shortcuts_among s net bs cs)
  one_is_among b c [] cs h k joins = absurd h
  one_is_among b c (d ∷ bs) cs (inl e) k joins =
      in_append_left (shortcut s net b c) (shortcuts_from s net d cs) (shortcuts_among s net bs cs)
      (subst (λ x. In (shortcut s net b c) (shortcuts_from s net x cs)) e (one_is_from b c cs k joins))
  one_is_among b c (d ∷ bs) cs (inr h) k joins =
      in_append_right (shortcut s net b c) (shortcuts_from s net d cs) (shortcuts_among s net bs cs) (one_is_among b c bs cs h k joins)

-- what makes a shortcut of district k from b to c
pub record IsShortcut (s : Scale) (net : Network) (k b c : ℕ) : Type 0 where
  pub from_is_a_border : is_border net b ≡ true
  pub from_is_here : district net b ≡ k
  pub to_is_a_border : is_border net c ≡ true
  pub to_is_here : district net c ≡ k
  pub ends_differ : b ≡ c → ⊥
  pub is_reached : best s net b c ≡ s.none → ⊥

module _ (s : Scale) (net : Network) (k : ℕ) where
  -- what holds of each arc inside a district, and of each of its shortcuts, holds of each arc of its network
  pub each_district_arc :
      (P : Arc → Type 0) → ((a : Arc) → In a (inner_arcs net k) → P a) → ((b c : ℕ) → IsShortcut s net k b c → P (shortcut s net b c))
      → (a : Arc) → In a (district_arcs s net k) → P a
  each_district_arc P inner short a h =
      let by_shortcut : In a (shortcuts s net k) → P a =
      λ i.
      let r = among_is_one s net (borders_of net k) (borders_of net k) a i in
      let from = listed_is_border net k r.0 r.2 in
      let to = listed_is_border net k r.1 r.3 in
      subst P (sym r.5) (short r.0 r.1 (record {
        from_is_a_border = from.0;
        from_is_here = from.1;
        to_is_a_border = to.0;
        to_is_here = to.1;
        ends_differ = r.4.0;
        is_reached = r.4.1;
      })) in
      ⊎_elim (inner a) by_shortcut (in_append_cases a (inner_arcs net k) (shortcuts s net k) h)

  pub inner_is_in_district : (a : Arc) → In a (inner_arcs net k) → In a (district_arcs s net k)
  inner_is_in_district a = in_append_left a (inner_arcs net k) (shortcuts s net k)

module _ (s : Scale) (net : Network) (sound : Sound s net) (k : ℕ) where
  pub shortcut_is_in_district : (b c : ℕ) → IsShortcut s net k b c → In (shortcut s net b c) (district_arcs s net k)
  shortcut_is_in_district b c is =
      in_append_right (shortcut s net b c) (inner_arcs net k) (shortcuts s net k)
      (one_is_among s net b c (borders_of net k) (borders_of net k)
      (border_is_listed s net sound k b is.from_is_a_border is.from_is_here)
      (border_is_listed s net sound k c is.to_is_a_border is.to_is_here) (is.ends_differ, is.is_reached))

  -- both ends of a district's arc are counted as junctions
  pub district_arc_ends :
      (a : Arc) → In a (district_arcs s net k) → In a.from (count_up 1 net.junctions) × In a.to (count_up 1 net.junctions)
  district_arc_ends =
      each_district_arc s net k (λ a. In a.from (count_up 1 net.junctions) × In a.to (count_up 1 net.junctions))
      (λ a i. arc_ends_are_counted s net sound a (inner_is_in net k a i).0)
      (λ b c is. (
        junction_is_counted net b (border_is_a_junction s net sound b is.from_is_a_border),
        junction_is_counted net c (border_is_a_junction s net sound c is.to_is_a_border),
      ))

  module _ (dist : Distance s (best s net)) where
    pub district_arc_has_a_value : Laws s → (a : Arc) → In a (district_arcs s net k) → Value s a.worth
    district_arc_has_a_value laws =
        each_district_arc s net k (λ a. Value s a.worth) (λ a i. arc_worths_are_values s laws net sound a (inner_is_in net k a i).0)
        (λ b c is. dist.is_a_value b c)

    -- the arcs of a district's network run both ways
    pub district_arcs_run_both_ways : (a : Arc) → In a (district_arcs s net k) → In (turned a) (district_arcs s net k)
    district_arcs_run_both_ways =
        each_district_arc s net k (λ a. In (turned a) (district_arcs s net k))
        (λ a i.
        let r = inner_is_in net k a i in
        inner_is_in_district s net k (turned a) (in_is_inner net k (turned a) (arcs_turn net a r.0) r.2 r.1))
        (λ b c is.
        subst (λ x. In (arc c b x) (district_arcs s net k)) (dist.both_ways c b)
        (shortcut_is_in_district c b (record {
          from_is_a_border = is.to_is_a_border;
          from_is_here = is.to_is_here;
          to_is_a_border = is.from_is_a_border;
          to_is_here = is.from_is_here;
          ends_differ = λ e. is.ends_differ (sym e);
          is_reached = λ e. is.is_reached (dist.both_ways b c ∙ e);
        })))
