-- Best between two junctions of a district is the best over walks inside it that begin at one of them, or at a border with
-- the best value from it. Assumes nothing.
use Rattle.std.proofs.Common.{◌≡◌, ℕ, true, ◌⊎◌, List, [], ◌∷◌, sym, refl, ap, ◌∙◌, subst, inl, inr, ⊎_elim}
use Rattle.std.proofs.lemmas.Bool.{cases_eq}
use Rattle.measure.specs.Scale.{Scale, Value, Laws, NoWorse}
use Rattle.network.specs.Lists.{In}
use Rattle.network.specs.Walks.{Arc, Walk, walk_value, Walked}
use Rattle.network.specs.Networks.{Network, Sound, district, arcs, best, is_border}
use Rattle.network.specs.Rows.{inner_arcs}
use Rattle.network.specs.Theorems.{NoWalk, Offered, OffersGiveBest}
use Rattle.network.proofs.Distance.{Distance, WalkDistance}
use Rattle.network.proofs.Walks.{walk_of_more_arcs, walk_value_is_a_value, value_of_walks_joined, walked_by_way}
use Rattle.network.proofs.AllWalks.{walked_is_no_better}
use Rattle.network.proofs.NetworkArcs.{arc_worths_are_values}
use Rattle.network.proofs.DistrictArcs.{crossing_enters_a_border, inner_is_in, in_is_inner}
use Rattle.network.proofs.Crossing.{Cut, cut_later}

-- b is a border of district k
abbrev BorderHere : Network → ℕ → ℕ → Type 0
BorderHere net k b = (is_border net b ≡ true) × (district net b ≡ k)

-- a walk to v begins in its district and stays inside, or is cut where it last enters the district, at a border
last_entry :
    (net : Network) (k x v : ℕ) (w : List Arc) → district net v ≡ k → Walk (arcs net) x v w
    → ((district net x ≡ k) × Walk (inner_arcs net k) x v w) ⊎ Cut net (BorderHere net k) (inner_arcs net k) x v w
last_entry net k x v [] here e = inl (ap (district net) e ∙ here, e)
last_entry net k x v (a ∷ w) here (i, e, h) =
    ⊎_elim
    (λ r. ⊎_elim
    (λ within. inl (within, (in_is_inner net k a i (ap (district net) e ∙ within) r.0, e, r.1)))
    (λ out. inr (record {
      at = a.to;
      fits = (crossing_enters_a_border net a i (λ same. out (ap (district net) (sym e) ∙ same ∙ r.0)), r.0);
      before = a ∷ [];
      after = w;
      walk_before = (i, e, refl);
      walk_after = r.1;
      is_cut = refl;
    }))
    (cases_eq (district net x) k))
    (λ c. inr (cut_later net (BorderHere net k) (inner_arcs net k) x v a w i e c))
    (last_entry net k a.to v w here h)

module _ (s : Scale) (laws : Laws s) (net : Network) (sound : Sound s net)
    (dist : Distance s (best s net)) (walks : WalkDistance s (arcs net) (best s net))
    (no_walk : (u v : ℕ) → best s net u v ≡ s.none → NoWalk net u v) where
  worths : (a : Arc) → In a (arcs net) → Value s a.worth
  worths = arc_worths_are_values s laws net sound

  value : (x y : ℕ) (w : List Arc) → Walk (arcs net) x y w → Value s (walk_value s w)
  value = walk_value_is_a_value s laws (arcs net) worths

  inner_walk_is_a_walk : (k x y : ℕ) (w : List Arc) → Walk (inner_arcs net k) x y w → Walk (arcs net) x y w
  inner_walk_is_a_walk k = walk_of_more_arcs (inner_arcs net k) (arcs net) (λ a i. (inner_is_in net k a i).0)

  -- what is offered is the value of a walk
  offered_is_walked : (k u v y : ℕ) → Offered s net k u v y → Walked s (arcs net) u v y
  offered_is_walked k u v y (b, x, begins, (w, inner, e)) =
      let h : Walk (arcs net) b v w = inner_walk_is_a_walk k b v w inner in
      let walked : Walked s (arcs net) u b x =
      ⊎_elim (λ home. ([], sym home.0, sym home.1))
      (λ border. subst (Walked s (arcs net) u b) (sym border.2)
      (⊎_elim (λ none. absurd (border.3 (border.2 ∙ none))) (λ t. t) (walks.reached u b))) begins in
      subst (Walked s (arcs net) u v) e (walked_by_way s laws (arcs net) worths u b v x (walk_value s w) walked (w, h, refl))

  offered_is_no_better : (k u v y : ℕ) → Offered s net k u v y → NoWorse s (best s net u v) y
  offered_is_no_better k u v y o = walked_is_no_better s (arcs net) (best s net) walks u v y (offered_is_walked k u v y o)

  -- the best value is offered, if there is a walk
  best_is_offered : (k u v : ℕ) → district net v ≡ k → Walked s (arcs net) u v (best s net u v) → Offered s net k u v (best s net u v)
  best_is_offered k u v here (w, h, e) =
      ⊎_elim
      (λ r. (u, s.start, inl (refl, refl), (w, r.1, laws.start_changes_nothing (walk_value s w) (value u v w h) ∙ e)))
      (λ cut.
      let b = cut.at in
      let p = cut.before in
      let q = cut.after in
      let hp = cut.walk_before in
      let hq = inner_walk_is_a_walk k b v q cut.walk_after in
      let vq = value b v q hq in
      let x = best s net u b in
      let vx = dist.is_a_value u b in
      let y = s.join x (walk_value s q) in
      let offered : Offered s net k u v y =
      (b, x, inr (cut.fits.0, cut.fits.1, refl, λ none. no_walk u b none p hp), (q, cut.walk_after, refl)) in
      let parts : s.join (walk_value s p) (walk_value s q) ≡ best s net u v =
      sym (value_of_walks_joined s laws (arcs net) worths u b v p q hp hq) ∙ ap (walk_value s) (sym cut.is_cut) ∙ e in
      let as_good : NoWorse s y (best s net u v) =
      subst (NoWorse s y) parts
      (laws.join_keeps_the_order x (walk_value s p) (walk_value s q) vx (value u b p hp) vq (walks.no_walk_is_better u b p hp)) in
      subst (Offered s net k u v)
      (laws.no_worse_both_ways_is_equal y (best s net u v) (laws.join_is_a_value x (walk_value s q) vx vq) (dist.is_a_value u v)
      as_good (offered_is_no_better k u v y offered))
      offered)
      (last_entry net k u v w here h)

  pub offers_give_best_lem : OffersGiveBest s net
  offers_give_best_lem k u v u_junction v_junction u_is_here v_is_here =
      ⊎_elim
      (λ e. inr (λ y o. let t = offered_is_walked k u v y o in no_walk u v e t.0 t.1, e))
      (λ t. inl (best_is_offered k u v v_is_here t, offered_is_no_better k u v))
      (walks.reached u v)
