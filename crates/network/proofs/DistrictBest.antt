-- Best in a district's network is best in the whole network. Assumes nothing.
use Rattle.std.proofs.Common.{◌≡◌, ℕ, true, List, [], ◌∷◌, ◌++◌, sym, refl, ap, ◌∙◌, subst, inl, inr, ⊎_elim}
use Rattle.std.proofs.lemmas.Bool.{cases_eq}
use Rattle.measure.specs.Scale.{Scale, Value, Laws, NoWorse}
use Rattle.network.specs.Lists.{In}
use Rattle.network.specs.Walks.{Arc, Walk, walk_value, Walked, Best}
use Rattle.network.specs.Networks.{Network, Sound, district, arcs, best, is_border}
use Rattle.network.specs.Rows.{district_arcs, district_best}
use Rattle.network.specs.Theorems.{NoWalk}
use Rattle.network.proofs.Distance.{Distance, WalkDistance}
use Rattle.network.proofs.Order.{no_worse_than_itself, join_keeps_the_order_behind, join_keeps_the_order_twice, joining_is_never_better}
use Rattle.network.proofs.Walks.{Reached, walks_join, walk_value_is_a_value, value_of_walks_joined, value_of_one_arc, walked_by_way}
use Rattle.network.proofs.AllWalks.{walked_is_no_better, reached_is_no_better}
use Rattle.network.proofs.NetworkArcs.{arc_worths_are_values}
use Rattle.network.proofs.DistrictArcs.{crossing_leaves_a_border, crossing_enters_a_border, inner_is_in, in_is_inner}
use Rattle.network.proofs.Shortcuts.{shortcut, each_district_arc, inner_is_in_district, shortcut_is_in_district, district_arc_has_a_value}

-- a walk in the network of district k from x to v whose value is no worse than y
abbrev pub AsGood : Scale → Network → ℕ → ℕ → ℕ → ℕ → Type 0
AsGood s net k v x y = (w : List Arc) × Walk (district_arcs s net k) x v w × NoWorse s (walk_value s w) y

-- a walk w that begins in the district: the district has one as good
abbrev Inside : Scale → Network → ℕ → ℕ → List Arc → Type 0
Inside s net k v w = (x : ℕ) → district net x ≡ k → Walk (arcs net) x v w → AsGood s net k v x (walk_value s w)

-- a walk w that begins outside, after a walk p from a border b of the district: the district has one as good as both
abbrev Outside : Scale → Network → ℕ → ℕ → List Arc → Type 0
Outside s net k v w =
    (b x : ℕ) (p : List Arc) → is_border net b ≡ true → district net b ≡ k → (district net x ≡ k → ⊥)
    → Walk (arcs net) b x p → Walk (arcs net) x v w → AsGood s net k v b (s.join (walk_value s p) (walk_value s w))

module _ (s : Scale) (laws : Laws s) (net : Network) (sound : Sound s net)
    (dist : Distance s (best s net)) (walks : WalkDistance s (arcs net) (best s net))
    (no_walk : (u v : ℕ) → best s net u v ≡ s.none → NoWalk net u v)
    (k : ℕ) where
  worths : (a : Arc) → In a (arcs net) → Value s a.worth
  worths = arc_worths_are_values s laws net sound

  net_valued : (x y : ℕ) (w : List Arc) → Walk (arcs net) x y w → Value s (walk_value s w)
  net_valued = walk_value_is_a_value s laws (arcs net) worths

  valued : (x y : ℕ) (w : List Arc) → Walk (district_arcs s net k) x y w → Value s (walk_value s w)
  valued = walk_value_is_a_value s laws (district_arcs s net k) (district_arc_has_a_value s net sound k dist laws)

  module _ (v : ℕ) (v_is_here : district net v ≡ k) where
    inside_step : (a : Arc) (w : List Arc) → Inside s net k v w → Outside s net k v w → Inside s net k v (a ∷ w)
    inside_step a w inside outside x here (i, e, h) =
        let from_here : district net a.from ≡ k = ap (district net) e ∙ here in
        ⊎_elim
        (λ stays.
        let r = inside a.to stays h in (
          a ∷ r.0,
          (inner_is_in_district s net k a (in_is_inner net k a i from_here stays), e, r.1),
          join_keeps_the_order_behind s laws (walk_value s r.0) (walk_value s w) a.worth
              (valued a.to v r.0 r.1) (net_valued a.to v w h) (worths a i) r.2,
        ))
        (λ leaves.
        subst (λ y. AsGood s net k v x (s.join y (walk_value s w)))
        (value_of_one_arc s laws (arcs net) worths a i)
        (outside x a.to (a ∷ [])
        (subst (λ y. is_border net y ≡ true) e (crossing_leaves_a_border net a i (λ same. leaves (sym same ∙ from_here))))
        here leaves (i, e, refl) h))
        (cases_eq (district net a.to) k)

    -- back in the district at c, after a walk p from its border b
    enter : (b c : ℕ) (p w : List Arc) → is_border net b ≡ true → district net b ≡ k → is_border net c ≡ true → district net c ≡ k
        → Walk (arcs net) b c p → Walk (arcs net) c v w → AsGood s net k v c (walk_value s w)
        → AsGood s net k v b (s.join (walk_value s p) (walk_value s w))
    enter b c p w b_border b_here c_border c_here before h r =
        let vp = net_valued b c p before in
        let vw = net_valued c v w h in
        let vr = valued c v r.0 r.1 in
        ⊎_elim
        (λ same. (
          r.0,
          subst (λ x. Walk (district_arcs s net k) x v r.0) (sym same) r.1,
          laws.order_is_transitive (walk_value s r.0) (walk_value s w) (s.join (walk_value s p) (walk_value s w))
              vr vw (laws.join_is_a_value (walk_value s p) (walk_value s w) vp vw)
              r.2 (joining_is_never_better s laws (walk_value s p) (walk_value s w) vp vw),
        ))
        (λ differ. (
          shortcut s net b c ∷ r.0,
          (
            shortcut_is_in_district s net sound k b c (record {
              from_is_a_border = b_border;
              from_is_here = b_here;
              to_is_a_border = c_border;
              to_is_here = c_here;
              ends_differ = differ;
              is_reached = λ e. no_walk b c e p before;
            }),
            refl,
            r.1,
          ),
          join_keeps_the_order_twice s laws (best s net b c) (walk_value s p) (walk_value s r.0) (walk_value s w)
              (dist.is_a_value b c) vp vr vw (walks.no_walk_is_better b c p before) r.2,
        ))
        (cases_eq b c)

    outside_step : (a : Arc) (w : List Arc) → Inside s net k v w → Outside s net k v w → Outside s net k v (a ∷ w)
    outside_step a w inside outside b x p b_border b_here out before (i, e, h) =
        let from_out : district net a.from ≡ k → ⊥ = λ f. out (ap (district net) (sym e) ∙ f) in
        let longer : Walk (arcs net) b a.to (p ++ a ∷ []) = walks_join (arcs net) b x a.to p (a ∷ []) before (i, e, refl) in
        let value : walk_value s (p ++ a ∷ []) ≡ s.join (walk_value s p) a.worth =
        value_of_walks_joined s laws (arcs net) worths b x a.to p (a ∷ []) before (i, e, refl)
        ∙ ap (s.join (walk_value s p)) (value_of_one_arc s laws (arcs net) worths a i) in
        subst (AsGood s net k v b)
        (ap (λ y. s.join y (walk_value s w)) value
        ∙ laws.join_is_associative (walk_value s p) a.worth (walk_value s w)
        (net_valued b x p before) (worths a i) (net_valued a.to v w h))
        (⊎_elim
        (λ enters. enter b a.to (p ++ a ∷ []) w b_border b_here
        (crossing_enters_a_border net a i (λ same. from_out (same ∙ enters))) enters longer h (inside a.to enters h))
        (λ still_out. outside b a.to (p ++ a ∷ []) b_border b_here still_out longer h)
        (cases_eq (district net a.to) k))

    follow : (w : List Arc) → Inside s net k v w × Outside s net k v w
    follow [] = (
      λ x here e. ([], e, no_worse_than_itself s laws s.start laws.start_is_a_value),
      λ b x p b_border b_here out before e. absurd (out (ap (district net) e ∙ v_is_here)),
    )
    follow (a ∷ w) = let r = follow w in (inside_step a w r.0 r.1, outside_step a w r.0 r.1)

    -- for each walk between two junctions of the district, the district's network has one as good
    pub district_has_as_good : (u : ℕ) (w : List Arc) → district net u ≡ k → Walk (arcs net) u v w → AsGood s net k v u (walk_value s w)
    district_has_as_good u w here h = (follow w).0 u here h

  -- an arc of the district's network stands for a walk of the network
  district_arc_is_walked : (a : Arc) → In a (district_arcs s net k) → Walked s (arcs net) a.from a.to a.worth
  district_arc_is_walked =
      each_district_arc s net k (λ a. Walked s (arcs net) a.from a.to a.worth)
      (λ a i.
      let in_net = (inner_is_in net k a i).0 in
      (a ∷ [], (in_net, refl, refl), value_of_one_arc s laws (arcs net) worths a in_net))
      (λ b c is. ⊎_elim (λ e. absurd (is.is_reached e)) (λ t. t) (walks.reached b c))

  -- a walk of the district's network has the value of a walk of the network
  pub district_walk_is_walked : (x y : ℕ) (w : List Arc) → Walk (district_arcs s net k) x y w → Walked s (arcs net) x y (walk_value s w)
  district_walk_is_walked x y [] e = ([], e, refl)
  district_walk_is_walked x y (a ∷ w) (i, e, h) =
      walked_by_way s laws (arcs net) worths x a.to y a.worth (walk_value s w)
      (subst (λ z. Walked s (arcs net) z a.to a.worth) e (district_arc_is_walked a i)) (district_walk_is_walked a.to y w h)

  -- so what is walked in the district's network is walked in the network
  walked_in_the_network : (x y z : ℕ) → Walked s (district_arcs s net k) x y z → Walked s (arcs net) x y z
  walked_in_the_network x y z (w, h, e) = subst (Walked s (arcs net) x y) e (district_walk_is_walked x y w h)

  module _ (u v : ℕ) (u_is_here : district net u ≡ k) (v_is_here : district net v ≡ k) where
    best_is_no_worse : (y : ℕ) → Walked s (district_arcs s net k) u v y → NoWorse s (best s net u v) y
    best_is_no_worse y t = walked_is_no_better s (arcs net) (best s net) walks u v y (walked_in_the_network u v y t)

    -- best is none, or a walk of the district's network has it
    best_is_reached : Reached s (district_arcs s net k) u v (best s net u v)
    best_is_reached =
        ⊎_elim inl
        (λ t.
        let r = district_has_as_good v v_is_here u t.0 u_is_here t.1 in
        inr (
          r.0,
          r.1,
          laws.no_worse_both_ways_is_equal (walk_value s r.0) (best s net u v)
              (valued u v r.0 r.1) (dist.is_a_value u v)
              (subst (NoWorse s (walk_value s r.0)) t.2 r.2) (best_is_no_worse (walk_value s r.0) (r.0, r.1, refl)),
        ))
        (walks.reached u v)

    pub best_is_best_in_the_district : Best s (district_arcs s net k) u v (best s net u v)
    best_is_best_in_the_district =
        ⊎_elim
        (λ e. inr (λ y t. let r = walked_in_the_network u v y t in no_walk u v e r.0 r.1, e))
        (λ t. inl (t, best_is_no_worse))
        best_is_reached

    pub district_best_is_the_best :
        ((x y : ℕ) → Value s (district_best s net k x y)) → WalkDistance s (district_arcs s net k) (district_best s net k)
        → district_best s net k u v ≡ best s net u v
    district_best_is_the_best values district_walks =
        laws.no_worse_both_ways_is_equal (district_best s net k u v) (best s net u v) (values u v) (dist.is_a_value u v)
        (reached_is_no_better s (district_arcs s net k) (district_best s net k) district_walks laws values u v (best s net u v) best_is_reached)
        (reached_is_no_better s (arcs net) (best s net) walks laws dist.is_a_value u v (district_best s net k u v)
        (⊎_elim inl (λ t. inr (walked_in_the_network u v (district_best s net k u v) t)) (district_walks.reached u v)))
