-- What arcs and sweeps do to words: they never get worse, take in every walk, and come from nothing else. Assumes nothing.
use Rattle.std.proofs.Common.{◌≡◌, ℕ, zero, suc, ◌-◌, ◌<◌, ◌≤◌, ◌⊎◌, List, [], ◌∷◌, length, get_or, set, sym, refl, ap, ◌∙◌, subst, inl, inr, ⊎_elim, arith}
use Rattle.std.proofs.lemmas.List.{get_or-set_same, get_or-set_other, length-set}
use Rattle.std.proofs.lemmas.Bool.{cases_eq, cond_both, cond-true}
use Rattle.measure.specs.Scale.{Scale, Value, Laws, NoWorse, counts}
use Rattle.network.specs.Lists.{In}
use Rattle.network.specs.Walks.{Arc, Walk, walk_value}
use Rattle.network.specs.Networks.{Network, Junction}
use Rattle.network.proofs.Order.{better_is_no_worse, no_worse_than_itself, start_changes_nothing_behind, join_keeps_the_order_behind}
use Rattle.network.proofs.Walks.{walk_value_is_a_value}
use Rattle.search.specs.Searching.{offer}
use Rattle.search.specs.Sweeps.{brought, after_arc, after_arcs, after_sweeps}

pub length_after_arc : (s : Scale) (values : List ℕ) (a : Arc) → length (after_arc s values a) ≡ length values
length_after_arc s values a =
    cond_both (s.better (counts s (brought s values a)) (offer s values a.to)) (set values (a.to - 1) (brought s values a)) values
    (λ l. length l ≡ length values) (λ t. length-set values (a.to - 1) (brought s values a)) (λ t. refl)

pub length_after_arcs : (s : Scale) (values : List ℕ) (arcs : List Arc) → length (after_arcs s values arcs) ≡ length values
length_after_arcs s values [] = refl
length_after_arcs s values (a ∷ arcs) = length_after_arcs s (after_arc s values a) arcs ∙ length_after_arc s values a

pub length_after_sweeps :
    (s : Scale) (arcs : List Arc) (n : ℕ) (values : List ℕ) → length (after_sweeps s arcs n values) ≡ length values
length_after_sweeps s arcs zero values = refl
length_after_sweeps s arcs (suc n) values =
    length_after_sweeps s arcs n (after_arcs s values arcs) ∙ length_after_arcs s values arcs

module _ (s : Scale) (laws : Laws s) where
  pub count_is_a_value : (w : ℕ) → Value s (counts s w)
  count_is_a_value w = cond_both (s.value w) w s.none (Value s) (λ t. t) (λ t. laws.none_is_a_value)

  pub value_counts_as_itself : (w : ℕ) → Value s w → counts s w ≡ w
  value_counts_as_itself w v = cond-true (s.value w) w s.none v

  pub offer_is_a_value : (values : List ℕ) (u : ℕ) → Value s (offer s values u)
  offer_is_a_value values u = count_is_a_value (get_or values (u - 1) s.none)

  pub brought_is_a_value : (values : List ℕ) (a : Arc) → Value s (brought s values a)
  brought_is_a_value values a =
      laws.join_is_a_value (counts s a.worth) (offer s values a.from) (count_is_a_value a.worth) (offer_is_a_value values a.from)

  -- what a junction offers once a word is written: that, where it is the junction's
  written_here :
      (values : List ℕ) (i v y : ℕ) → v - 1 ≡ i → i < length values → Value s y → offer s (set values i y) v ≡ y
  written_here values i v y e h t =
      ap (counts s) (ap (λ j. get_or (set values i y) j s.none) e ∙ get_or-set_same values i y s.none h)
      ∙ value_counts_as_itself y t

  written_elsewhere : (values : List ℕ) (i v y : ℕ) → (v - 1 ≡ i → ⊥) → offer s (set values i y) v ≡ offer s values v
  written_elsewhere values i v y ne = ap (counts s) (get_or-set_other values i (v - 1) y s.none ne)

  module _ (values : List ℕ) (a : Arc) (there : a.to - 1 < length values) where
    -- what holds where the arc's gift is written, and where it is no better, holds after the arc
    either_way :
        (P : List ℕ → Type 0) → (NoWorse s (brought s values a) (offer s values a.to) → P (set values (a.to - 1) (brought s values a)))
        → (NoWorse s (offer s values a.to) (brought s values a) → P values) → P (after_arc s values a)
    either_way P h k =
        let y = brought s values a in
        let vy = brought_is_a_value values a in
        let same = value_counts_as_itself y vy in
        cond_both (s.better (counts s y) (offer s values a.to)) (set values (a.to - 1) y) values P
        (λ t. h (better_is_no_worse s laws y (offer s values a.to) vy (offer_is_a_value values a.to) (ap (λ x. s.better x (offer s values a.to)) (sym same) ∙ t)))
        (λ t. k (ap (λ x. s.better x (offer s values a.to)) (sym same) ∙ t))

    -- a junction's word stays, or it is what the arc brings
    pub arc_invents_nothing :
        (v : ℕ)
        → (offer s (after_arc s values a) v ≡ offer s values v)
        ⊎ ((v - 1 ≡ a.to - 1) × (offer s (after_arc s values a) v ≡ brought s values a))
    arc_invents_nothing v =
        let y = brought s values a in
        either_way (λ l. (offer s l v ≡ offer s values v) ⊎ ((v - 1 ≡ a.to - 1) × (offer s l v ≡ y)))
        (λ t. ⊎_elim (λ e. inr (e, written_here values (a.to - 1) v y e there (brought_is_a_value values a)))
        (λ ne. inl (written_elsewhere values (a.to - 1) v y ne)) (cases_eq (v - 1) (a.to - 1)))
        (λ t. inl refl)

    pub no_worse_after_arc : (v : ℕ) → NoWorse s (offer s (after_arc s values a) v) (offer s values v)
    no_worse_after_arc v =
        let y = brought s values a in
        let alike = no_worse_than_itself s laws (offer s values v) (offer_is_a_value values v) in
        either_way (λ l. NoWorse s (offer s l v) (offer s values v))
        (λ t. ⊎_elim
        (λ e. subst (λ x. NoWorse s x (offer s values v)) (sym (written_here values (a.to - 1) v y e there (brought_is_a_value values a)))
        (subst (λ j. NoWorse s y (counts s (get_or values j s.none))) (sym e) t))
        (λ ne. subst (λ x. NoWorse s x (offer s values v)) (sym (written_elsewhere values (a.to - 1) v y ne)) alike)
        (cases_eq (v - 1) (a.to - 1)))
        (λ t. alike)

    pub arc_is_taken : NoWorse s (offer s (after_arc s values a) a.to) (brought s values a)
    arc_is_taken =
        let y = brought s values a in
        let vy = brought_is_a_value values a in
        either_way (λ l. NoWorse s (offer s l a.to) y)
        (λ t. subst (λ x. NoWorse s x y) (sym (written_here values (a.to - 1) a.to y refl there vy)) (no_worse_than_itself s laws y vy))
        (λ t. t)

    -- words that are values stay values
    pub values_after_arc :
        ((i : ℕ) → Value s (get_or values i s.none)) → (i : ℕ) → Value s (get_or (after_arc s values a) i s.none)
    values_after_arc all i =
        let y = brought s values a in
        either_way (λ l. Value s (get_or l i s.none))
        (λ t. ⊎_elim
        (λ e. subst (Value s) (sym (ap (λ j. get_or (set values (a.to - 1) y) j s.none) e ∙ get_or-set_same values (a.to - 1) y s.none there))
        (brought_is_a_value values a))
        (λ ne. subst (Value s) (sym (get_or-set_other values (a.to - 1) i y s.none ne)) (all i)) (cases_eq i (a.to - 1)))
        (λ t. all i)

  -- over arcs between junctions, and a word for each junction
  module _ (net : Network) where
    -- the arcs lead from junctions to junctions
    abbrev pub Between : List Arc → Type 0
    Between arcs = (a : Arc) → In a arcs → Junction net a.from × Junction net a.to

    is_there : (values : List ℕ) → length values ≡ net.junctions → (v : ℕ) → Junction net v → v - 1 < length values
    is_there values size v (low, high) = omega arith

    size_stays : (values : List ℕ) (a : Arc) → length values ≡ net.junctions → length (after_arc s values a) ≡ net.junctions
    size_stays values a size = length_after_arc s values a ∙ size

    pub no_worse_after_arcs :
        (arcs : List Arc) (values : List ℕ) → Between arcs → length values ≡ net.junctions → (v : ℕ)
        → NoWorse s (offer s (after_arcs s values arcs) v) (offer s values v)
    no_worse_after_arcs [] values ends size v = no_worse_than_itself s laws (offer s values v) (offer_is_a_value values v)
    no_worse_after_arcs (a ∷ arcs) values ends size v =
        let next = after_arc s values a in
        laws.order_is_transitive (offer s (after_arcs s next arcs) v) (offer s next v) (offer s values v)
        (offer_is_a_value (after_arcs s next arcs) v) (offer_is_a_value next v) (offer_is_a_value values v)
        (no_worse_after_arcs arcs next (λ b i. ends b (inr i)) (size_stays values a size) v)
        (no_worse_after_arc values a (is_there values size a.to (ends a (inl refl)).1) v)

    pub every_arc_is_taken :
        (arcs : List Arc) (values : List ℕ) → Between arcs → length values ≡ net.junctions → (a : Arc) → In a arcs
        → NoWorse s (offer s (after_arcs s values arcs) a.to) (brought s values a)
    every_arc_is_taken [] values ends size a i = absurd i
    every_arc_is_taken (b ∷ arcs) values ends size a (inl e) =
        let next = after_arc s values a in
        subst (λ c. NoWorse s (offer s (after_arcs s (after_arc s values c) arcs) a.to) (brought s values a)) e
        (laws.order_is_transitive (offer s (after_arcs s next arcs) a.to) (offer s next a.to) (brought s values a)
        (offer_is_a_value (after_arcs s next arcs) a.to) (offer_is_a_value next a.to) (brought_is_a_value values a)
        (no_worse_after_arcs arcs next (λ c i. ends c (inr i)) (size_stays values a size) a.to)
        (arc_is_taken values a (is_there values size a.to (ends a (inl e)).1)))
    every_arc_is_taken (b ∷ arcs) values ends size a (inr i) =
        let next = after_arc s values b in
        laws.order_is_transitive (offer s (after_arcs s next arcs) a.to) (brought s next a) (brought s values a)
        (offer_is_a_value (after_arcs s next arcs) a.to) (brought_is_a_value next a) (brought_is_a_value values a)
        (every_arc_is_taken arcs next (λ c j. ends c (inr j)) (size_stays values b size) a i)
        (join_keeps_the_order_behind s laws (offer s next a.from) (offer s values a.from) (counts s a.worth)
        (offer_is_a_value next a.from) (offer_is_a_value values a.from) (count_is_a_value a.worth)
        (no_worse_after_arc values b (is_there values size b.to (ends b (inl refl)).1) a.from))

    pub values_after_arcs :
        (arcs : List Arc) (values : List ℕ) → Between arcs → length values ≡ net.junctions
        → ((i : ℕ) → Value s (get_or values i s.none)) → (i : ℕ) → Value s (get_or (after_arcs s values arcs) i s.none)
    values_after_arcs [] values ends size all i = all i
    values_after_arcs (a ∷ arcs) values ends size all i =
        values_after_arcs arcs (after_arc s values a) (λ b j. ends b (inr j)) (size_stays values a size)
        (values_after_arc values a (is_there values size a.to (ends a (inl refl)).1) all) i

    -- what each junction's word has, and every arc hands on, the words have after the arcs
    module _ (P : ℕ → ℕ → Type 0) where
      abbrev pub HandsOn : Arc → Type 0
      HandsOn a = (x : ℕ) → Value s x → P a.from x → P a.to (s.join (counts s a.worth) x)

      abbrev pub Have : List ℕ → Type 0
      Have values = (v : ℕ) → Junction net v → P v (offer s values v)

      have_after_arc :
          (values : List ℕ) (a : Arc) → Junction net a.from → Junction net a.to → length values ≡ net.junctions
          → HandsOn a → Have values → Have (after_arc s values a)
      have_after_arc values a from to size hand have v j =
          ⊎_elim (λ e. subst (P v) (sym e) (have v j))
          (λ q.
          let here : a.to ≡ v = omega (arith, q.0, to.0, j.0) in
          subst (P v) (sym q.1)
          (subst (λ t. P t (brought s values a)) here
          (hand (offer s values a.from) (offer_is_a_value values a.from) (have a.from from))))
          (arc_invents_nothing values a (is_there values size a.to to) v)

      pub have_after_arcs :
          (arcs : List Arc) (values : List ℕ) → Between arcs → length values ≡ net.junctions
          → ((a : Arc) → In a arcs → HandsOn a) → Have values → Have (after_arcs s values arcs)
      have_after_arcs [] values ends size hand have = have
      have_after_arcs (a ∷ arcs) values ends size hand have =
          let both = ends a (inl refl) in
          have_after_arcs arcs (after_arc s values a) (λ b i. ends b (inr i)) (size_stays values a size) (λ b i. hand b (inr i))
          (have_after_arc values a both.0 both.1 size (hand a (inl refl)) have)

    module _ (arcs : List Arc) (ends : Between arcs) where
      size_after : (values : List ℕ) → length values ≡ net.junctions → length (after_arcs s values arcs) ≡ net.junctions
      size_after values size = length_after_arcs s values arcs ∙ size

      pub no_worse_after_sweeps :
          (n : ℕ) (values : List ℕ) → length values ≡ net.junctions → (v : ℕ)
          → NoWorse s (offer s (after_sweeps s arcs n values) v) (offer s values v)
      no_worse_after_sweeps zero values size v = no_worse_than_itself s laws (offer s values v) (offer_is_a_value values v)
      no_worse_after_sweeps (suc n) values size v =
          let next = after_arcs s values arcs in
          laws.order_is_transitive (offer s (after_sweeps s arcs n next) v) (offer s next v) (offer s values v)
          (offer_is_a_value (after_sweeps s arcs n next) v) (offer_is_a_value next v) (offer_is_a_value values v)
          (no_worse_after_sweeps n next (size_after values size) v) (no_worse_after_arcs arcs values ends size v)

      pub values_after_sweeps :
          (n : ℕ) (values : List ℕ) → length values ≡ net.junctions
          → ((i : ℕ) → Value s (get_or values i s.none)) → (i : ℕ) → Value s (get_or (after_sweeps s arcs n values) i s.none)
      values_after_sweeps zero values size all i = all i
      values_after_sweeps (suc n) values size all i =
          values_after_sweeps n (after_arcs s values arcs) (size_after values size) (values_after_arcs arcs values ends size all) i

      pub have_after_sweeps :
          (P : ℕ → ℕ → Type 0) (n : ℕ) (values : List ℕ) → length values ≡ net.junctions
          → ((a : Arc) → In a arcs → HandsOn P a) → Have P values → Have P (after_sweeps s arcs n values)
      have_after_sweeps P zero values size hand have = have
      have_after_sweeps P (suc n) values size hand have =
          have_after_sweeps P n (after_arcs s values arcs) (size_after values size) hand (have_after_arcs P arcs values ends size hand have)

      -- so many sweeps take in every walk of so many arcs
      module _ (worths : (a : Arc) → In a arcs → Value s a.worth) where
        -- one arc in front of a walk: what it brings, gone on with
        gone_on_by_an_arc :
            (values : List ℕ) (a : Arc) (x : ℕ) → In a arcs → Value s x
            → s.join (brought s values a) x ≡ s.join (offer s values a.from) (s.join a.worth x)
        gone_on_by_an_arc values a x i vx =
            let o = offer s values a.from in
            let vo = offer_is_a_value values a.from in
            ap (λ y. s.join (s.join y o) x) (value_counts_as_itself a.worth (worths a i))
            ∙ ap (λ y. s.join y x) (laws.join_is_commutative a.worth o (worths a i) vo)
            ∙ laws.join_is_associative o a.worth x vo (worths a i) vx

        pub every_walk_is_taken :
            (n : ℕ) (values : List ℕ) → length values ≡ net.junctions
            → (u v : ℕ) (w : List Arc) → length w ≤ n → Walk arcs u v w
            → NoWorse s (offer s (after_sweeps s arcs n values) v) (s.join (offer s values u) (walk_value s w))
        every_walk_is_taken n values size u v [] b e =
            subst (λ x. NoWorse s (offer s (after_sweeps s arcs n values) v) x)
            (sym (start_changes_nothing_behind s laws (offer s values u) (offer_is_a_value values u) ∙ ap (offer s values) e))
            (no_worse_after_sweeps n values size v)
        every_walk_is_taken zero values size u v (a ∷ w) b h = absurd (omega arith)
        every_walk_is_taken (suc n) values size u v (a ∷ w) b (i, e, h) =
            let next = after_arcs s values arcs in
            let x = walk_value s w in
            let vx = walk_value_is_a_value s laws arcs worths a.to v w h in
            let y = brought s values a in
            let vy = brought_is_a_value values a in
            let vo = offer_is_a_value next a.to in
            subst (λ t. NoWorse s (offer s (after_sweeps s arcs n next) v) t)
            (gone_on_by_an_arc values a x i vx ∙ ap (λ t. s.join (offer s values t) (s.join a.worth x)) e)
            (laws.order_is_transitive (offer s (after_sweeps s arcs n next) v) (s.join (offer s next a.to) x) (s.join y x)
            (offer_is_a_value (after_sweeps s arcs n next) v) (laws.join_is_a_value (offer s next a.to) x vo vx) (laws.join_is_a_value y x vy vx)
            (every_walk_is_taken n next (size_after values size) a.to v w (omega arith) h)
            (laws.join_keeps_the_order (offer s next a.to) y x vo vy vx (every_arc_is_taken arcs values ends size a i)))
