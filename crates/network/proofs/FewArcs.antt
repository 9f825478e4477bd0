-- Few arcs suffice: for every walk there is one no worse with fewer arcs than there are junctions. Assumes nothing.
use Rattle.std.proofs.Common.{◌≡◌, ℕ, zero, suc, ◌-◌, ◌≤◌, ◌⊎◌, List, [], ◌∷◌, length, subst, inl, inr, ⊎_elim, arith}
use Rattle.std.specs.List.{AllByRecursion}
use Rattle.std.proofs.lemmas.Bool.{cases_eq}
use Rattle.measure.specs.Scale.{Scale, Value, Laws, NoWorse}
use Rattle.network.specs.Lists.{In}
use Rattle.network.specs.Walks.{Arc, Walk, walk_value}
use Rattle.network.proofs.Order.{no_worse_than_itself, joining_is_never_better, join_keeps_the_order_behind}
use Rattle.network.proofs.Lists.{without, in_without, without_is_shorter}
use Rattle.network.proofs.Walks.{walk_value_is_a_value}

-- each arc of the walk leads to a junction of the list
abbrev pub LeadsInto : List ℕ → List Arc → Type 0
LeadsInto all w = AllByRecursion (λ a. In a.to all) w

-- what the arcs of a list lead to, as a walk takes them
pub leads_into :
    (arcs : List Arc) (all : List ℕ) → ((a : Arc) → In a arcs → In a.to all)
    → (u v : ℕ) (w : List Arc) → Walk arcs u v w → LeadsInto all w
leads_into arcs all far u v [] e = tt
leads_into arcs all far u v (a ∷ w) (i, e, k) = (far a i, leads_into arcs all far a.to v w k)

-- a walk from u to v which never comes back to u, inside the list, and no worse than w
abbrev pub LeavesForGood : Scale → List Arc → List ℕ → ℕ → ℕ → List Arc → Type 0
LeavesForGood s arcs all u v w =
    (x : List Arc) × Walk arcs u v x × LeadsInto (without u all) x × NoWorse s (walk_value s x) (walk_value s w)

-- there is a walk from u to v of at most n arcs, no worse than w
abbrev pub Shortened : Scale → List Arc → ℕ → ℕ → ℕ → List Arc → Type 0
Shortened s arcs n u v w =
    (x : List Arc) × Walk arcs u v x × NoWorse s (walk_value s x) (walk_value s w) × (length x ≤ n)

module _ (s : Scale) (laws : Laws s) (arcs : List Arc) (worths : (a : Arc) → In a arcs → Value s a.worth) where
  first_arc_never_helps :
      (a : Arc) (x w : List Arc) → In a arcs → Value s (walk_value s x) → Value s (walk_value s w)
      → NoWorse s (walk_value s x) (walk_value s w) → NoWorse s (walk_value s x) (walk_value s (a ∷ w))
  first_arc_never_helps a x w i vx vw h =
      laws.order_is_transitive (walk_value s x) (walk_value s w) (s.join a.worth (walk_value s w)) vx vw
      (laws.join_is_a_value a.worth (walk_value s w) (worths a i) vw) h
      (joining_is_never_better s laws a.worth (walk_value s w) (worths a i) vw)

  -- one arc in front of a walk, as told for `last_visit`
  one_arc_before :
      (all : List ℕ) (u v : ℕ) (a : Arc) (w : List Arc) → In a arcs → Walk arcs a.to v w → In a.to all
      → LeadsInto (without u all) w ⊎ LeavesForGood s arcs all u v w → (a.to ≡ u) ⊎ (a.to ≡ u → ⊥)
      → LeadsInto (without u all) (a ∷ w) ⊎ LeavesForGood s arcs all u v (a ∷ w)
  one_arc_before all u v a w i k h (inl m) (inl back) =
      let vw = walk_value_is_a_value s laws arcs worths a.to v w k in
      let never_helps = first_arc_never_helps a w w i vw vw (no_worse_than_itself s laws (walk_value s w) vw) in
      inr (w, subst (λ y. Walk arcs y v w) back k, m, never_helps)
  one_arc_before all u v a w i k h (inl m) (inr ne) = inl (in_without u a.to all ne h, m)
  one_arc_before all u v a w i k h (inr (x, p, m, b)) c =
      let vx = walk_value_is_a_value s laws arcs worths u v x p in
      let vw = walk_value_is_a_value s laws arcs worths a.to v w k in
      inr (x, p, m, first_arc_never_helps a x w i vx vw b)

  -- a walk never comes to u, or what follows its last visit there leaves u for good
  last_visit :
      (all : List ℕ) (u t v : ℕ) (w : List Arc) → Walk arcs t v w → LeadsInto all w
      → LeadsInto (without u all) w ⊎ LeavesForGood s arcs all u v w
  last_visit all u t v [] e l = inl tt
  last_visit all u t v (a ∷ w) (i, e, k) (h, l) =
      one_arc_before all u v a w i k h (last_visit all u a.to v w k l) (cases_eq a.to u)

  -- a loop never helps: a walk from u may leave u for good
  pub loop_never_helps :
      (all : List ℕ) (u v : ℕ) (w : List Arc) → Walk arcs u v w → LeadsInto all w → LeavesForGood s arcs all u v w
  loop_never_helps all u v w k l =
      ⊎_elim (λ m. (w, k, m, no_worse_than_itself s laws (walk_value s w) (walk_value_is_a_value s laws arcs worths u v w k)))
      (λ r. r) (last_visit all u u v w k l)

  -- a walk into at most n junctions needs no more than n arcs
  one_arc_each :
      (n : ℕ) (all : List ℕ) (u v : ℕ) (w : List Arc) → length all ≤ n → Walk arcs u v w → LeadsInto all w → Shortened s arcs n u v w
  one_arc_each n all u v [] b e l = ([], e, no_worse_than_itself s laws s.start laws.start_is_a_value, omega arith)
  one_arc_each zero all u v (a ∷ w) b k (h, l) = absurd (omega (arith, without_is_shorter a.to all h))
  one_arc_each (suc n) all u v (a ∷ w) b (i, e, k) (h, l) =
      let shorter = without_is_shorter a.to all h in
      let r = loop_never_helps all a.to v w k l in
      let q = one_arc_each n (without a.to all) a.to v r.0 (omega arith) r.1 r.2 in
      let value = walk_value_is_a_value s laws arcs worths a.to v in (
        a ∷ q.0,
        (i, e, q.1),
        join_keeps_the_order_behind s laws (walk_value s q.0) (walk_value s w) a.worth
            (value q.0 q.1) (value w k) (worths a i)
            (laws.order_is_transitive (walk_value s q.0) (walk_value s r.0) (walk_value s w)
            (value q.0 q.1) (value r.0 r.1) (value w k) q.2 r.3),
        omega arith,
      )

  -- one arc fewer than junctions is enough, since nothing leads back to the first junction
  pub few_arcs_suffice :
      (all : List ℕ) → ((a : Arc) → In a arcs → In a.from all × In a.to all)
      → (u v : ℕ) (w : List Arc) → Walk arcs u v w → Shortened s arcs (length all - 1) u v w
  few_arcs_suffice all ends u v [] e = ([], e, no_worse_than_itself s laws s.start laws.start_is_a_value, omega arith)
  few_arcs_suffice all ends u v (a ∷ w) (i, e, k) =
      let whole : Walk arcs u v (a ∷ w) = (i, e, k) in
      let r = loop_never_helps all u v (a ∷ w) whole (leads_into arcs all (λ b j. (ends b j).1) u v (a ∷ w) whole) in
      let shorter = without_is_shorter u all (subst (λ x. In x all) e (ends a i).0) in
      let q = one_arc_each (length all - 1) (without u all) u v r.0 (omega arith) r.1 r.2 in
      let value = walk_value_is_a_value s laws arcs worths u v in (
        q.0,
        q.1,
        laws.order_is_transitive (walk_value s q.0) (walk_value s r.0) (walk_value s (a ∷ w))
            (value q.0 q.1) (value r.0 r.1) (value (a ∷ w) whole) q.2 r.3,
        q.3,
      )
