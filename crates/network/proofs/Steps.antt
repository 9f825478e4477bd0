-- What `best_step` computes: the best of a value and what the arcs out of a junction offer. Assumes nothing.
use Rattle.std.proofs.Common.{◌≡◌, ℕ, cond, eqb, ◌⊎◌, List, [], ◌∷◌, refl, ◌∙◌, subst, inl, inr, ⊎_elim}
use Rattle.std.proofs.lemmas.Bool.{cond_both, eq-eqb, eqb-true}
use Rattle.measure.specs.Scale.{Scale, Value, Laws, NoWorse}
use Rattle.network.specs.Lists.{In}
use Rattle.network.specs.Walks.{Arc, pick, best_step}
use Rattle.network.proofs.Order.{
  no_worse_than_itself,
  pick_is_one,
  pick_is_a_value,
  pick_is_no_worse_than_the_first,
  pick_is_no_worse_than_the_second,
}

-- the result of `best_step` is x, or what an arc out of u offers
abbrev pub Stepped : Scale → List Arc → ℕ → (ℕ → ℕ) → ℕ → ℕ → Type 0
Stepped s arcs u onward x y =
    (y ≡ x) ⊎ ((a : Arc) × In a arcs × (a.from ≡ u) × (y ≡ s.join a.worth (onward a.to)))

module _ (s : Scale) (laws : Laws s) (u : ℕ) (onward : ℕ → ℕ) (onwards : (t : ℕ) → Value s (onward t)) where
  -- what is kept after one arc
  abbrev after : Arc → ℕ → ℕ
  after a x = cond (eqb a.from u) (pick s x (s.join a.worth (onward a.to))) x

  offer_is_a_value : (a : Arc) → Value s a.worth → Value s (s.join a.worth (onward a.to))
  offer_is_a_value a va = laws.join_is_a_value a.worth (onward a.to) va (onwards a.to)

  after_is_a_value : (a : Arc) (x : ℕ) → Value s a.worth → Value s x → Value s (after a x)
  after_is_a_value a x va vx =
      cond_both (eqb a.from u) (pick s x (s.join a.worth (onward a.to))) x (Value s)
      (λ t. pick_is_a_value s laws x (s.join a.worth (onward a.to)) vx (offer_is_a_value a va)) (λ t. vx)

  after_is_no_worse : (a : Arc) (x : ℕ) → Value s a.worth → Value s x → NoWorse s (after a x) x
  after_is_no_worse a x va vx =
      cond_both (eqb a.from u) (pick s x (s.join a.worth (onward a.to))) x (λ y. NoWorse s y x)
      (λ t. pick_is_no_worse_than_the_first s laws x (s.join a.worth (onward a.to)) vx (offer_is_a_value a va))
      (λ t. no_worse_than_itself s laws x vx)

  pub step_is_a_value :
      (arcs : List Arc) (x : ℕ) → ((a : Arc) → In a arcs → Value s a.worth) → Value s x → Value s (best_step s arcs u onward x)
  step_is_a_value [] x worths vx = vx
  step_is_a_value (a ∷ arcs) x worths vx =
      step_is_a_value arcs (after a x) (λ b i. worths b (inr i)) (after_is_a_value a x (worths a (inl refl)) vx)

  pub step_is_no_worse :
      (arcs : List Arc) (x : ℕ) → ((a : Arc) → In a arcs → Value s a.worth) → Value s x
      → NoWorse s (best_step s arcs u onward x) x
  step_is_no_worse [] x worths vx = no_worse_than_itself s laws x vx
  step_is_no_worse (a ∷ arcs) x worths vx =
      let rest : (b : Arc) → In b arcs → Value s b.worth = λ b i. worths b (inr i) in
      let va = worths a (inl refl) in
      let v = after_is_a_value a x va vx in
      laws.order_is_transitive (best_step s arcs u onward (after a x)) (after a x) x
      (step_is_a_value arcs (after a x) rest v) v vx (step_is_no_worse arcs (after a x) rest v) (after_is_no_worse a x va vx)

  pub step_takes_every_offer :
      (arcs : List Arc) (x : ℕ) → ((a : Arc) → In a arcs → Value s a.worth) → Value s x
      → (a : Arc) → In a arcs → a.from ≡ u → NoWorse s (best_step s arcs u onward x) (s.join a.worth (onward a.to))
  step_takes_every_offer [] x worths vx a i e = absurd i
  step_takes_every_offer (b ∷ arcs) x worths vx a (inl same) e =
      let rest : (c : Arc) → In c arcs → Value s c.worth = λ c i. worths c (inr i) in
      let va = worths a (inl same) in
      let v = after_is_a_value a x va vx in
      let offer = s.join a.worth (onward a.to) in
      let taken : NoWorse s (after a x) offer =
      rw (eq-eqb a.from u e) (pick_is_no_worse_than_the_second s laws x offer vx (offer_is_a_value a va)) in
      subst (λ c. NoWorse s (best_step s arcs u onward (after c x)) offer) same
      (laws.order_is_transitive (best_step s arcs u onward (after a x)) (after a x) offer
      (step_is_a_value arcs (after a x) rest v) v (offer_is_a_value a va) (step_is_no_worse arcs (after a x) rest v) taken)
  step_takes_every_offer (b ∷ arcs) x worths vx a (inr i) e =
      step_takes_every_offer arcs (after b x) (λ c j. worths c (inr j)) (after_is_a_value b x (worths b (inl refl)) vx) a i e

  pub step_invents_nothing : (arcs : List Arc) (x : ℕ) → Stepped s arcs u onward x (best_step s arcs u onward x)
  step_invents_nothing [] x = inl refl
  step_invents_nothing (a ∷ arcs) x =
      let y = best_step s arcs u onward (after a x) in
      let offer = s.join a.worth (onward a.to) in
      let kept : y ≡ after a x → Stepped s (a ∷ arcs) u onward x y =
      λ e. cond_both (eqb a.from u) (pick s x offer) x (λ z. y ≡ z → Stepped s (a ∷ arcs) u onward x y)
      (λ t f. ⊎_elim (λ g. inl (f ∙ g)) (λ g. inr (a, inl refl, eqb-true a.from u t, f ∙ g)) (pick_is_one s laws x offer))
      (λ t f. inl f) e in
      ⊎_elim kept (λ r. inr (r.0, inr r.1, r.2, r.3)) (step_invents_nothing arcs (after a x))
