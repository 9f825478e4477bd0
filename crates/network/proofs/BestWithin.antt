-- What `best_within` computes: the best over walks of at most k arcs. Assumes nothing.
use Rattle.std.proofs.Common.{ℕ, zero, suc, ◌≤◌, cond, eqb, List, [], ◌∷◌, length, sym, refl, ap, ◌∙◌, subst, subst₂, inl, inr, ⊎_elim, arith}
use Rattle.std.proofs.lemmas.Bool.{cond_both, cond-true, eq-eqb, eqb-true}
use Rattle.measure.specs.Scale.{Scale, Value, Laws, NoWorse}
use Rattle.network.specs.Lists.{In}
use Rattle.network.specs.Walks.{Arc, Walk, walk_value, best_within}
use Rattle.network.proofs.Order.{no_worse_than_itself, join_keeps_the_order_behind, none_stays_none_behind}
use Rattle.network.proofs.Walks.{Reached, walk_value_is_a_value}
use Rattle.network.proofs.Steps.{step_is_a_value, step_is_no_worse, step_takes_every_offer, step_invents_nothing}

-- what resting is worth from u to v: start where they are one, else none
abbrev pub resting : Scale → ℕ → ℕ → ℕ
resting s u v = cond (eqb u v) s.start s.none

module _ (s : Scale) (laws : Laws s) (arcs : List Arc) (worths : (a : Arc) → In a arcs → Value s a.worth) where
  resting_is_a_value : (u v : ℕ) → Value s (resting s u v)
  resting_is_a_value u v =
      cond_both (eqb u v) s.start s.none (Value s) (λ t. laws.start_is_a_value) (λ t. laws.none_is_a_value)

  resting_is_reached : (u v : ℕ) → Reached s arcs u v (resting s u v)
  resting_is_reached u v =
      cond_both (eqb u v) s.start s.none (Reached s arcs u v) (λ t. inr ([], eqb-true u v t, refl)) (λ t. inl refl)

  pub within_is_a_value : (k u v : ℕ) → Value s (best_within s arcs k u v)
  within_is_a_value zero u v = resting_is_a_value u v
  within_is_a_value (suc k) u v =
      step_is_a_value s laws u (λ t. best_within s arcs k t v) (λ t. within_is_a_value k t v) arcs (resting s u v) worths
      (resting_is_a_value u v)

  within_is_no_worse_than_resting : (k u v : ℕ) → NoWorse s (best_within s arcs k u v) (resting s u v)
  within_is_no_worse_than_resting zero u v = no_worse_than_itself s laws (resting s u v) (resting_is_a_value u v)
  within_is_no_worse_than_resting (suc k) u v =
      step_is_no_worse s laws u (λ t. best_within s arcs k t v) (λ t. within_is_a_value k t v) arcs (resting s u v) worths
      (resting_is_a_value u v)

  -- what an arc offers is reached, if what it is joined with is
  pub offer_is_reached :
      (v x : ℕ) (a : Arc) → In a arcs → Reached s arcs a.to v x → Reached s arcs a.from v (s.join a.worth x)
  offer_is_reached v x a i (inl none) =
      inl (ap (λ z. s.join a.worth z) none ∙ none_stays_none_behind s laws a.worth (worths a i))
  offer_is_reached v x a i (inr (w, h, e)) = inr (a ∷ w, (i, refl, h), ap (λ z. s.join a.worth z) e)

  pub within_is_reached : (k u v : ℕ) → Reached s arcs u v (best_within s arcs k u v)
  within_is_reached zero u v = resting_is_reached u v
  within_is_reached (suc k) u v =
      let onward : ℕ → ℕ = λ t. best_within s arcs k t v in
      let by_an_arc : (a : Arc) → In a arcs → Reached s arcs a.from v (s.join a.worth (onward a.to)) =
      λ a i. offer_is_reached v (onward a.to) a i (within_is_reached k a.to v) in
      ⊎_elim (λ e. subst (Reached s arcs u v) (sym e) (resting_is_reached u v))
      (λ r. subst₂ (λ x y. Reached s arcs x v y) r.2 (sym r.3) (by_an_arc r.0 r.1))
      (step_invents_nothing s laws u onward (λ t. within_is_a_value k t v) arcs (resting s u v))

  -- no walk of at most k arcs is better
  pub within_is_best : (k u v : ℕ) (w : List Arc) → length w ≤ k → Walk arcs u v w → NoWorse s (best_within s arcs k u v) (walk_value s w)
  within_is_best k u v [] b e =
      subst (λ x. NoWorse s (best_within s arcs k u v) x) (cond-true (eqb u v) s.start s.none (eq-eqb u v e))
      (within_is_no_worse_than_resting k u v)
  within_is_best zero u v (a ∷ w) b h = absurd (omega arith)
  within_is_best (suc k) u v (a ∷ w) b (i, e, h) =
      let onward : ℕ → ℕ = λ t. best_within s arcs k t v in
      let vo = within_is_a_value k a.to v in
      let vw = walk_value_is_a_value s laws arcs worths a.to v w h in
      laws.order_is_transitive (best_within s arcs (suc k) u v) (s.join a.worth (onward a.to)) (s.join a.worth (walk_value s w))
      (within_is_a_value (suc k) u v) (laws.join_is_a_value a.worth (onward a.to) (worths a i) vo)
      (laws.join_is_a_value a.worth (walk_value s w) (worths a i) vw)
      (step_takes_every_offer s laws u onward (λ t. within_is_a_value k t v) arcs (resting s u v) worths (resting_is_a_value u v) a i e)
      (join_keeps_the_order_behind s laws (onward a.to) (walk_value s w) a.worth vo vw (worths a i)
      (within_is_best k a.to v w (omega arith) h))
