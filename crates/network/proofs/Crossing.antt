-- A walk between two districts passes a border. Assumes nothing.
use Rattle.std.proofs.Common.{◌≡◌, ℕ, true, List, [], ◌∷◌, ◌++◌, sym, refl, ap, ◌∙◌, subst, ⊎_elim}
use Rattle.std.proofs.lemmas.Bool.{cases_eq}
use Rattle.measure.specs.Scale.{Scale, Laws, NoWorse}
use Rattle.network.specs.Lists.{In}
use Rattle.network.specs.Walks.{Arc, Walk, walk_value}
use Rattle.network.specs.Networks.{Network, Sound, district, arcs, best, is_border}
use Rattle.network.proofs.Distance.{Distance, WalkDistance}
use Rattle.network.proofs.Order.{join_keeps_the_order_twice}
use Rattle.network.proofs.Walks.{walk_value_is_a_value, value_of_walks_joined}
use Rattle.network.proofs.NetworkArcs.{arc_worths_are_values}
use Rattle.network.proofs.DistrictArcs.{crossing_leaves_a_border}

-- a walk w of the network cut in two at a junction of which P holds; its second part is a walk of the arcs `rest`
pub record Cut (net : Network) (P : ℕ → Type 0) (rest : List Arc) (u v : ℕ) (w : List Arc) : Type 0 where
  pub at : ℕ
  pub fits : P at
  pub before : List Arc
  pub after : List Arc
  pub walk_before : Walk (arcs net) u at before
  pub walk_after : Walk rest at v after
  pub is_cut : w ≡ before ++ after

-- one arc more in front
pub cut_later :
    (net : Network) (P : ℕ → Type 0) (rest : List Arc) (u v : ℕ) (a : Arc) (w : List Arc) → In a (arcs net) → a.from ≡ u
    → Cut net P rest a.to v w → Cut net P rest u v (a ∷ w)
cut_later net P rest u v a w i e c = record {
  at = c.at;
  fits = c.fits;
  before = a ∷ c.before;
  after = c.after;
  walk_before = (i, e, c.walk_before);
  walk_after = c.walk_after;
  is_cut = ap (◌∷◌ a) c.is_cut;
}

-- a walk between two districts is cut at a border
pub walk_passes_a_border :
    (net : Network) (u v : ℕ) (w : List Arc) → Walk (arcs net) u v w → (district net u ≡ district net v → ⊥)
    → Cut net (λ b. is_border net b ≡ true) (arcs net) u v w
walk_passes_a_border net u v [] e differ = absurd (differ (ap (district net) e))
walk_passes_a_border net u v (a ∷ w) (i, e, h) differ =
    ⊎_elim
    (λ same.
    cut_later net (λ b. is_border net b ≡ true) (arcs net) u v a w i e
    (walk_passes_a_border net a.to v w h (λ f. differ (ap (district net) (sym e) ∙ same ∙ f))))
    (λ leaves. record {
      at = u;
      fits = subst (λ x. is_border net x ≡ true) e (crossing_leaves_a_border net a i leaves);
      before = [];
      after = a ∷ w;
      walk_before = refl;
      walk_after = (i, e, h);
      is_cut = refl;
    })
    (cases_eq (district net a.from) (district net a.to))

module _ (s : Scale) (laws : Laws s) (net : Network) (sound : Sound s net)
    (dist : Distance s (best s net)) (walks : WalkDistance s (arcs net) (best s net)) where
  -- by some border the way is as good as the best
  pub best_passes_a_border :
      (u v : ℕ) → (best s net u v ≡ s.none → ⊥) → (district net u ≡ district net v → ⊥)
      → (b : ℕ) × (is_border net b ≡ true) × NoWorse s (s.join (best s net u b) (best s net b v)) (best s net u v)
  best_passes_a_border u v reached differ =
      let worths = arc_worths_are_values s laws net sound in
      let value = walk_value_is_a_value s laws (arcs net) worths in
      ⊎_elim (λ e. absurd (reached e))
      (λ r.
      let cut = walk_passes_a_border net u v r.0 r.1 differ in
      let b = cut.at in
      let p = cut.before in
      let q = cut.after in
      let hp = cut.walk_before in
      let hq = cut.walk_after in
      let parts : s.join (walk_value s p) (walk_value s q) ≡ best s net u v =
      sym (value_of_walks_joined s laws (arcs net) worths u b v p q hp hq) ∙ ap (walk_value s) (sym cut.is_cut) ∙ r.2 in (
        b,
        cut.fits,
        subst (NoWorse s (s.join (best s net u b) (best s net b v))) parts
            (join_keeps_the_order_twice s laws (best s net u b) (walk_value s p) (best s net b v) (walk_value s q)
            (dist.is_a_value u b) (value u b p hp) (dist.is_a_value b v) (value b v q hq)
            (walks.no_walk_is_better u b p hp) (walks.no_walk_is_better b v q hq)),
      ))
      (walks.reached u v)
