-- What two rows joined give: the best of what their common hubs offer. Assumes nothing.
use Rattle.std.proofs.Common.{◌≡◌, ℕ, not, eqb, List, [], ◌∷◌, Some, None, Option, sym, refl, ap, ◌∙◌, subst, inl, inr, ⊎_elim}
use Rattle.std.specs.List.{AllByRecursion}
use Rattle.std.proofs.lemmas.Bool.{eqb-true, eqb-false, not-true, cond_both}
use Rattle.measure.specs.Scale.{Scale, Value, Laws, NoWorse}
use Rattle.network.specs.Lists.{In}
use Rattle.network.specs.Labels.{Entry, entry, value_at, offers, better_offer, best_offer, meet, struck}
use Rattle.network.proofs.Lists.{all_in, kept_by_in}
use Rattle.network.proofs.Order.{no_worse_than_itself, better_is_no_worse}

-- what an entry offers together with the other row: the joined value, which is none where that row has nothing under its hub
abbrev pub offered : Scale → List Entry → Entry → ℕ
offered s q e = s.join e.worth (value_at s q e.hub)

abbrev pub AllValues : Scale → List Entry → Type 0
AllValues s p = AllByRecursion (λ e. Value s e.worth) p

-- an offer is the best: an entry of the first row makes it, it is not none, and no entry makes a better one
pub record IsTheBestOffer (s : Scale) (p q : List Entry) (o : Entry) : Type 0 where
  pub source : Entry
  pub source_is_there : In source p
  pub hub_is : o.hub ≡ source.hub
  pub worth_is : o.worth ≡ offered s q source
  pub is_not_none : o.worth ≡ s.none → ⊥
  pub none_is_better : (e : Entry) → In e p → NoWorse s o.worth (offered s q e)

-- two rows joined are the best offer, or nothing where every offer is none
abbrev pub Meets : Scale → List Entry → List Entry → Option Entry → Type 0
Meets s p q None = (e : Entry) → In e p → offered s q e ≡ s.none
Meets s p q (Some o) = IsTheBestOffer s p q o

-- an entry that is left when a hub is struck out is of the row, and has another hub
pub in_struck : (h : ℕ) (e : Entry) (p : List Entry) → In e (struck h p) → In e p × (e.hub ≡ h → ⊥)
in_struck h e p within =
    let r = kept_by_in (λ x. not (eqb x.hub h)) e p within in
    (r.0, eqb-false e.hub h (not-true (eqb e.hub h) r.1))

module _ (s : Scale) (laws : Laws s) where
  pub value_at_is_a_value : (q : List Entry) → AllValues s q → (h : ℕ) → Value s (value_at s q h)
  value_at_is_a_value [] all h = laws.none_is_a_value
  value_at_is_a_value (e ∷ q) all h =
      cond_both (eqb e.hub h) e.worth (value_at s q h) (Value s) (λ t. all.0) (λ t. value_at_is_a_value q all.1 h)

  pub offered_is_a_value : (q : List Entry) → AllValues s q → (e : Entry) → Value s e.worth → Value s (offered s q e)
  offered_is_a_value q all e ve =
      laws.join_is_a_value e.worth (value_at s q e.hub) ve (value_at_is_a_value q all e.hub)

  -- an entry that offers none changes nothing
  passed_over :
      (e : Entry) (p q : List Entry) → AllValues s p → AllValues s q → offered s q e ≡ s.none → (m : Option Entry)
      → Meets s p q m → Meets s (e ∷ p) q m
  passed_over e p q vp vq z None h = λ x. ⊎_elim (λ same. ap (offered s q) same ∙ z) (h x)
  passed_over e p q vp vq z (Some o) h =
      let vo : Value s o.worth =
      rw h.worth_is
      (offered_is_a_value q vq h.source (all_in (λ x. Value s x.worth) h.source p vp h.source_is_there)) in
      record {
        source = h.source;
        source_is_there = inr h.source_is_there;
        hub_is = h.hub_is;
        worth_is = h.worth_is;
        is_not_none = h.is_not_none;
        none_is_better = λ x. ⊎_elim
            (λ same. subst (NoWorse s o.worth) (sym (ap (offered s q) same ∙ z)) (laws.none_is_worst o.worth vo))
            (h.none_is_better x);
      }

  -- an entry whose offer is not none: it, or the best offer of the others
  chosen :
      (e : Entry) (p q : List Entry) → Value s e.worth → AllValues s p → AllValues s q → (offered s q e ≡ s.none → ⊥)
      → (m : Option Entry) → Meets s p q m → Meets s (e ∷ p) q (Some (better_offer s (entry e.hub (offered s q e)) m))
  chosen e p q ve vp vq ne None h =
      let vo = offered_is_a_value q vq e ve in
      record {
        source = e;
        source_is_there = inl refl;
        hub_is = refl;
        worth_is = refl;
        is_not_none = ne;
        none_is_better = λ x. ⊎_elim
            (λ same. subst (NoWorse s (offered s q e)) (ap (offered s q) (sym same)) (no_worse_than_itself s laws (offered s q e) vo))
            (λ k. subst (NoWorse s (offered s q e)) (sym (h x k)) (laws.none_is_worst (offered s q e) vo));
      }
  chosen e p q ve vp vq ne (Some o) h =
      let ve_offer = offered_is_a_value q vq e ve in
      let vo : Value s o.worth =
      rw h.worth_is
      (offered_is_a_value q vq h.source (all_in (λ x. Value s x.worth) h.source p vp h.source_is_there)) in
      cond_both (s.better o.worth (offered s q e)) o (entry e.hub (offered s q e)) (IsTheBestOffer s (e ∷ p) q)
      (λ t. record {
        source = h.source;
        source_is_there = inr h.source_is_there;
        hub_is = h.hub_is;
        worth_is = h.worth_is;
        is_not_none = h.is_not_none;
        none_is_better = λ x. ⊎_elim
            (λ same. subst (NoWorse s o.worth) (ap (offered s q) (sym same))
            (better_is_no_worse s laws o.worth (offered s q e) vo ve_offer t))
            (h.none_is_better x);
      })
      (λ t. record {
        source = e;
        source_is_there = inl refl;
        hub_is = refl;
        worth_is = refl;
        is_not_none = ne;
        none_is_better = λ x. ⊎_elim
            (λ same. subst (NoWorse s (offered s q e)) (ap (offered s q) (sym same)) (no_worse_than_itself s laws (offered s q e) ve_offer))
            (λ k. laws.order_is_transitive (offered s q e) o.worth (offered s q x) ve_offer vo
            (offered_is_a_value q vq x (all_in (λ y. Value s y.worth) x p vp k)) t (h.none_is_better x k));
      })

  pub meets : (p q : List Entry) → AllValues s p → AllValues s q → Meets s p q (meet s p q)
  meets [] q vp vq = λ e h. absurd h
  meets (e ∷ p) q vp vq =
      let later : Meets s p q (meet s p q) = meets p q vp.1 vq in
      cond_both (eqb (offered s q e) s.none) (offers s p q) (entry e.hub (offered s q e) ∷ offers s p q)
      (λ os. Meets s (e ∷ p) q (best_offer s os))
      (λ t. passed_over e p q vp.1 vq (eqb-true (offered s q e) s.none t) (meet s p q) later)
      (λ t. chosen e p q vp.0 vp.1 vq (eqb-false (offered s q e) s.none t) (meet s p q) later)
