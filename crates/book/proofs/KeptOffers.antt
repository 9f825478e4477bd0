-- What two ascending rows offer, entry by entry, and how the best offer so far is kept. Assumes nothing.
use Rattle.std.proofs.Common.{◌≡◌, ℕ, ◌<◌, true, eqb, List, [], ◌∷◌, Some, None, Option, sym, refl, ap, ◌∙◌, ⊎_elim, arith}
use Rattle.std.specs.List.{AllByRecursion}
use Rattle.std.proofs.lemmas.Bool.{cases_Bool, cond-true, cond-false, cond_both, eq-eqb, ne_eqb}
use Rattle.measure.specs.Scale.{Scale, Value, Laws, NoWorse, counts}
use Rattle.network.specs.Labels.{Entry, entry, put_cell, value_at, offers, better_offer, best_offer, Ascends}
use Rattle.network.proofs.Order.{better_then_no_worse, better_is_no_worse, none_stays_none_behind}
use Rattle.network.proofs.Meeting.{AllValues, offered, offered_is_a_value}
use Rattle.book.specs.Joining.{kept, kept_of}

-- a pair of value and hub as an offer
abbrev pub as_offer : Option (ℕ × ℕ) → Option Entry
as_offer None = None
as_offer (Some b) = Some (entry b.1 b.0)

-- the value of a pair, if there is one, is a value
abbrev pub Worthy : Scale → Option (ℕ × ℕ) → Type 0
Worthy s None = Unit {0}
Worthy s (Some b) = Value s b.0

-- the best offer so far, and those that follow
abbrev pub and_then : Scale → Option Entry → Option Entry → Option Entry
and_then s None m = m
and_then s (Some e) m = Some (better_offer s e m)

-- all hubs of a row are above h
abbrev pub Above : ℕ → List Entry → Type 0
Above h p = AllByRecursion (λ e. h < e.hub) p

-- what is below the first hub of an ascending row is below all
pub below_all : (h : ℕ) (e : Entry) (p : List Entry) → h < e.hub → Ascends (e ∷ p) → Above h (e ∷ p)
below_all h e [] l a = (l, tt)
below_all h e (f ∷ p) l (k, a) = (l, below_all h f p (omega arith) a)

-- the first hub of an ascending row is below all others
pub rest_is_above : (e : Entry) (p : List Entry) → Ascends (e ∷ p) → Above e.hub p
rest_is_above e [] a = tt
rest_is_above e (f ∷ p) (h, a) = below_all e.hub f p h a

pub rest_ascends : (e : Entry) (p : List Entry) → Ascends (e ∷ p) → Ascends p
rest_ascends e [] a = tt
rest_ascends e (f ∷ p) (h, a) = a

module _ (s : Scale) where
  -- a row has nothing under a hub below all of its own
  nothing_below : (h : ℕ) (q : List Entry) → Above h q → value_at s q h ≡ s.none
  nothing_below h [] a = refl
  nothing_below h (f ∷ q) (l, a) =
      cond-false (eqb f.hub h) f.worth (value_at s q h) (ne_eqb f.hub h (λ e. omega arith)) ∙ nothing_below h q a

  -- an entry below all hubs of a row plays no part when it is joined with it
  pub offers_without : (f : Entry) (p q : List Entry) → Above f.hub p → offers s p (f ∷ q) ≡ offers s p q
  offers_without f [] q a = refl
  offers_without f (e ∷ p) q (l, a) =
      let same : value_at s (f ∷ q) e.hub ≡ value_at s q e.hub =
      cond-false (eqb f.hub e.hub) f.worth (value_at s q e.hub) (ne_eqb f.hub e.hub (λ z. omega arith)) in
      ap (λ x. put_cell s e.hub (s.join e.worth x) (offers s p (f ∷ q))) same
      ∙ ap (put_cell s e.hub (s.join e.worth (value_at s q e.hub))) (offers_without f p q a)

module _ (s : Scale) (laws : Laws s) where
  -- an offer of none is left out
  pub offers_past : (e : Entry) (p q : List Entry) → Value s e.worth → Above e.hub q → offers s (e ∷ p) q ≡ offers s p q
  offers_past e p q ve a =
      let none : offered s q e ≡ s.none =
      ap (s.join e.worth) (nothing_below s e.hub q a) ∙ none_stays_none_behind s laws e.worth ve in
      cond-true (eqb (offered s q e) s.none) (offers s p q) (entry e.hub (offered s q e) ∷ offers s p q)
      (eq-eqb (offered s q e) s.none none)

  -- a row joined with no row
  pub no_offers : (p : List Entry) → AllValues s p → offers s p [] ≡ []
  no_offers [] v = refl
  no_offers (e ∷ p) (ve, v) = offers_past e p [] ve tt ∙ no_offers p v

  pub offers_are_values : (p q : List Entry) → AllValues s p → AllValues s q → AllValues s (offers s p q)
  offers_are_values [] q vp vq = tt
  offers_are_values (e ∷ p) q (ve, vp) vq =
      let later = offers_are_values p q vp vq in
      cond_both (eqb (offered s q e) s.none) (offers s p q) (entry e.hub (offered s q e) ∷ offers s p q)
      (AllValues s)
      (λ t. later)
      (λ t. (offered_is_a_value s laws q vq e ve, later))

  -- the second of two offers where it is better, else the first
  second_is_kept : (e f : Entry) → s.better f.worth e.worth ≡ true → better_offer s e (Some f) ≡ f
  second_is_kept e f t = cond-true (s.better f.worth e.worth) f e t

  first_is_kept : (e f : Entry) → NoWorse s e.worth f.worth → better_offer s e (Some f) ≡ e
  first_is_kept e f t = cond-false (s.better f.worth e.worth) f e t

  -- of three offers the best, from the left or from the right
  better_of_three :
      (e f g : Entry) → Value s e.worth → Value s f.worth → Value s g.worth
      → better_offer s e (Some (better_offer s f (Some g))) ≡ better_offer s (better_offer s e (Some f)) (Some g)
  better_of_three e f g ve vf vg =
      let on_the_right : (x : Entry) → better_offer s f (Some g) ≡ x
      → better_offer s e (Some (better_offer s f (Some g))) ≡ better_offer s e (Some x) = λ x. ap (λ y. better_offer s e (Some y)) in
      let on_the_left : (x : Entry) → better_offer s e (Some f) ≡ x
      → better_offer s (better_offer s e (Some f)) (Some g) ≡ better_offer s x (Some g) = λ x. ap (λ y. better_offer s y (Some g)) in
      ⊎_elim
      (λ gf. ⊎_elim
      (λ fe.
      let ge = better_then_no_worse s laws g.worth f.worth e.worth vg vf ve gf
      (better_is_no_worse s laws f.worth e.worth vf ve fe) in
      on_the_right g (second_is_kept f g gf) ∙ second_is_kept e g ge
      ∙ sym (on_the_left f (second_is_kept e f fe) ∙ second_is_kept f g gf))
      (λ fe. on_the_right g (second_is_kept f g gf) ∙ sym (on_the_left e (first_is_kept e f fe)))
      (cases_Bool (s.better f.worth e.worth)))
      (λ gf. ⊎_elim
      (λ fe.
      on_the_right f (first_is_kept f g gf) ∙ second_is_kept e f fe
      ∙ sym (on_the_left f (second_is_kept e f fe) ∙ first_is_kept f g gf))
      (λ fe.
      let eg = laws.order_is_transitive e.worth f.worth g.worth ve vf vg fe gf in
      on_the_right f (first_is_kept f g gf) ∙ first_is_kept e f fe
      ∙ sym (on_the_left e (first_is_kept e f fe) ∙ first_is_kept e g eg))
      (cases_Bool (s.better f.worth e.worth)))
      (cases_Bool (s.better g.worth f.worth))

  best_is_a_value : (e : Entry) (os : List Entry) → Value s e.worth → AllValues s os → Value s (better_offer s e (best_offer s os)).worth
  best_is_a_value e [] ve v = ve
  best_is_a_value e (f ∷ os) ve (vf, v) =
      let b : Entry = better_offer s f (best_offer s os) in
      cond_both (s.better b.worth e.worth) b e (λ x. Value s x.worth) (λ t. best_is_a_value f os vf v) (λ t. ve)

  -- an offer after the best so far, and then the others
  better_then_rest :
      (e f : Entry) (os : List Entry) → Value s e.worth → Value s f.worth → AllValues s os
      → better_offer s e (best_offer s (f ∷ os)) ≡ better_offer s (better_offer s e (Some f)) (best_offer s os)
  better_then_rest e f [] ve vf v = refl
  better_then_rest e f (g ∷ os) ve vf (vg, v) =
      better_of_three e f (better_offer s g (best_offer s os)) ve vf (best_is_a_value g os vg v)

  -- a value counts as itself
  pub counts_itself : (x : ℕ) → Value s x → counts s x ≡ x
  counts_itself x v = cond-true (s.value x) x s.none v

  pub kept_is_worthy : (best : Option (ℕ × ℕ)) (x h : ℕ) → Worthy s best → Value s x → Worthy s (kept s best x h)
  kept_is_worthy best x h w v =
      let after : (b : Option (ℕ × ℕ)) → Worthy s b → Worthy s (kept_of s b x h) = λ b.
      elim b as (λ b. Worthy s b → Worthy s (kept_of s b x h)) [
        | None ↦ λ w. v
        | Some y ↦ λ w. cond_both (s.better (counts s x) (counts s y.0)) (Some (x, h)) (Some y) (Worthy s) (λ t. v) (λ t. w)
      ] in
      cond_both (eqb x s.none) best (kept_of s best x h) (Worthy s) (λ t. w) (λ t. after best w)

  -- keeping an offer comes before those that follow
  keep_offer :
      (best : Option (ℕ × ℕ)) (x h : ℕ) (os : List Entry) → Worthy s best → Value s x → AllValues s os
      → and_then s (as_offer best) (best_offer s (entry h x ∷ os)) ≡ and_then s (as_offer (kept_of s best x h)) (best_offer s os)
  keep_offer None x h os w v vs = refl
  keep_offer (Some b) x h os w v vs =
      let e : Entry = entry b.1 b.0 in
      let f : Entry = entry h x in
      let both : Option Entry = best_offer s os in
      let so_far : as_offer (kept_of s (Some b) x h) ≡ Some (better_offer s e (Some f)) =
      rw (counts_itself x v, counts_itself b.0 w)
      (⊎_elim (λ t. rw t refl) (λ t. rw t refl) (cases_Bool (s.better x b.0))) in
      ap Some (better_then_rest e f os w v vs) ∙ sym (ap (λ o. and_then s o both) so_far)

  pub keep_then_rest :
      (best : Option (ℕ × ℕ)) (x h : ℕ) (os : List Entry) → Worthy s best → Value s x → AllValues s os
      → and_then s (as_offer best) (best_offer s (put_cell s h x os)) ≡ and_then s (as_offer (kept s best x h)) (best_offer s os)
  keep_then_rest best x h os w v vs =
      ⊎_elim (λ t. rw t refl) (λ t. rw t (keep_offer best x h os w v vs)) (cases_Bool (eqb x s.none))
