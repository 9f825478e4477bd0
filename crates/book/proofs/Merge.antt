-- Two rows merged: what is left to merge from any turn on gives, with the best so far, what the whole rows give. Assumes nothing.
use Rattle.std.proofs.Common.{◌≡◌, ℕ, ◌<◌, eqb, List, [], ◌∷◌, drop, Some, None, Option, sym, refl, ap, ◌∙◌, subst, arith}
use Rattle.std.specs.List.{AllByRecursion}
use Rattle.std.proofs.lemmas.Bool.{cond-true, eq-eqb}
use Rattle.std.proofs.ByRecursion.{All-weaker}
use Rattle.measure.specs.Scale.{Scale, Value, Laws, counts}
use Rattle.network.specs.Labels.{Entry, entry, put_cell, value_at, offers, best_offer, meet}
use Rattle.network.specs.Theorems.{Proper}
use Rattle.network.proofs.Meeting.{AllValues}
use Rattle.book.specs.Layout.{entries}
use Rattle.book.specs.Opened.{IsRow, JoinsTwoRows, as_pair}
use Rattle.book.specs.Joining.{front, kept}
use Rattle.book.proofs.KeptOffers.{as_offer, Worthy, and_then, Above, below_all, rest_is_above, rest_ascends, offers_without, offers_past, no_offers, offers_are_values, counts_itself, kept_is_worthy, keep_then_rest}

-- what is left of two rows, and the best so far, give what the whole rows give
pub record LeftToMerge (s : Scale) (first second p q : List ℕ) (best : Option (ℕ × ℕ)) : Type 0 where
  pub left_is_row : IsRow s p
  pub right_is_row : IsRow s q
  pub worthy : Worthy s best
  pub gives : and_then s (as_offer best) (meet s (entries p) (entries q)) ≡ meet s (entries first) (entries second)

abbrev pub Merging : Scale → List ℕ → List ℕ → List ℕ → List ℕ → Option (ℕ × ℕ) → Type 0
Merging s first second p q best = IsRow s first → IsRow s second → LeftToMerge s first second p q best

module _ (s : Scale) where
  pub values : (p : List Entry) → AllByRecursion (λ e. Proper s e.worth) p → AllValues s p
  values p h = All-weaker (λ e. Proper s e.worth) (λ e. Value s e.worth) (λ e x. x.0) p h

  rest_is_row : (h x : ℕ) (p : List ℕ) → IsRow s (h ∷ x ∷ p) → IsRow s p
  rest_is_row h x p r = record {
    whole = ap (drop 2) r.whole;
    ascends = rest_ascends (entry h x) (entries p) r.ascends;
    proper = r.proper.1;
  }

-- a row of which a cursor shows an entry begins with it
begins : (p : List ℕ) (h x : ℕ) → Some (h, x) ≡ front p → p ≡ h ∷ x ∷ drop 2 p
begins [] h x e = absurd (let z : ◌≡◌ {A = ℕ} 0 1 = cc in omega arith)
begins (y ∷ []) h x e = absurd (let z : ◌≡◌ {A = ℕ} 0 1 = cc in omega arith)
begins (y ∷ z ∷ p) h x e =
    let same : ◌≡◌ {A = ℕ × ℕ} (y, z) (h, x) = cc in
    ap (λ t. t.0 ∷ t.1 ∷ p) same

-- a row of which a cursor shows nothing has no entry
has_ended : (p : List ℕ) → None ≡ front p → entries p ≡ []
has_ended [] e = refl
has_ended (y ∷ []) e = refl
has_ended (y ∷ z ∷ p) e = absurd (let z : ◌≡◌ {A = ℕ} 0 1 = cc in omega arith)

nothing_more : (s : Scale) (best : Option (ℕ × ℕ)) → and_then s (as_offer best) None ≡ as_offer best
nothing_more s None = refl
nothing_more s (Some b) = refl

same_pair : (best : Option (ℕ × ℕ)) → as_pair (as_offer best) ≡ best
same_pair None = refl
same_pair (Some b) = refl

module _ (s : Scale) (laws : Laws s) (first second : List ℕ) (best : Option (ℕ × ℕ)) where
  abbrev Leaves : List ℕ → List ℕ → Type 0
  Leaves p q = LeftToMerge s first second p q best

  -- the smaller name is stepped over
  steps_left : (h x g y : ℕ) (p q : List ℕ) → h < g → Leaves (h ∷ x ∷ p) (g ∷ y ∷ q) → Leaves p (g ∷ y ∷ q)
  steps_left h x g y p q l i =
      let e : Entry = entry h x in
      let f : Entry = entry g y in
      let above : Above h (f ∷ entries q) = below_all h f (entries q) l i.right_is_row.ascends in
      record {
        left_is_row = rest_is_row s h x p i.left_is_row;
        right_is_row = i.right_is_row;
        worthy = i.worthy;
        gives =
            ap (λ os. and_then s (as_offer best) (best_offer s os))
            (sym (offers_past s laws e (entries p) (f ∷ entries q) i.left_is_row.proper.0.0 above))
            ∙ i.gives;
      }

  steps_right : (h x g y : ℕ) (p q : List ℕ) → g < h → Leaves (h ∷ x ∷ p) (g ∷ y ∷ q) → Leaves (h ∷ x ∷ p) q
  steps_right h x g y p q l i =
      let e : Entry = entry h x in
      let f : Entry = entry g y in
      let above : Above g (e ∷ entries p) = below_all g e (entries p) l i.left_is_row.ascends in
      record {
        left_is_row = i.left_is_row;
        right_is_row = rest_is_row s g y q i.right_is_row;
        worthy = i.worthy;
        gives =
            ap (λ os. and_then s (as_offer best) (best_offer s os)) (sym (offers_without s f (e ∷ entries p) (entries q) above))
            ∙ i.gives;
      }

  -- at equal names the values are joined
  steps_both :
      (h x y : ℕ) (p q : List ℕ) → Leaves (h ∷ x ∷ p) (h ∷ y ∷ q)
      → LeftToMerge s first second p q (kept s best (s.join x y) h)
  steps_both h x y p q i =
      let e : Entry = entry h x in
      let f : Entry = entry h y in
      let vp = values s (entries (h ∷ x ∷ p)) i.left_is_row.proper in
      let vq = values s (entries (h ∷ y ∷ q)) i.right_is_row.proper in
      let v : Value s (s.join x y) = laws.join_is_a_value x y vp.0 vq.0 in
      let here : value_at s (f ∷ entries q) h ≡ y = cond-true (eqb h h) y (value_at s (entries q) h) (eq-eqb h h refl) in
      let all : offers s (e ∷ entries p) (f ∷ entries q) ≡ put_cell s h (s.join x y) (offers s (entries p) (entries q)) =
      ap (λ z. put_cell s h (s.join x z) (offers s (entries p) (f ∷ entries q))) here
      ∙ ap (put_cell s h (s.join x y))
      (offers_without s f (entries p) (entries q) (rest_is_above e (entries p) i.left_is_row.ascends)) in
      record {
        left_is_row = rest_is_row s h x p i.left_is_row;
        right_is_row = rest_is_row s h y q i.right_is_row;
        worthy = kept_is_worthy s laws best (s.join x y) h i.worthy v;
        gives =
            sym (keep_then_rest s laws best (s.join x y) h (offers s (entries p) (entries q)) i.worthy v
            (offers_are_values s laws (entries p) (entries q) vp.1 vq.1))
            ∙ ap (λ os. and_then s (as_offer best) (best_offer s os)) (sym all)
            ∙ i.gives;
      }

  -- at the end of a row nothing is offered any more
  ends_left : (p q : List ℕ) → entries p ≡ [] → Leaves p q → as_offer best ≡ meet s (entries first) (entries second)
  ends_left p q e i = sym (nothing_more s best) ∙ ap (λ es. and_then s (as_offer best) (meet s es (entries q))) (sym e) ∙ i.gives

  ends_right : (p q : List ℕ) → entries q ≡ [] → Leaves p q → as_offer best ≡ meet s (entries first) (entries second)
  ends_right p q e i =
      sym (nothing_more s best)
      ∙ ap (λ os. and_then s (as_offer best) (best_offer s os)) (sym (no_offers s laws (entries p) (values s (entries p) i.left_is_row.proper)))
      ∙ ap (λ es. and_then s (as_offer best) (meet s (entries p) es)) (sym e)
      ∙ i.gives

  as_pair_again : (o : Option Entry) → as_offer best ≡ o → best ≡ as_pair o
  as_pair_again o e = sym (same_pair best) ∙ ap as_pair e

-- The turns of the loop, over what is left of the two rows, and what their fronts show.
module _ (s : Scale) (laws : Laws s) (first second p q : List ℕ) (best : Option (ℕ × ℕ)) (i : Merging s first second p q best) where
  module _ (h x g y : ℕ) (here : Some (h, x) ≡ front p) (there : Some (g, y) ≡ front q) where
    shown : IsRow s first → IsRow s second → LeftToMerge s first second (h ∷ x ∷ drop 2 p) (g ∷ y ∷ drop 2 q) best
    shown a b =
        subst (λ t. LeftToMerge s first second t (g ∷ y ∷ drop 2 q) best) (begins p h x here)
        (subst (λ t. LeftToMerge s first second p t best) (begins q g y there) (i a b))

    pub left_turn : (p' : List ℕ) → h < g → p' ≡ drop 2 p → Merging s first second p' q best
    left_turn p' l e a b =
        subst (λ t. LeftToMerge s first second t q best) (sym e)
        (subst (λ t. LeftToMerge s first second (drop 2 p) t best) (sym (begins q g y there))
        (steps_left s laws first second best h x g y (drop 2 p) (drop 2 q) l (shown a b)))

    pub right_turn : (q' : List ℕ) → g < h → q' ≡ drop 2 q → Merging s first second p q' best
    right_turn q' l e a b =
        subst (λ t. LeftToMerge s first second p t best) (sym e)
        (subst (λ t. LeftToMerge s first second t (drop 2 q) best) (sym (begins p h x here))
        (steps_right s laws first second best h x g y (drop 2 p) (drop 2 q) l (shown a b)))

    -- at equal names, where the joined value is kept if it is the best
    pub both_turn :
        (p' q' : List ℕ) (next : Option (ℕ × ℕ)) (z : ℕ) → h ≡ g → p' ≡ drop 2 p → q' ≡ drop 2 q
        → z ≡ s.join (counts s x) (counts s y) → next ≡ kept s best z h → Merging s first second p' q' next
    both_turn p' q' next z same ep eq ez en a b =
        let i' = subst (λ t. LeftToMerge s first second (h ∷ x ∷ drop 2 p) (t ∷ y ∷ drop 2 q) best) (sym same) (shown a b) in
        let joined : z ≡ s.join x y =
        ez ∙ ap (λ t. s.join t (counts s y)) (counts_itself s laws x i'.left_is_row.proper.0.0)
        ∙ ap (s.join x) (counts_itself s laws y i'.right_is_row.proper.0.0) in
        let next_is : kept s best (s.join x y) h ≡ next = ap (λ t. kept s best t h) (sym joined) ∙ sym en in
        let merged : LeftToMerge s first second (drop 2 p) (drop 2 q) (kept s best (s.join x y) h) =
        steps_both s laws first second best h x y (drop 2 p) (drop 2 q) i' in
        subst (λ t. LeftToMerge s first second t q' next) (sym ep)
        (subst (λ t. LeftToMerge s first second (drop 2 p) t next) (sym eq)
        (subst (LeftToMerge s first second (drop 2 p) (drop 2 q)) next_is merged))

  pub left_end : None ≡ front p → JoinsTwoRows s first second best
  left_end e a b = as_pair_again s laws first second best (meet s (entries first) (entries second))
      (ends_left s laws first second best p q (has_ended p e) (i a b))

  pub right_end : None ≡ front q → JoinsTwoRows s first second best
  right_end e a b = as_pair_again s laws first second best (meet s (entries first) (entries second))
      (ends_right s laws first second best p q (has_ended q e) (i a b))
