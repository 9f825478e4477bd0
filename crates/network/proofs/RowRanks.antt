-- Rows by rank: what a row has under each hub, and that its hubs ascend. Assumes nothing.
use Rattle.std.proofs.Common.{◌≡◌, ℕ, zero, suc, ◌+◌, ◌<◌, ◌≤◌, eqb, List, [], ◌∷◌, ◌++◌, length, sym, refl, ap, ◌∙◌, subst, inl, inr, ⊎_elim, append_assoc, add-one, arith}
use Rattle.std.specs.List.{AllByRecursion}
use Rattle.std.proofs.lemmas.List.{take_at, get_or_at, length_push}
use Rattle.std.proofs.lemmas.Bool.{cases_eq, cases_order, eqb-true, eqb-false, eq-eqb, ne_eqb, cond-true, cond-false, cond_both}
use Rattle.measure.specs.Scale.{Scale}
use Rattle.network.specs.Lists.{In}
use Rattle.network.specs.Labels.{Entry, entry, cell, put_cell, row_after, row, value_at, Ascends}
use Rattle.network.proofs.Lists.{all_from_in}
use Rattle.network.proofs.Cells.{cell_at}

-- the entries that the values f give for n ranks from `low` on
abbrev pub collected : Scale → (ℕ → ℕ) → (ℕ → ℕ) → ℕ → ℕ → List Entry
collected s name f low zero = []
collected s name f low (suc n) = put_cell s (name low) (f low) (collected s name f (suc low) n)

-- names that rise strictly with the rank, as far as there are hubs
abbrev pub Rises : (ℕ → ℕ) → ℕ → Type 0
Rises name n = (i j : ℕ) → i < j → j < n → name i < name j

-- an entry in front of a row with greater hubs
pub ascends_in_front : (e : Entry) (es : List Entry) → AllByRecursion (λ f. e.hub < f.hub) es → Ascends es → Ascends (e ∷ es)
ascends_in_front e [] h a = tt
ascends_in_front e (f ∷ es) h a = (h.0, a)

-- what an entry of a collected row is: it stands under the name of a rank, with that rank's value, which is not none
pub record RankedEntry (s : Scale) (name f : ℕ → ℕ) (low high : ℕ) (e : Entry) : Type 0 where
  pub rank : ℕ
  pub not_before : low ≤ rank
  pub below : rank < high
  pub hub_is : e.hub ≡ name rank
  pub worth_is : e.worth ≡ f rank
  pub is_not_none : f rank ≡ s.none → ⊥

module _ (s : Scale) (name f : ℕ → ℕ) where
  pub in_collected : (e : Entry) (low n : ℕ) → In e (collected s name f low n) → RankedEntry s name f low (low + n) e
  in_collected e low zero h = absurd h
  in_collected e low (suc n) within =
      let later : List Entry = collected s name f (suc low) n in
      let at_later : In e later → RankedEntry s name f low (low + suc n) e = λ h.
      let r = in_collected e (suc low) n h in
      record { rank = r.rank; not_before = omega arith; below = omega arith; hub_is = r.hub_is; worth_is = r.worth_is; is_not_none = r.is_not_none } in
      let either : In e (put_cell s (name low) (f low) later) → RankedEntry s name f low (low + suc n) e =
      cond_both (eqb (f low) s.none) later (entry (name low) (f low) ∷ later)
      (λ es. In e es → RankedEntry s name f low (low + suc n) e)
      (λ t. at_later)
      (λ t. ⊎_elim
      (λ same. record {
        rank = low;
        not_before = omega arith;
        below = omega arith;
        hub_is = ap (λ x. x.hub) same;
        worth_is = ap (λ x. x.worth) same;
        is_not_none = eqb-false (f low) s.none t;
      })
      at_later) in
      either within

  pub rank_has_entry :
      (low n r : ℕ) → low ≤ r → r < low + n → (f r ≡ s.none → ⊥) → In (entry (name r) (f r)) (collected s name f low n)
  rank_has_entry low zero r h k ne = absurd (omega arith)
  rank_has_entry low (suc n) r h k ne =
      let later : List Entry = collected s name f (suc low) n in
      cond_both (eqb (f low) s.none) later (entry (name low) (f low) ∷ later)
      (In (entry (name r) (f r)))
      (λ t. ⊎_elim (λ e. absurd (ne (subst (λ x. f x ≡ s.none) e (eqb-true (f low) s.none t))))
      (λ other. rank_has_entry (suc low) n r (omega arith) (omega arith) ne)
      (cases_eq low r))
      (λ t. ⊎_elim (λ e. inl (ap (λ x. entry (name x) (f x)) (sym e)))
      (λ other. inr (rank_has_entry (suc low) n r (omega arith) (omega arith) ne))
      (cases_eq low r))

  -- a row has nothing under a name that none of its ranks has
  pub value_under_no_rank :
      (h low n : ℕ) → ((r : ℕ) → low ≤ r → r < low + n → name r ≡ h → ⊥) → value_at s (collected s name f low n) h ≡ s.none
  value_under_no_rank h low zero other = refl
  value_under_no_rank h low (suc n) other =
      let later : List Entry = collected s name f (suc low) n in
      let at_later : value_at s later h ≡ s.none =
      value_under_no_rank h (suc low) n (λ r k l. other r (omega arith) (omega arith)) in
      cond_both (eqb (f low) s.none) later (entry (name low) (f low) ∷ later) (λ es. value_at s es h ≡ s.none)
      (λ t. at_later)
      (λ t. cond-false (eqb (name low) h) (f low) (value_at s later h)
      (ne_eqb (name low) h (other low (omega arith) (omega arith))) ∙ at_later)

  module _ (top : ℕ) (rises : Rises name top) where
    -- names of two ranks differ
    pub names_differ : (i j : ℕ) → i < top → j < top → (i ≡ j → ⊥) → name i ≡ name j → ⊥
    names_differ i j h k ne e =
        ⊎_elim (λ l. let m = rises i j l k in omega arith) (λ l. let m = rises j i l h in omega arith)
        (⊎_elim (λ e. absurd (ne e)) (λ h. h) (cases_order i j))

    -- under a rank's name a row has that rank's value
    pub value_under_rank :
        (low n r : ℕ) → low + n ≤ top → low ≤ r → r < low + n → value_at s (collected s name f low n) (name r) ≡ f r
    value_under_rank low zero r u h k = absurd (omega arith)
    value_under_rank low (suc n) r u h k =
        let later : List Entry = collected s name f (suc low) n in
        let here : value_at s (collected s name f low (suc n)) (name low) ≡ f low =
        cond_both (eqb (f low) s.none) later (entry (name low) (f low) ∷ later)
        (λ es. value_at s es (name low) ≡ f low)
        (λ t. value_under_no_rank (name low) (suc low) n
        (λ q l m. names_differ q low (omega arith) (omega arith) (λ e. omega arith))
        ∙ sym (eqb-true (f low) s.none t))
        (λ t. cond-true (eqb (name low) (name low)) (f low) (value_at s later (name low)) (eq-eqb (name low) (name low) refl)) in
        let there : (low ≡ r → ⊥) → value_at s (collected s name f low (suc n)) (name r) ≡ f r = λ ne.
        let at_later : value_at s later (name r) ≡ f r =
        value_under_rank (suc low) n r (omega arith) (omega arith) (omega arith) in
        cond_both (eqb (f low) s.none) later (entry (name low) (f low) ∷ later)
        (λ es. value_at s es (name r) ≡ f r)
        (λ t. at_later)
        (λ t. cond-false (eqb (name low) (name r)) (f low) (value_at s later (name r))
        (ne_eqb (name low) (name r) (names_differ low r (omega arith) (omega arith) ne))
        ∙ at_later) in
        ⊎_elim (λ e. subst (λ x. value_at s (collected s name f low (suc n)) (name x) ≡ f x) e here) there (cases_eq low r)

    pub collected_ascends : (low n : ℕ) → low + n ≤ top → Ascends (collected s name f low n)
    collected_ascends low zero u = tt
    collected_ascends low (suc n) u =
        let later : List Entry = collected s name f (suc low) n in
        let at_later : Ascends later = collected_ascends (suc low) n (omega arith) in
        cond_both (eqb (f low) s.none) later (entry (name low) (f low) ∷ later) Ascends
        (λ t. at_later)
        (λ t. ascends_in_front (entry (name low) (f low)) later
        (all_from_in (λ e. name low < e.hub) later
        (λ e h. let r = in_collected e (suc low) n h in
        let l = rises low r.rank (omega arith) (omega arith) in
        let same = r.hub_is in
        omega arith))
        at_later)

-- the row of v is collected from its cells
pub row_after_is_collected :
    (s : Scale) (d : ℕ → ℕ → ℕ) (name : ℕ → ℕ) (earlier bs : List ℕ) (v : ℕ)
    → row_after s d name earlier bs v ≡ collected s name (cell_at s d (earlier ++ bs) v) (length earlier) (length bs)
row_after_is_collected s d name earlier [] v = refl
row_after_is_collected s d name earlier (b ∷ bs) v =
    let here : cell_at s d (earlier ++ (b ∷ bs)) v (length earlier) ≡ cell s d earlier b v =
    rw (take_at earlier (b ∷ bs) (length earlier) refl, get_or_at earlier b bs 0 (length earlier) refl) refl in
    let later = row_after_is_collected s d name (earlier ++ (b ∷ [])) bs v in
    let moved : row_after s d name (earlier ++ (b ∷ [])) bs v
    ≡ collected s name (cell_at s d (earlier ++ (b ∷ bs)) v) (suc (length earlier)) (length bs) =
    rw (length_push earlier b, add-one (length earlier), append_assoc earlier (b ∷ []) bs) at later in
    rw (here, moved) refl

pub row_is_collected :
    (s : Scale) (d : ℕ → ℕ → ℕ) (name : ℕ → ℕ) (hubs : List ℕ) (v : ℕ)
    → row s d name hubs v ≡ collected s name (cell_at s d hubs v) 0 (length hubs)
row_is_collected s d name hubs v = row_after_is_collected s d name [] hubs v
