-- What is told from runs of cells is right: the next cell of a row. Assumes nothing.
use Rattle.std.proofs.Common.{◌≡◌, ℕ, zero, suc, ◌<◌, ◌≤◌, Bool, true, false, not, List, [], ◌∷◌, length, get_or, sym, refl, ap, ◌∙◌, subst, ap₂, ⊎_elim, arith}
use Rattle.std.proofs.lemmas.Bool.{both_ways, cases_Bool, cases_eq, or_cases, or_parts, not-true, not-false, cond-true, cond-false}
use Rattle.measure.specs.Scale.{Scale, Value, Laws, NoWorse, counts}
use Rattle.network.specs.Told.{covered, told}
use Rattle.network.proofs.Distance.{Distance}
use Rattle.network.proofs.Order.{none_alone_is_as_bad}
use Rattle.network.proofs.Counts.{value_counts}
use Rattle.network.proofs.Cells.{hub_of, cell_at, cell_cases, covered_cell_is_none, none_cell_is_covered}
use Rattle.network.proofs.CellsJoined.{cells_joined, cell_is_a_value, cells_joined_cases, some_cells_cover}

-- two words of two runs, at the same place, joined
abbrev pub joined_at : Scale → List ℕ → List ℕ → ℕ → ℕ
joined_at s bs cs j = s.join (counts s (get_or bs j 0)) (counts s (get_or cs j 0))

-- the test that `covered` makes at one place
abbrev pub worse_at : Scale → ℕ → List ℕ → List ℕ → ℕ → Bool
worse_at s x bs cs j = s.better (counts s x) (counts s (joined_at s bs cs j))

-- the first n words of a run are the cells of v under the first n hubs
abbrev pub AreCells : Scale → (ℕ → ℕ → ℕ) → List ℕ → ℕ → ℕ → List ℕ → Type 0
AreCells s d hubs v n xs = (j : ℕ) → j < n → get_or xs j 0 ≡ cell_at s d hubs v j

module _ (s : Scale) (x : ℕ) where
  -- what is covered is so at some place
  pub covered_somewhere :
      (bs cs : List ℕ) → covered s x bs cs ≡ true
      → (j : ℕ) × (j < length bs) × (j < length cs) × (worse_at s x bs cs j ≡ false)
  covered_somewhere [] cs t = absurd (both_ways false refl t)
  covered_somewhere (b ∷ bs) [] t = absurd (both_ways false refl t)
  covered_somewhere (b ∷ bs) (c ∷ cs) t =
      ⊎_elim (λ h. (zero, omega arith, omega arith, not-true (worse_at s x (b ∷ bs) (c ∷ cs) zero) h))
      (λ h. let r = covered_somewhere bs cs h in (suc r.0, omega arith, omega arith, r.3))
      (or_cases (not (worse_at s x (b ∷ bs) (c ∷ cs) zero)) (covered s x bs cs) t)

  -- what is not covered is so at no place
  pub covered_nowhere :
      (bs cs : List ℕ) → covered s x bs cs ≡ false → (j : ℕ) → j < length bs → j < length cs → worse_at s x bs cs j ≡ true
  covered_nowhere [] cs f j h k = absurd (omega arith)
  covered_nowhere (b ∷ bs) [] f j h k = absurd (omega arith)
  covered_nowhere (b ∷ bs) (c ∷ cs) f zero h k =
      not-false (worse_at s x (b ∷ bs) (c ∷ cs) zero)
      (or_parts (not (worse_at s x (b ∷ bs) (c ∷ cs) zero)) (covered s x bs cs) f).0
  covered_nowhere (b ∷ bs) (c ∷ cs) f (suc j) h k =
      covered_nowhere bs cs (or_parts (not (worse_at s x (b ∷ bs) (c ∷ cs) zero)) (covered s x bs cs) f).1 j (omega arith) (omega arith)

module _ (s : Scale) (laws : Laws s) (d : ℕ → ℕ → ℕ) (dist : Distance s d) (hubs : List ℕ) where
  pub cells_joined_are_a_value : (u v j : ℕ) → j < length hubs → Value s (cells_joined s d hubs u v j)
  cells_joined_are_a_value u v j low =
      laws.join_is_a_value (cell_at s d hubs u j) (cell_at s d hubs v j)
      (cell_is_a_value s laws d dist hubs u j low) (cell_is_a_value s laws d dist hubs v j low)

  module _ (u v n : ℕ) (bs cs : List ℕ) (few : n ≤ length hubs)
      (of_u : AreCells s d hubs u n bs) (of_v : AreCells s d hubs v n cs) where
    -- two words that are cells, joined, are the two cells joined
    pub joined_at_is : (j : ℕ) → j < n → joined_at s bs cs j ≡ cells_joined s d hubs u v j
    joined_at_is j low =
        let k : j < length hubs = omega arith in
        ap₂ s.join
        (ap (counts s) (of_u j low) ∙ value_counts s (cell_at s d hubs u j) (cell_is_a_value s laws d dist hubs u j k))
        (ap (counts s) (of_v j low) ∙ value_counts s (cell_at s d hubs v j) (cell_is_a_value s laws d dist hubs v j k))

    -- the test of a value against two cells
    pub worse_at_is : (x j : ℕ) → Value s x → j < n → worse_at s x bs cs j ≡ s.better x (cells_joined s d hubs u v j)
    worse_at_is x j value low =
        ap₂ s.better (value_counts s x value)
        (ap (counts s) (joined_at_is j low)
        ∙ value_counts s (cells_joined s d hubs u v j) (cells_joined_are_a_value u v j (omega arith)))

  module _ (i v : ℕ) (bs cs : List ℕ) (low : i < length hubs) (length_bs : length bs ≡ i) (length_cs : length cs ≡ i)
      (of_hub : AreCells s d hubs (hub_of hubs i) i bs) (of_v : AreCells s d hubs v i cs) where
    -- where a place covers the value, the cell is none
    covered_is_none : covered s (d (hub_of hubs i) v) bs cs ≡ true → cell_at s d hubs v i ≡ s.none
    covered_is_none t =
        let b : ℕ = hub_of hubs i in
        let r = covered_somewhere s (d b v) bs cs t in
        let j : ℕ = r.0 in
        let few : j < i = omega arith in
        let value : Value s (d b v) = dist.is_a_value b v in
        let as_good : NoWorse s (cells_joined s d hubs b v j) (d b v) =
        sym (worse_at_is b v i bs cs (omega arith) of_hub of_v (d b v) j value few) ∙ r.3 in
        ⊎_elim
        (λ z.
        let none : d b v ≡ s.none = none_alone_is_as_bad s laws (d b v) value (subst (λ y. NoWorse s y (d b v)) z as_good) in
        ⊎_elim (λ h. absurd (h.0.reached none)) (λ e. e) (cell_cases s d hubs v i low))
        (λ way. covered_cell_is_none s d hubs v i low j few (subst (λ y. NoWorse s y (d b v)) way as_good))
        (cells_joined_cases s laws d dist hubs b v j (omega arith))

    -- where none does, the cell is the value
    uncovered_is_the_value : covered s (d (hub_of hubs i) v) bs cs ≡ false → cell_at s d hubs v i ≡ d (hub_of hubs i) v
    uncovered_is_the_value f =
        let b : ℕ = hub_of hubs i in
        ⊎_elim (λ h. h.1)
        (λ z. ⊎_elim (λ none. z ∙ sym none)
        (λ ne. ⊎_elim (λ none. absurd (ne none))
        (λ c.
        let k = some_cells_cover s laws d dist hubs b v i c.0 (omega arith) ne c.1 c.2 in
        let worse : s.better (d b v) (cells_joined s d hubs b v k.0) ≡ true =
        sym (worse_at_is b v i bs cs (omega arith) of_hub of_v (d b v) k.0 (dist.is_a_value b v) k.1)
        ∙ covered_nowhere s (d b v) bs cs f k.0 (omega arith) (omega arith) in
        absurd (both_ways (s.better (d b v) (cells_joined s d hubs b v k.0)) k.2 worse))
        (none_cell_is_covered s d hubs v i low z))
        (cases_eq (d b v) s.none))
        (cell_cases s d hubs v i low)

    -- what is told from the cells of v and of a hub under all earlier hubs is v's cell under that hub
    pub told_is_the_cell : (x : ℕ) → x ≡ d (hub_of hubs i) v → told s x bs cs ≡ cell_at s d hubs v i
    told_is_the_cell x e =
        let y : ℕ = d (hub_of hubs i) v in
        ap (λ z. told s z bs cs) e
        ∙ ⊎_elim
        (λ t. cond-true (covered s y bs cs) s.none y t ∙ sym (covered_is_none t))
        (λ f. cond-false (covered s y bs cs) s.none y f ∙ sym (uncovered_is_the_value f))
        (cases_Bool (covered s y bs cs))
