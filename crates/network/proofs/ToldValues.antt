-- Two rows of cells joined hub by hub give the distance. Assumes nothing.
use Rattle.std.proofs.Common.{◌≡◌, ℕ, zero, suc, ◌<◌, ◌⊎◌, List, [], ◌∷◌, length, get_or, sym, refl, ap, ◌∙◌, subst, inl, inr, ⊎_elim, arith}
use Rattle.std.proofs.lemmas.Bool.{cases_eq}
use Rattle.measure.specs.Scale.{Scale, Value, Laws, NoWorse, counts}
use Rattle.network.specs.Walks.{pick}
use Rattle.network.specs.Told.{best_joined}
use Rattle.network.proofs.Distance.{Distance}
use Rattle.network.proofs.Order.{no_worse_than_itself, equal_is_no_worse, start_changes_nothing_behind, pick_is_one, pick_is_a_value, pick_is_no_worse_than_the_first, pick_is_no_worse_than_the_second}
use Rattle.network.proofs.Counts.{value_counts, counts_is_a_value}
use Rattle.network.proofs.Cells.{Covers, hub_of}
use Rattle.network.proofs.CellsJoined.{cells_joined, cells_joined_cases, some_cells_cover}
use Rattle.network.proofs.ToldCells.{joined_at, AreCells, cells_joined_are_a_value, joined_at_is}

-- y is the best of x and of two runs of words joined place by place
pub record BestJoined (s : Scale) (x : ℕ) (bs cs : List ℕ) (y : ℕ) : Type 0 where
  pub is_one : (y ≡ x) ⊎ ((j : ℕ) × (j < length bs) × (j < length cs) × (y ≡ joined_at s bs cs j))
  pub is_a_value : Value s y
  pub no_worse_than_the_first : NoWorse s y x
  pub no_worse_than_any : (j : ℕ) → j < length bs → j < length cs → NoWorse s y (joined_at s bs cs j)

module _ (s : Scale) (laws : Laws s) where
  joined_at_is_a_value : (bs cs : List ℕ) (j : ℕ) → Value s (joined_at s bs cs j)
  joined_at_is_a_value bs cs j =
      laws.join_is_a_value (counts s (get_or bs j 0)) (counts s (get_or cs j 0))
      (counts_is_a_value s laws (get_or bs j 0)) (counts_is_a_value s laws (get_or cs j 0))

  -- one step picks the better of two values
  step_picks :
      (x b c : ℕ) (bs cs : List ℕ) → Value s x
      → best_joined s x (b ∷ bs) (c ∷ cs) ≡ best_joined s (pick s x (s.join (counts s b) (counts s c))) bs cs
  step_picks x b c bs cs value =
      rw (value_counts s (s.join (counts s b) (counts s c)) (joined_at_is_a_value (b ∷ bs) (c ∷ cs) zero), value_counts s x value)

  -- the best of what was picked and of the rest is the best of all
  best_of_all :
      (x b c y : ℕ) (bs cs : List ℕ) → Value s x → BestJoined s (pick s x (s.join (counts s b) (counts s c))) bs cs y
      → BestJoined s x (b ∷ bs) (c ∷ cs) y
  best_of_all x b c y bs cs value rest = record {
    is_one =
        ⊎_elim
        (λ e. ⊎_elim (λ p. inl (e ∙ p)) (λ p. inr (zero, omega arith, omega arith, e ∙ p)) (pick_is_one s laws x first))
        (λ r. inr (suc r.0, omega arith, omega arith, r.3))
        rest.is_one;
    is_a_value = rest.is_a_value;
    no_worse_than_the_first = by_the_pick x value (pick_is_no_worse_than_the_first s laws x first value is_first);
    no_worse_than_any = at_each;
  }
    where
      first : ℕ
      first = s.join (counts s b) (counts s c)

      is_first : Value s first
      is_first = joined_at_is_a_value (b ∷ bs) (c ∷ cs) zero

      by_the_pick : (z : ℕ) → Value s z → NoWorse s (pick s x first) z → NoWorse s y z
      by_the_pick z is_z =
          laws.order_is_transitive y (pick s x first) z
          rest.is_a_value (pick_is_a_value s laws x first value is_first) is_z rest.no_worse_than_the_first

      at_each : (j : ℕ) → j < length (b ∷ bs) → j < length (c ∷ cs) → NoWorse s y (joined_at s (b ∷ bs) (c ∷ cs) j)
      at_each zero h k = by_the_pick first is_first (pick_is_no_worse_than_the_second s laws x first value is_first)
      at_each (suc j) h k = rest.no_worse_than_any j (omega arith) (omega arith)

  -- `best_joined` computes the best
  pub best_joined_is : (x : ℕ) (bs cs : List ℕ) → Value s x → BestJoined s x bs cs (best_joined s x bs cs)
  best_joined_is x [] cs value = record {
    is_one = inl refl;
    is_a_value = value;
    no_worse_than_the_first = no_worse_than_itself s laws x value;
    no_worse_than_any = λ j h k. absurd (omega arith);
  }
  best_joined_is x (b ∷ bs) [] value = record {
    is_one = inl refl;
    is_a_value = value;
    no_worse_than_the_first = no_worse_than_itself s laws x value;
    no_worse_than_any = λ j h k. absurd (omega arith);
  }
  best_joined_is x (b ∷ bs) (c ∷ cs) value =
      let z : ℕ = s.join (counts s b) (counts s c) in
      let is_z : Value s z = joined_at_is_a_value (b ∷ bs) (c ∷ cs) zero in
      let rest = best_joined_is (pick s x z) bs cs (pick_is_a_value s laws x z value is_z) in
      best_of_all x b c (best_joined s x (b ∷ bs) (c ∷ cs)) bs cs value
      (subst (BestJoined s (pick s x z) bs cs) (sym (step_picks x b c bs cs value)) rest)

  module _ (d : ℕ → ℕ → ℕ) (dist : Distance s d) (hubs : List ℕ) where
    -- a junction covers every way to itself
    pub end_covers : (u b : ℕ) → Covers s d u b b
    end_covers u b =
        let same : s.join (d u b) (d b b) ≡ d u b =
        ap (s.join (d u b)) (dist.home b) ∙ start_changes_nothing_behind s laws (d u b) (dist.is_a_value u b) in
        equal_is_no_worse s laws (s.join (d u b) (d b b)) (d u b)
        (laws.join_is_a_value (d u b) (d b b) (dist.is_a_value u b) (dist.is_a_value b b)) same

    module _ (u v : ℕ) (bs cs : List ℕ) (length_bs : length bs ≡ length hubs) (length_cs : length cs ≡ length hubs)
        (of_u : AreCells s d hubs u (length hubs) bs) (of_v : AreCells s d hubs v (length hubs) cs) where
      joined_is : (j : ℕ) → j < length hubs → joined_at s bs cs j ≡ cells_joined s d hubs u v j
      joined_is = joined_at_is s laws d dist hubs u v (length hubs) bs cs (omega arith) of_u of_v

      -- none and all joined cells are no better than the distance
      not_better : (y : ℕ) → BestJoined s s.none bs cs y → NoWorse s (d u v) y
      not_better y best =
          let worst : y ≡ s.none → NoWorse s (d u v) y = λ z.
          subst (NoWorse s (d u v)) (sym z) (laws.none_is_worst (d u v) (dist.is_a_value u v)) in
          ⊎_elim worst
          (λ r.
          let j : ℕ = r.0 in
          let same : y ≡ cells_joined s d hubs u v j = r.3 ∙ joined_is j (omega arith) in
          ⊎_elim (λ z. worst (same ∙ z))
          (λ way. subst (NoWorse s (d u v)) (sym (same ∙ way)) (dist.triangle u (hub_of hubs j) v))
          (cells_joined_cases s laws d dist hubs u v j (omega arith)))
          best.is_one

      -- where a hub covers u and v, some joined cells are as good as the distance
      as_good :
          (y i : ℕ) → BestJoined s s.none bs cs y → i < length hubs → Covers s d u v (hub_of hubs i) → NoWorse s y (d u v)
      as_good y i best low covers =
          ⊎_elim
          (λ z. subst (NoWorse s y) (sym z) best.no_worse_than_the_first)
          (λ ne.
          let k = some_cells_cover s laws d dist hubs u v (length hubs) i (omega arith) ne low covers in
          let j : ℕ = k.0 in
          laws.order_is_transitive y (cells_joined s d hubs u v j) (d u v)
          best.is_a_value (cells_joined_are_a_value s laws d dist hubs u v j k.1) (dist.is_a_value u v)
          (subst (NoWorse s y) (joined_is j k.1) (best.no_worse_than_any j (omega arith) (omega arith))) k.2)
          (cases_eq (d u v) s.none)

      -- where a hub covers u and v, their cells joined hub by hub give their distance
      pub best_joined_is_covered :
          (i : ℕ) → i < length hubs → Covers s d u v (hub_of hubs i) → best_joined s s.none bs cs ≡ d u v
      best_joined_is_covered i low covers =
          let y : ℕ = best_joined s s.none bs cs in
          let best : BestJoined s s.none bs cs y = best_joined_is s.none bs cs laws.none_is_a_value in
          laws.no_worse_both_ways_is_equal y (d u v) best.is_a_value (dist.is_a_value u v)
          (as_good y i best low covers) (not_better y best)

    -- the cells of a junction and of a hub, joined hub by hub, give their distance
    pub best_joined_is_best :
        (r u : ℕ) (bs cs : List ℕ) → r < length hubs → length bs ≡ length hubs → length cs ≡ length hubs
        → AreCells s d hubs u (length hubs) bs → AreCells s d hubs (hub_of hubs r) (length hubs) cs
        → best_joined s s.none bs cs ≡ d u (hub_of hubs r)
    best_joined_is_best r u bs cs low length_bs length_cs of_u of_b =
        best_joined_is_covered u (hub_of hubs r) bs cs length_bs length_cs of_u of_b r low (end_covers u (hub_of hubs r))
