-- The cells of two junctions under the same hub, joined. Assumes nothing.
use Rattle.std.proofs.Common.{◌≡◌, ℕ, ◌<◌, ◌≤◌, ◌⊎◌, List, length, sym, ap, ◌∙◌, subst, ap₂, inl, inr, ⊎_elim, arith}
use Rattle.measure.specs.Scale.{Scale, Value, Laws, NoWorse}
use Rattle.network.proofs.Distance.{Distance}
use Rattle.network.proofs.Order.{none_stays_none_behind}
use Rattle.network.proofs.Cells.{Covers, hub_of, cell_at, HasEntry, cell_with_entry, cell_cases}
use Rattle.network.proofs.Covering.{directed, turned_is_the_same, SharedCover, cover_is_shared}

-- the cells of u and of v under the hub of rank i, joined
abbrev pub cells_joined : Scale → (ℕ → ℕ → ℕ) → List ℕ → ℕ → ℕ → ℕ → ℕ
cells_joined s d hubs u v i = s.join (cell_at s d hubs u i) (cell_at s d hubs v i)

-- the way from u to v by the hub of rank i
abbrev pub way_by : Scale → (ℕ → ℕ → ℕ) → List ℕ → ℕ → ℕ → ℕ → ℕ
way_by s d hubs u v i = s.join (d u (hub_of hubs i)) (d (hub_of hubs i) v)

module _ (s : Scale) (laws : Laws s) (d : ℕ → ℕ → ℕ) (dist : Distance s d) (hubs : List ℕ) where
  pub cell_is_a_value : (v i : ℕ) → i < length hubs → Value s (cell_at s d hubs v i)
  cell_is_a_value v i low =
      ⊎_elim (λ h. subst (Value s) (sym h.1) (dist.is_a_value (hub_of hubs i) v))
      (λ z. subst (Value s) (sym z) laws.none_is_a_value)
      (cell_cases s d hubs v i low)

  module _ (u v : ℕ) where
    -- two entries joined are the way by their hub
    pub entries_joined :
        (i : ℕ) → i < length hubs → HasEntry s d hubs u i → HasEntry s d hubs v i
        → cells_joined s d hubs u v i ≡ way_by s d hubs u v i
    entries_joined i low at_u at_v =
        ap₂ s.join (cell_with_entry s d hubs u i low at_u ∙ dist.both_ways (hub_of hubs i) u)
        (cell_with_entry s d hubs v i low at_v)

    -- two cells joined are none, or the way by their hub
    pub cells_joined_cases :
        (i : ℕ) → i < length hubs
        → (cells_joined s d hubs u v i ≡ s.none) ⊎ (cells_joined s d hubs u v i ≡ way_by s d hubs u v i)
    cells_joined_cases i low =
        let b : ℕ = cell_at s d hubs u i in
        let c : ℕ = cell_at s d hubs v i in
        ⊎_elim
        (λ at_u. ⊎_elim
        (λ at_v. inr (entries_joined i low at_u.0 at_v.0))
        (λ z. inl (ap (s.join b) z ∙ none_stays_none_behind s laws b (cell_is_a_value u i low)))
        (cell_cases s d hubs v i low))
        (λ z. inl (ap (λ x. s.join x c) z ∙ laws.none_stays_none c (cell_is_a_value v i low)))
        (cell_cases s d hubs u i low)

    -- where one of the first n hubs covers u and v, the cells under one of them, joined, are as good as d has it
    pub some_cells_cover :
        (n i : ℕ) → n ≤ length hubs → (d u v ≡ s.none → ⊥) → i < n → Covers s d u v (hub_of hubs i)
        → (j : ℕ) × (j < n) × NoWorse s (cells_joined s d hubs u v j) (d u v)
    some_cells_cover n i few ne low c = at_cover (cover_is_shared s laws d (directed s d dist) hubs n u v i ne low c)
      where
        at_cover : SharedCover s d hubs n u v → (j : ℕ) × (j < n) × NoWorse s (cells_joined s d hubs u v j) (d u v)
        at_cover k =
            let at_u : HasEntry s d hubs u k.rank =
            subst (λ (f : ℕ → ℕ → ℕ). HasEntry s f hubs u k.rank) (turned_is_the_same s d dist) k.from_u in
            (k.rank, k.below, rw (entries_joined k.rank (omega arith) at_u k.to_v) k.covers)
