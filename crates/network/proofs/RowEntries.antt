-- The entries of a row over any distance and any list of hubs. Assumes nothing.
use Rattle.std.proofs.Common.{◌≡◌, ℕ, ◌<◌, ◌⊎◌, List, length, sym, ◌∙◌, subst, inl, inr, ⊎_elim, arith}
use Rattle.std.specs.List.{AllByRecursion}
use Rattle.std.proofs.ByRecursion.{All-weaker}
use Rattle.measure.specs.Scale.{Scale, Value}
use Rattle.network.specs.Lists.{In}
use Rattle.network.specs.Labels.{Entry, entry, row, value_at, Ascends}
use Rattle.network.specs.Theorems.{Proper}
use Rattle.network.proofs.Lists.{all_from_in}
use Rattle.network.proofs.Cells.{hub_of, cell_at, HasEntry, cell_with_entry, cell_cases, cell_not_none_has}
use Rattle.network.proofs.RowRanks.{collected, Rises, in_collected, rank_has_entry, value_under_rank, collected_ascends, row_is_collected}
use Rattle.network.proofs.Meeting.{AllValues}

-- what an entry of v's row is: under the name of a rank, with the value from that rank's hub
pub record RowEntry (s : Scale) (d : ℕ → ℕ → ℕ) (name : ℕ → ℕ) (hubs : List ℕ) (v : ℕ) (e : Entry) : Type 0 where
  pub rank : ℕ
  pub below : rank < length hubs
  pub hub_is : e.hub ≡ name rank
  pub worth_is : e.worth ≡ d (hub_of hubs rank) v
  pub has_entry : HasEntry s d hubs v rank

module _ (s : Scale) (d : ℕ → ℕ → ℕ) (name : ℕ → ℕ) (hubs : List ℕ) (v : ℕ) where
  pub in_row : (e : Entry) → In e (row s d name hubs v) → RowEntry s d name hubs v e
  in_row e h =
      let r = in_collected s name (cell_at s d hubs v) e 0 (length hubs) (subst (In e) (row_is_collected s d name hubs v) h) in
      let low : r.rank < length hubs = omega arith in
      let has = cell_not_none_has s d hubs v r.rank low r.is_not_none in
      record {
        rank = r.rank;
        below = low;
        hub_is = r.hub_is;
        worth_is = r.worth_is ∙ has.1;
        has_entry = has.0;
      }

  pub entry_in_row :
      (i : ℕ) → i < length hubs → HasEntry s d hubs v i → In (entry (name i) (d (hub_of hubs i) v)) (row s d name hubs v)
  entry_in_row i low has =
      let e = cell_with_entry s d hubs v i low has in
      let there : In (entry (name i) (cell_at s d hubs v i)) (collected s name (cell_at s d hubs v) 0 (length hubs)) =
      rank_has_entry s name (cell_at s d hubs v) 0 (length hubs) i (omega arith) (omega arith)
      (λ z. has.reached (sym e ∙ z)) in
      subst (λ x. In (entry (name i) x) (row s d name hubs v)) e
      (subst (In (entry (name i) (cell_at s d hubs v i))) (sym (row_is_collected s d name hubs v)) there)

  -- with the values of d, a row's values are values other than none
  pub row_is_proper : ((u w : ℕ) → Value s (d u w)) → AllByRecursion (λ e. Proper s e.worth) (row s d name hubs v)
  row_is_proper value =
      all_from_in (λ e. Proper s e.worth) (row s d name hubs v)
      (λ e h. let r = in_row e h in
      (subst (Value s) (sym r.worth_is) (value (hub_of hubs r.rank) v), λ z. r.has_entry.reached (sym r.worth_is ∙ z)))

  pub row_has_values : ((u w : ℕ) → Value s (d u w)) → AllValues s (row s d name hubs v)
  row_has_values value =
      All-weaker (λ e. Proper s e.worth) (λ e. Value s e.worth) (λ e p. p.0) (row s d name hubs v) (row_is_proper value)

  module _ (rises : Rises name (length hubs)) where
    pub value_under_name : (i : ℕ) → i < length hubs → value_at s (row s d name hubs v) (name i) ≡ cell_at s d hubs v i
    value_under_name i low =
        subst (λ es. value_at s es (name i) ≡ cell_at s d hubs v i) (sym (row_is_collected s d name hubs v))
        (value_under_rank s name (cell_at s d hubs v) (length hubs) rises 0 (length hubs) i (omega arith) (omega arith) (omega arith))

    -- under a hub's name a row has the value from the hub, with an entry, or none
    pub value_under_name_cases :
        (i : ℕ) → i < length hubs
        → (HasEntry s d hubs v i × (value_at s (row s d name hubs v) (name i) ≡ d (hub_of hubs i) v))
        ⊎ (value_at s (row s d name hubs v) (name i) ≡ s.none)
    value_under_name_cases i low =
        ⊎_elim (λ h. inl (h.0, value_under_name i low ∙ h.1)) (λ z. inr (value_under_name i low ∙ z))
        (cell_cases s d hubs v i low)

    pub value_of_entry : (i : ℕ) → i < length hubs → HasEntry s d hubs v i → value_at s (row s d name hubs v) (name i) ≡ d (hub_of hubs i) v
    value_of_entry i low has = value_under_name i low ∙ cell_with_entry s d hubs v i low has

    pub row_ascends : Ascends (row s d name hubs v)
    row_ascends =
        subst Ascends (sym (row_is_collected s d name hubs v))
        (collected_ascends s name (cell_at s d hubs v) (length hubs) rises 0 (length hubs) (omega arith))
