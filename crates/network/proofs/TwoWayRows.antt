-- Rows over a distance that is the same both ways: what they give, what they need, what tells a cell. Assumes nothing.
use Rattle.std.proofs.Common.{◌≡◌, ℕ, ◌<◌, ◌↔◌, List, length, None, sym, ap, ◌∙◌, subst}
use Rattle.measure.specs.Scale.{Scale, Laws}
use Rattle.network.specs.Labels.{Entry, row, meet, worth_of, struck}
use Rattle.network.specs.Theorems.{FallsShort, LookingUpIsEnough}
use Rattle.network.proofs.Distance.{Distance}
use Rattle.network.proofs.Cells.{hub_of, cell_at, HasEntry, cell_with_entry, cell_not_none_has}
use Rattle.network.proofs.Covering.{directed, turned_round, turned_is_the_same}
use Rattle.network.proofs.RowRanks.{Rises}
use Rattle.network.proofs.RowEntries.{RowEntry}
use Rattle.network.proofs.RowsJoined.{Gives, NoneOrCovered, rows_joined_give, given_worth, given_nothing}
use Rattle.network.proofs.EntriesNeeded.{struck_row_falls_short, shared_earlier_are_worse, entry_from_shared}

module _ (s : Scale) (laws : Laws s) (d : ℕ → ℕ → ℕ) (dist : Distance s d) (name : ℕ → ℕ) (hubs : List ℕ)
    (rises : Rises name (length hubs)) where
  row_turned : (u : ℕ) → row s (turned_round d) name hubs u ≡ row s d name hubs u
  row_turned u = ap (λ (f : ℕ → ℕ → ℕ). row s f name hubs u) (turned_is_the_same s d dist)

  pub two_rows_give :
      (u v : ℕ) → NoneOrCovered s d hubs u v → Gives s (d u v) (meet s (row s d name hubs u) (row s d name hubs v))
  two_rows_give u v covered =
      subst (λ p. Gives s (d u v) (meet s p (row s d name hubs v))) (row_turned u)
      (rows_joined_give s laws d (directed s d dist) name hubs rises u v covered)

  pub two_rows_are_worth :
      (u v : ℕ) → NoneOrCovered s d hubs u v → worth_of s (meet s (row s d name hubs u) (row s d name hubs v)) ≡ d u v
  two_rows_are_worth u v covered =
      given_worth s (d u v) (meet s (row s d name hubs u) (row s d name hubs v)) (two_rows_give u v covered)

  pub two_rows_give_nothing :
      (u v : ℕ) → NoneOrCovered s d hubs u v → (meet s (row s d name hubs u) (row s d name hubs v) ≡ None) ↔ (d u v ≡ s.none)
  two_rows_give_nothing u v covered =
      given_nothing s (d u v) (meet s (row s d name hubs u) (row s d name hubs v)) (two_rows_give u v covered)

  pub entry_is_needed :
      (v : ℕ) (e : Entry) (r : RowEntry s d name hubs v e)
      → FallsShort s (d (hub_of hubs r.rank) v)
      (meet s (struck e.hub (row s d name hubs v)) (row s d name hubs (hub_of hubs r.rank)))
  entry_is_needed v e r =
      subst (λ q. FallsShort s (d (hub_of hubs r.rank) v) (meet s (struck e.hub (row s d name hubs v)) q))
      (row_turned (hub_of hubs r.rank))
      (struck_row_falls_short s laws d (directed s d dist) name hubs rises v e r)

  -- `rows` need have only the rows of v and of the hub
  pub looking_up_is_enough :
      (rows : ℕ → List Entry) (i v : ℕ) → i < length hubs → rows (hub_of hubs i) ≡ row s d name hubs (hub_of hubs i)
      → rows v ≡ row s d name hubs v → LookingUpIsEnough s d rows name i (hub_of hubs i) v (cell_at s d hubs v i)
  looking_up_is_enough rows i v low of_b of_v =
      let b : ℕ = hub_of hubs i in
      let from_b : rows b ≡ row s (turned_round d) name hubs b = of_b ∙ sym (row_turned b) in
      record {
        entries_are_told = λ ne.
            let has = (cell_not_none_has s d hubs v i low ne).0 in
            record {
              reached = has.reached;
              earlier_are_worse =
                  rw (from_b, of_v) (shared_earlier_are_worse s laws d (directed s d dist) name hubs rises v i low has);
            };
        told_are_entries = λ told.
            let has : HasEntry s d hubs v i =
            entry_from_shared s laws d (directed s d dist) name hubs rises v i low told.reached
            (rw (from_b, of_v) at told.earlier_are_worse) in
            let same = cell_with_entry s d hubs v i low has in
            (same, λ z. has.reached (sym same ∙ z));
      }
