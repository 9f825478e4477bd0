-- What border rows and district rows give, for every network that a book may be made of. Assumes nothing.
use Rattle.std.proofs.Common.{ℕ, List}
use Rattle.measure.specs.Scale.{Scale, Laws}
use Rattle.network.specs.Networks.{Network, BorderOrder}
use Rattle.network.specs.Theorems.{Allowed, BorderRowsAnswer, DistrictRowsAnswer, EveryEntryIsNeeded, CellsFollowFromEntries, RowsAscend}
use Rattle.network.proofs.WellDefined.{best_distance, best_walks, no_walk_where_none}
use Rattle.network.proofs.Districts.{district_distance, district_best_is_best, some_border_covers}
use Rattle.network.proofs.RowsAnswer as rows

module _ (s : Scale) (laws : Laws s) (net : Network) where
  pub border_rows_answer_lem : (order : List ℕ) → Allowed s net → BorderOrder net order → BorderRowsAnswer s net order
  border_rows_answer_lem order allowed is_order =
      rows.border_rows_answer_lem s laws net order (best_distance s laws net allowed) (best_walks s laws net allowed)
      (no_walk_where_none s laws net allowed) (some_border_covers s laws net allowed order is_order)

  agrees : Allowed s net → rows.DistrictAgrees s net
  agrees allowed k u v u_junction v_junction u_is_here v_is_here =
      (district_best_is_best s laws net allowed k u v u_junction v_junction u_is_here v_is_here).1

  pub district_rows_answer_lem : Allowed s net → DistrictRowsAnswer s net
  district_rows_answer_lem allowed = record {
    district_best_is_best = district_best_is_best s laws net allowed;
    district_rows_joined =
        rows.district_rows_joined s laws net (district_distance s laws net allowed) (agrees allowed)
        (best_walks s laws net allowed) (no_walk_where_none s laws net allowed);
  }

  module _ (order : List ℕ) (allowed : Allowed s net) where
    pub every_entry_is_needed_lem : EveryEntryIsNeeded s net order
    every_entry_is_needed_lem =
        rows.every_entry_is_needed_lem s laws net order (best_distance s laws net allowed) (district_distance s laws net allowed) (agrees allowed)

    pub cells_follow_from_entries_lem : CellsFollowFromEntries s net order
    cells_follow_from_entries_lem =
        rows.cells_follow_from_entries_lem s laws net order (best_distance s laws net allowed) (district_distance s laws net allowed)

    pub rows_ascend_lem : RowsAscend s net order
    rows_ascend_lem = rows.rows_ascend_lem s laws net order (best_distance s laws net allowed) (district_distance s laws net allowed)
