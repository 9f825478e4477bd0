-- How long rows and lists of junctions are at most. Assumes nothing.
use Rattle.std.proofs.Common.{ℕ, suc, ◌≤◌, Bool, eqb, List, [], ◌∷◌, ◌++◌, length, get_or, filter, arith}
use Rattle.std.proofs.lemmas.Bool.{cond_both}
use Rattle.measure.specs.Scale.{Scale}
use Rattle.network.specs.Lists.{count_up}
use Rattle.network.specs.Networks.{Network, district, best, is_border, borders}
use Rattle.network.specs.Labels.{Entry, entry, cell, row_after, row}
use Rattle.network.specs.Rows.{border_row, district_best, members, district_row}
use Rattle.network.proofs.Lists.{kept_by_is_no_longer, length_count_up}

module _ (s : Scale) (d : ℕ → ℕ → ℕ) (name : ℕ → ℕ) where
  row_after_is_no_longer : (earlier bs : List ℕ) (v : ℕ) → length (row_after s d name earlier bs v) ≤ length bs
  row_after_is_no_longer earlier [] v = omega arith
  row_after_is_no_longer earlier (b ∷ bs) v =
      let later : List Entry = row_after s d name (earlier ++ b ∷ []) bs v in
      let ih : length later ≤ length bs = row_after_is_no_longer (earlier ++ b ∷ []) bs v in
      cond_both (eqb (cell s d earlier b v) s.none) later (entry (name (length earlier)) (cell s d earlier b v) ∷ later)
      (λ es. length es ≤ suc (length bs)) (λ t. omega arith) (λ t. omega arith)

  -- a row has at most one entry for each hub
  pub row_is_no_longer : (hubs : List ℕ) (v : ℕ) → length (row s d name hubs v) ≤ length hubs
  row_is_no_longer hubs v = row_after_is_no_longer [] hubs v

module _ (s : Scale) (net : Network) where
  pub border_row_is_no_longer : (order : List ℕ) (v : ℕ) → length (border_row s net order v) ≤ length order
  border_row_is_no_longer order v = row_is_no_longer s (best s net) (λ i. i) order v

  pub district_row_is_no_longer : (v : ℕ) → length (district_row s net v) ≤ length (members net (district net v))
  district_row_is_no_longer v =
      let k : ℕ = district net v in
      row_is_no_longer s (district_best s net k) (λ i. get_or (members net k) i 0) (members net k) v

module _ (net : Network) where
  kept_junctions_are_no_more : (test : ℕ → Bool) → length (filter test (count_up 1 net.junctions)) ≤ net.junctions
  kept_junctions_are_no_more test =
      omega (arith, kept_by_is_no_longer test (count_up 1 net.junctions), length_count_up 1 net.junctions)

  pub members_are_no_more : (k : ℕ) → length (members net k) ≤ net.junctions
  members_are_no_more k = kept_junctions_are_no_more (λ v. eqb (district net v) k)

  pub borders_are_no_more : length (borders net) ≤ net.junctions
  borders_are_no_more = kept_junctions_are_no_more (is_border net)
