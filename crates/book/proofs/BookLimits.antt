-- How many borders, border entries and district entries a network has at most, and the rows of all junctions by number.
-- Assumes nothing.
use Rattle.std.proofs.Common.{◌≡◌, ℕ, zero, suc, ◌+◌, ◌*◌, ◌<◌, ◌≤◌, true, List, [], ◌∷◌, map, length, get_or, refl, ap, ◌∙◌, subst, inl, inr, arith}
use lib.ListN.{length-map}
use Rattle.std.specs.List.{AllByRecursion}
use Rattle.std.proofs.lemmas.List.{get_or-map}
use Rattle.std.proofs.ByRecursion.{All-map}
use Rattle.measure.specs.Scale.{Scale}
use Rattle.network.specs.Lists.{In, Distinct, count_up}
use Rattle.network.specs.Networks.{Network, Junction, Sound, district, is_border, BorderOrder}
use Rattle.network.specs.Labels.{Entry}
use Rattle.network.specs.Rows.{border_row, district_row}
use Rattle.network.proofs.Lists.{all_in, all_from_in, without, in_without, without_is_shorter, length_count_up}
use Rattle.network.proofs.NetworkArcs.{junction_is_counted}
use Rattle.network.proofs.DistrictArcs.{border_is_a_junction}
use Rattle.network.proofs.RowLengths.{border_row_is_no_longer, district_row_is_no_longer, members_are_no_more}
use Rattle.book.specs.Words.{border_rows, district_rows, all_entries}
use Rattle.book.proofs.RowOffsets.{entries_are_at_most}

-- numbers that are distinct and all stand in another list are no more than it has
pub distinct_are_no_more : (xs ys : List ℕ) → Distinct xs → ((x : ℕ) → In x xs → In x ys) → length xs ≤ length ys
distinct_are_no_more [] ys d inside = omega arith
distinct_are_no_more (x ∷ xs) ys (other, d) inside =
    let fewer : length (without x ys) < length ys = without_is_shorter x ys (inside x (inl refl)) in
    let ih : length xs ≤ length (without x ys) =
    distinct_are_no_more xs (without x ys) d
    (λ y i. in_without x y ys (λ e. other (subst (λ z. In z xs) e i)) (inside y (inr i))) in
    omega arith

module _ (s : Scale) (net : Network) (sound : Sound s net) (order : List ℕ) (is_order : BorderOrder net order) where
  pub order_has_junctions : AllByRecursion (Junction net) order
  order_has_junctions =
      all_from_in (Junction net) order
      (λ v i. border_is_a_junction s net sound v (all_in (λ x. is_border net x ≡ true) v order is_order.holds_borders_alone i))

  pub order_is_no_longer : length order ≤ net.junctions
  order_is_no_longer =
      omega (
        arith,
        length_count_up 1 net.junctions,
        distinct_are_no_more order (count_up 1 net.junctions) is_order.holds_none_twice
            (λ v i. junction_is_counted net v (all_in (Junction net) v order order_has_junctions i)),
      )

-- The rows of junctions 1 to n.

getD_count_up : (a k i : ℕ) → i < k → get_or (count_up a k) i 0 ≡ a + i
getD_count_up a zero i l = absurd (omega arith)
getD_count_up a (suc k) zero l = omega arith
getD_count_up a (suc k) (suc i) l = let ih = getD_count_up (suc a) k i (omega arith) in omega arith

module _ (f : ℕ → List Entry) (n : ℕ) where
  pub as_many_rows_as_junctions : length (map f (count_up 1 n)) ≡ n
  as_many_rows_as_junctions = length-map (count_up 1 n) f ∙ length_count_up 1 n

  -- row number i, from 0, is that of junction i + 1
  pub row_by_number : (i : ℕ) → i < n → get_or (map f (count_up 1 n)) i [] ≡ f (suc i)
  row_by_number i l =
      let is : get_or (count_up 1 n) i 0 ≡ suc i = omega (arith, getD_count_up 1 n i l) in
      get_or-map f (count_up 1 n) i 0 [] (omega (arith, length_count_up 1 n)) ∙ ap f is

  pub entries_of_rows_are_at_most : (m : ℕ) → ((v : ℕ) → length (f v) ≤ m) → length (all_entries (map f (count_up 1 n))) ≤ n * m
  entries_of_rows_are_at_most m short =
      subst (λ k. length (all_entries (map f (count_up 1 n))) ≤ k * m) as_many_rows_as_junctions
      (entries_are_at_most m (map f (count_up 1 n))
      (All-map (λ r. length r ≤ m) f (count_up 1 n) (all_from_in (λ v. length (f v) ≤ m) (count_up 1 n) (λ v i. short v))))

module _ (s : Scale) (net : Network) where
  pub border_entries_are_few : (order : List ℕ) → length (all_entries (border_rows s net order)) ≤ net.junctions * length order
  border_entries_are_few order =
      entries_of_rows_are_at_most (border_row s net order) net.junctions (length order) (border_row_is_no_longer s net order)

  pub district_entries_are_few : length (all_entries (district_rows s net)) ≤ net.junctions * net.junctions
  district_entries_are_few =
      entries_of_rows_are_at_most (district_row s net) net.junctions net.junctions
      (λ v. omega (arith, district_row_is_no_longer s net v, members_are_no_more net (district net v)))
