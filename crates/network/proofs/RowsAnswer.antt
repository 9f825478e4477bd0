-- What border rows and district rows give, from what best values are. Assumes nothing.
use Rattle.std.proofs.Common.{◌≡◌, ℕ, ◌<◌, List, length, get_or, Some, None, Option, sym, refl, ap, ◌∙◌, subst, inl, inr, ⊎_elim}
use Rattle.std.proofs.lemmas.Bool.{cases_eq}
use Rattle.measure.specs.Scale.{Scale, Laws}
use Rattle.network.specs.Lists.{In}
use Rattle.network.specs.Networks.{Network, Junction, district, arcs, best}
use Rattle.network.specs.Labels.{Entry, row, meet, struck}
use Rattle.network.specs.Rows.{border_row, district_best, members, district_row}
use Rattle.network.specs.Theorems.{NoWalk, Answers, BorderRowsAnswer, FallsShort, EveryEntryIsNeeded, CellsFollowFromEntries, RowsAscend}
use Rattle.network.proofs.Distance.{Distance, WalkDistance}
use Rattle.network.proofs.Lists.{all_from_in, rank_of}
use Rattle.network.proofs.Order.{equal_is_no_worse}
use Rattle.network.proofs.Cells.{Covers}
use Rattle.network.proofs.RowRanks.{Rises}
use Rattle.network.proofs.RowEntries.{in_row, row_is_proper, row_ascends}
use Rattle.network.proofs.RowsJoined.{Gives, NoneOrCovered}
use Rattle.network.proofs.TwoWayRows.{two_rows_give, entry_is_needed, looking_up_is_enough}
use Rattle.network.proofs.Members.{members_rise, member_is_inside, rank_of_member}

-- best values between junctions of two districts go by a junction of the order
abbrev pub OrderCovers : Scale → Network → List ℕ → Type 0
OrderCovers s net order =
    (u v : ℕ) → (best s net u v ≡ s.none → ⊥) → (district net u ≡ district net v → ⊥)
    → (b : ℕ) × In b order × Covers s (best s net) u v b

-- inside a district, its own best values are those of the whole network
abbrev pub DistrictAgrees : Scale → Network → Type 0
DistrictAgrees s net =
    (k u v : ℕ) → Junction net u → Junction net v → district net u ≡ k → district net v ≡ k
    → district_best s net k u v ≡ best s net u v

ranks_rise : (n : ℕ) → Rises (λ i. i) n
ranks_rise n i j h k = h

-- what gives the best value answers
pub giving_answers :
    (s : Scale) (net : Network) → WalkDistance s (arcs net) (best s net)
    → ((u v : ℕ) → best s net u v ≡ s.none → NoWalk net u v)
    → (u v : ℕ) (m : Option Entry) → Gives s (best s net u v) m → Answers s net u v m
giving_answers s net walks no_walk u v None g = no_walk u v g
giving_answers s net walks no_walk u v (Some e) g = (
  ⊎_elim (λ z. absurd (g.1 z)) (λ w. (w.0, w.1, w.2 ∙ sym g.0)) (walks.reached u v),
  λ y w. rw (g.0, ← w.2) (walks.no_walk_is_better u v w.0 w.1),
)

module _ (s : Scale) (laws : Laws s) (net : Network) (order : List ℕ) (dist : Distance s (best s net)) where
  pub border_rows_answer_lem :
      WalkDistance s (arcs net) (best s net) → ((u v : ℕ) → best s net u v ≡ s.none → NoWalk net u v)
      → OrderCovers s net order → BorderRowsAnswer s net order
  border_rows_answer_lem walks no_walk covers u v ju jv apart =
      giving_answers s net walks no_walk u v (meet s (border_row s net order u) (border_row s net order v))
      (two_rows_give s laws (best s net) dist (λ i. i) order (ranks_rise (length order)) u v covered)
    where
      covered : NoneOrCovered s (best s net) order u v
      covered =
          ⊎_elim inl
          (λ ne.
          let c = covers u v ne apart in
          let r = rank_of 0 c.0 order c.1 in
          inr (r.0, r.1, subst (Covers s (best s net) u v) (sym r.2) c.2))
          (cases_eq (best s net u v) s.none)

  pub border_entry_is_needed :
      (v : ℕ) (e : Entry) → In e (border_row s net order v)
      → FallsShort s (best s net (get_or order e.hub 0) v)
      (meet s (struck e.hub (border_row s net order v)) (border_row s net order (get_or order e.hub 0)))
  border_entry_is_needed v e h =
      let r = in_row s (best s net) (λ i. i) order v e h in
      subst
      (λ i. FallsShort s (best s net (get_or order i 0) v)
      (meet s (struck e.hub (border_row s net order v)) (border_row s net order (get_or order i 0))))
      (sym r.hub_is)
      (entry_is_needed s laws (best s net) dist (λ i. i) order (ranks_rise (length order)) v e r)

module _ (s : Scale) (net : Network) (k v : ℕ) (inside : district net v ≡ k) where
  -- the district row of a junction of district k
  pub district_row_at :
      district_row s net v ≡ row s (district_best s net k) (λ i. get_or (members net k) i 0) (members net k) v
  district_row_at =
      ap (λ (x : ℕ). row s (district_best s net x) (λ i. get_or (members net x) i 0) (members net x) v) inside

module _ (s : Scale) (laws : Laws s) (net : Network) (dist : (k : ℕ) → Distance s (district_best s net k))
    (agrees : DistrictAgrees s net) where
  -- a junction of the district covers every way from itself
  junction_covers : (k u v : ℕ) → Junction net u → district net u ≡ k → NoneOrCovered s (district_best s net k) (members net k) u v
  junction_covers k u v ju e =
      let d : ℕ → ℕ → ℕ = district_best s net k in
      let r = rank_of_member net k u ju e in
      let same : s.join (d u u) (d u v) ≡ d u v =
      ap (λ x. s.join x (d u v)) ((dist k).home u) ∙ laws.start_changes_nothing (d u v) ((dist k).is_a_value u v) in
      let value = laws.join_is_a_value (d u u) (d u v) ((dist k).is_a_value u u) ((dist k).is_a_value u v) in
      inr (r.0, r.1, subst (Covers s d u v) (sym r.2) (equal_is_no_worse s laws (s.join (d u u) (d u v)) (d u v) value same))

  pub district_rows_joined :
      WalkDistance s (arcs net) (best s net) → ((u v : ℕ) → best s net u v ≡ s.none → NoWalk net u v)
      → (u v : ℕ) → Junction net u → Junction net v → district net u ≡ district net v
      → Answers s net u v (meet s (district_row s net u) (district_row s net v))
  district_rows_joined walks no_walk u v ju jv e =
      let k : ℕ = district net v in
      giving_answers s net walks no_walk u v (meet s (district_row s net u) (district_row s net v))
      (subst (λ x. Gives s x (meet s (district_row s net u) (district_row s net v))) (agrees k u v ju jv e refl)
      (subst (λ p. Gives s (district_best s net k u v) (meet s p (district_row s net v))) (sym (district_row_at s net k u e))
      (two_rows_give s laws (district_best s net k) (dist k) (λ i. get_or (members net k) i 0) (members net k) (members_rise net k) u v
      (junction_covers k u v ju e))))

  pub district_entry_is_needed :
      (v : ℕ) (e : Entry) → Junction net v → In e (district_row s net v)
      → FallsShort s (best s net e.hub v) (meet s (struck e.hub (district_row s net v)) (district_row s net e.hub))
  district_entry_is_needed v e jv h =
      let k : ℕ = district net v in
      let r = in_row s (district_best s net k) (λ i. get_or (members net k) i 0) (members net k) v e h in
      let b : ℕ = get_or (members net k) r.rank 0 in
      let inside = member_is_inside net k r.rank r.below in
      let falls = entry_is_needed s laws (district_best s net k) (dist k) (λ i. get_or (members net k) i 0) (members net k) (members_rise net k) v e r in
      let with_row : FallsShort s (district_best s net k b v) (meet s (struck e.hub (district_row s net v)) (district_row s net b)) =
      subst (λ q. FallsShort s (district_best s net k b v) (meet s (struck e.hub (district_row s net v)) q))
      (sym (district_row_at s net k b inside.1)) falls in
      let with_best : FallsShort s (best s net b v) (meet s (struck e.hub (district_row s net v)) (district_row s net b)) =
      subst (λ x. FallsShort s x (meet s (struck e.hub (district_row s net v)) (district_row s net b)))
      (agrees k b v inside.0 jv inside.1 refl) with_row in
      subst (λ c. FallsShort s (best s net c v) (meet s (struck e.hub (district_row s net v)) (district_row s net c)))
      (sym r.hub_is) with_best

module _ (s : Scale) (laws : Laws s) (net : Network) (order : List ℕ) (dist : Distance s (best s net))
    (district_dist : (k : ℕ) → Distance s (district_best s net k)) where
  pub every_entry_is_needed_lem : DistrictAgrees s net → EveryEntryIsNeeded s net order
  every_entry_is_needed_lem agrees = record {
    in_border_rows = λ v e j h. border_entry_is_needed s laws net order dist v e h;
    in_district_rows = district_entry_is_needed s laws net district_dist agrees;
  }

  pub cells_follow_from_entries_lem : CellsFollowFromEntries s net order
  cells_follow_from_entries_lem = record {
    for_border_cells = λ i v low j.
        looking_up_is_enough s laws (best s net) dist (λ r. r) order (ranks_rise (length order)) (border_row s net order) i v low refl refl;
    for_district_cells = λ i k v low j e.
        looking_up_is_enough s laws (district_best s net k) (district_dist k) (λ r. get_or (members net k) r 0) (members net k)
        (members_rise net k) (district_row s net) i v low
        (district_row_at s net k (get_or (members net k) i 0) (member_is_inside net k i low).1) (district_row_at s net k v e);
  }

  pub rows_ascend_lem : RowsAscend s net order
  rows_ascend_lem = record {
    border_ranks_ascend = λ v. row_ascends s (best s net) (λ i. i) order v (ranks_rise (length order));
    border_ranks_are_below = λ v.
        all_from_in (λ e. e.hub < length order) (border_row s net order v)
        (λ e h. let r = in_row s (best s net) (λ i. i) order v e h in
        subst (λ x. x < length order) (sym r.hub_is) r.below);
    border_values_are_proper = λ v. row_is_proper s (best s net) (λ i. i) order v dist.is_a_value;
    district_hubs_ascend = λ v.
        let k : ℕ = district net v in
        row_ascends s (district_best s net k) (λ i. get_or (members net k) i 0) (members net k) v (members_rise net k);
    district_hubs_are_members = λ v.
        let k : ℕ = district net v in
        all_from_in (λ e. Junction net e.hub × (district net e.hub ≡ k)) (district_row s net v)
        (λ e h. let r = in_row s (district_best s net k) (λ i. get_or (members net k) i 0) (members net k) v e h in
        subst (λ x. Junction net x × (district net x ≡ k)) (sym r.hub_is) (member_is_inside net k r.rank r.below));
    district_values_are_proper = λ v.
        let k : ℕ = district net v in
        row_is_proper s (district_best s net k) (λ i. get_or (members net k) i 0) (members net k) v (district_dist k).is_a_value;
  }
