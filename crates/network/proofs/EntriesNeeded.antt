-- Every entry of a row is needed, and a cell can be told from the entries of two rows. Assumes nothing.
use Rattle.std.proofs.Common.{◌≡◌, ℕ, ◌<◌, true, not, eqb, List, length, Some, None, Option, sym, ap, ◌∙◌, subst, ⊎_elim, arith}
use Rattle.std.proofs.lemmas.Bool.{both_ways, cases_Bool, cases_order}
use Rattle.std.proofs.ByRecursion.{all_kept_by}
use Rattle.measure.specs.Scale.{Scale, Value, Laws}
use Rattle.network.specs.Labels.{Entry, worse_by, row, value_at, meet, struck}
use Rattle.network.specs.Theorems.{FallsShort}
use Rattle.network.proofs.Order.{no_worse_than_itself, start_changes_nothing_behind, none_stays_none_behind}
use Rattle.network.proofs.Cells.{hub_of, HasEntry}
use Rattle.network.proofs.Covering.{Directed, turned_round, join_turned, SharedCover, cover_is_shared}
use Rattle.network.proofs.RowRanks.{Rises}
use Rattle.network.proofs.Meeting.{Meets, meets, in_struck}
use Rattle.network.proofs.RowEntries.{RowEntry, in_row, row_has_values, value_under_name_cases, value_of_entry}

-- The row of b has the values from b to the hubs, `turned_round d`, and the row of v those from the hubs to v.
module _ (s : Scale) (laws : Laws s) (d : ℕ → ℕ → ℕ) (dist : Directed s d) (name : ℕ → ℕ) (hubs : List ℕ)
    (rises : Rises name (length hubs)) where
  -- a hub's own row has no entry under a later hub
  pub own_row_ends : (i j : ℕ) → i < j → HasEntry s (turned_round d) hubs (hub_of hubs i) j → ⊥
  own_row_ends i j later has =
      let b : ℕ = hub_of hubs i in
      let x : ℕ = d b (hub_of hubs j) in
      let value = dist.is_a_value b (hub_of hubs j) in
      let same : s.join x (d b b) ≡ x = ap (s.join x) (dist.home b) ∙ start_changes_nothing_behind s laws x value in
      both_ways (s.better x x) (no_worse_than_itself s laws x value)
      (subst (λ y. s.better x y ≡ true) same (has.earlier_are_worse i later))

  module _ (v : ℕ) (e : Entry) (r : RowEntry s d name hubs v e) where
    struck_meeting_falls_short :
        (m : Option Entry)
        → Meets s (struck e.hub (row s d name hubs v)) (row s (turned_round d) name hubs (hub_of hubs r.rank)) m
        → FallsShort s (d (hub_of hubs r.rank) v) m
    struck_meeting_falls_short None h = tt
    struck_meeting_falls_short (Some o) h =
        let b : ℕ = hub_of hubs r.rank in
        let left = in_struck e.hub h.source (row s d name hubs v) h.source_is_there in
        let q = in_row s d name hubs v h.source left.0 in
        let c : ℕ = hub_of hubs q.rank in
        let at_hub : o.worth ≡ s.join (d c v) (value_at s (row s (turned_round d) name hubs b) (name q.rank)) =
        cc (h.worth_is, q.hub_is, q.worth_is) in
        ⊎_elim
        (λ own.
        ⊎_elim
        (λ same. absurd (left.1 (q.hub_is ∙ ap name same ∙ sym r.hub_is)))
        (⊎_elim
        (λ earlier.
        let way : o.worth ≡ s.join (d b c) (d c v) =
        at_hub ∙ ap (s.join (d c v)) own.1 ∙ sym (join_turned s laws d dist b c v) in
        subst (λ y. s.better (d b v) y ≡ true) (sym way) (r.has_entry.earlier_are_worse q.rank earlier))
        (λ later. absurd (own_row_ends r.rank q.rank later own.0)))
        (cases_order q.rank r.rank))
        (λ z. absurd (h.is_not_none
        (at_hub ∙ ap (s.join (d c v)) z ∙ none_stays_none_behind s laws (d c v) (dist.is_a_value c v))))
        (value_under_name_cases s (turned_round d) name hubs b rises q.rank q.below)

    -- without one of its entries, v's row joined with that entry's hub's own row falls short
    pub struck_row_falls_short :
        FallsShort s (d (hub_of hubs r.rank) v)
        (meet s (struck e.hub (row s d name hubs v)) (row s (turned_round d) name hubs (hub_of hubs r.rank)))
    struck_row_falls_short =
        let b : ℕ = hub_of hubs r.rank in
        let p : List Entry = struck e.hub (row s d name hubs v) in
        let q : List Entry = row s (turned_round d) name hubs b in
        struck_meeting_falls_short (meet s p q)
        (meets s laws p q
        (all_kept_by (λ x. not (eqb x.hub e.hub)) (λ x. Value s x.worth) (row s d name hubs v)
        (row_has_values s d name hubs v dist.is_a_value))
        (row_has_values s (turned_round d) name hubs b (λ x y. dist.is_a_value y x)))

  module _ (v i : ℕ) (low : i < length hubs) where
    -- where v has an entry under hub i, each earlier hub with an entry in both rows gives worse
    pub shared_earlier_are_worse :
        HasEntry s d hubs v i → (j : ℕ) → j < i
        → (value_at s (row s (turned_round d) name hubs (hub_of hubs i)) (name j) ≡ s.none → ⊥)
        → (value_at s (row s d name hubs v) (name j) ≡ s.none → ⊥)
        → s.better (d (hub_of hubs i) v)
        (s.join (value_at s (row s (turned_round d) name hubs (hub_of hubs i)) (name j)) (value_at s (row s d name hubs v) (name j)))
        ≡ true
    shared_earlier_are_worse has j earlier ne_b ne_v =
        let b : ℕ = hub_of hubs i in
        let c : ℕ = hub_of hubs j in
        ⊎_elim
        (λ one. ⊎_elim
        (λ two.
        let same : s.join (d b c) (d c v)
        ≡ s.join (value_at s (row s (turned_round d) name hubs b) (name j)) (value_at s (row s d name hubs v) (name j)) =
        cc (one.1, two.1) in
        subst (λ y. s.better (d b v) y ≡ true) same (has.earlier_are_worse j earlier))
        (λ z. absurd (ne_v z))
        (value_under_name_cases s d name hubs v rises j (omega arith)))
        (λ z. absurd (ne_b z))
        (value_under_name_cases s (turned_round d) name hubs b rises j (omega arith))

    -- and where that holds, and the hub reaches v, v has the entry
    pub entry_from_shared :
        (d (hub_of hubs i) v ≡ s.none → ⊥)
        → ((j : ℕ) → j < i
        → (value_at s (row s (turned_round d) name hubs (hub_of hubs i)) (name j) ≡ s.none → ⊥)
        → (value_at s (row s d name hubs v) (name j) ≡ s.none → ⊥)
        → s.better (d (hub_of hubs i) v)
        (s.join (value_at s (row s (turned_round d) name hubs (hub_of hubs i)) (name j)) (value_at s (row s d name hubs v) (name j)))
        ≡ true)
        → HasEntry s d hubs v i
    entry_from_shared ne told = record {
      reached = ne;
      earlier_are_worse = λ j earlier.
          ⊎_elim (λ t. t)
          (λ f. absurd (at_cover (cover_is_shared s laws d dist hubs i (hub_of hubs i) v j ne earlier f)))
          (cases_Bool (worse_by s d (hub_of hubs i) v (hub_of hubs j)));
    }
      where
        at_cover : SharedCover s d hubs i (hub_of hubs i) v → ⊥
        at_cover k =
            let b : ℕ = hub_of hubs i in
            let c : ℕ = hub_of hubs k.rank in
            let below : k.rank < length hubs = omega arith in
            let one = value_of_entry s (turned_round d) name hubs b rises k.rank below k.from_u in
            let two = value_of_entry s d name hubs v rises k.rank below k.to_v in
            let same : s.join (value_at s (row s (turned_round d) name hubs b) (name k.rank)) (value_at s (row s d name hubs v) (name k.rank))
            ≡ s.join (d b c) (d c v) = cc (one, two) in
            both_ways (s.better (d b v) (s.join (d b c) (d c v))) k.covers
            (subst (λ y. s.better (d b v) y ≡ true) same
            (told k.rank k.below (λ z. k.from_u.reached (sym one ∙ z)) (λ z. k.to_v.reached (sym two ∙ z))))
