-- Two rows joined give the distance, where a hub covers the two junctions, one-way streets included. Assumes nothing.
use Rattle.std.proofs.Common.{◌≡◌, ℕ, ◌<◌, ◌⊎◌, ◌↔◌, List, length, Some, None, Option, sym, refl, ap, ◌∙◌, subst, inl, inr, ⊎_elim, arith}
use Rattle.std.proofs.lemmas.Bool.{cases_eq}
use Rattle.measure.specs.Scale.{Scale, Value, Laws, NoWorse}
use Rattle.network.specs.Lists.{In}
use Rattle.network.specs.Labels.{Entry, entry, row, value_at, meet, worth_of}
use Rattle.network.proofs.Order.{none_alone_is_as_bad, none_stays_none_behind}
use Rattle.network.proofs.Cells.{Covers, hub_of, HasEntry}
use Rattle.network.proofs.Covering.{Directed, turned_round, joined_value, SharedCover, cover_is_shared}
use Rattle.network.proofs.RowRanks.{Rises}
use Rattle.network.proofs.Meeting.{offered, AllValues, Meets, meets}
use Rattle.network.proofs.RowEntries.{in_row, entry_in_row, row_has_values, value_under_name_cases, value_of_entry}

-- two rows joined give x: nothing where it is none, and otherwise an offer worth x
abbrev pub Gives : Scale → ℕ → Option Entry → Type 0
Gives s x None = x ≡ s.none
Gives s x (Some e) = (e.worth ≡ x) × (x ≡ s.none → ⊥)

-- d has none for u and v, or one of the hubs covers them
abbrev pub NoneOrCovered : Scale → (ℕ → ℕ → ℕ) → List ℕ → ℕ → ℕ → Type 0
NoneOrCovered s d hubs u v =
    (d u v ≡ s.none) ⊎ ((i : ℕ) × (i < length hubs) × Covers s d u v (hub_of hubs i))

-- a hub stands in the row from u and in the row to v, and what an entry offers, x, is the way by it
pub record SharedOffer (s : Scale) (d : ℕ → ℕ → ℕ) (name : ℕ → ℕ) (hubs : List ℕ) (u v : ℕ) (e : Entry) (x : ℕ) : Type 0 where
  pub rank : ℕ
  pub below : rank < length hubs
  pub hub_is : e.hub ≡ name rank
  pub from_u : HasEntry s (turned_round d) hubs u rank
  pub to_v : HasEntry s d hubs v rank
  pub offer_is : x ≡ s.join (d u (hub_of hubs rank)) (d (hub_of hubs rank) v)

-- The row of u has the values from u to the hubs, `turned_round d`, and the row of v those from the hubs to v.
module _ (s : Scale) (laws : Laws s) (d : ℕ → ℕ → ℕ) (dist : Directed s d) (name : ℕ → ℕ) (hubs : List ℕ)
    (rises : Rises name (length hubs)) (u v : ℕ) where
  values_from : AllValues s (row s (turned_round d) name hubs u)
  values_from = row_has_values s (turned_round d) name hubs u (λ x y. dist.is_a_value y x)

  values_to : AllValues s (row s d name hubs v)
  values_to = row_has_values s d name hubs v dist.is_a_value

  -- an entry of u's row offers none, or the way by a hub in both rows
  pub offer_cases :
      (e : Entry) → In e (row s (turned_round d) name hubs u)
      → (offered s (row s d name hubs v) e ≡ s.none)
      ⊎ SharedOffer s d name hubs u v e (offered s (row s d name hubs v) e)
  offer_cases e there =
      let r = in_row s (turned_round d) name hubs u e there in
      let h : ℕ = hub_of hubs r.rank in
      let at_hub : offered s (row s d name hubs v) e ≡ s.join (d u h) (value_at s (row s d name hubs v) (name r.rank)) =
      cc (r.hub_is, r.worth_is) in
      ⊎_elim
      (λ c. inr (record {
        rank = r.rank;
        below = r.below;
        hub_is = r.hub_is;
        from_u = r.has_entry;
        to_v = c.0;
        offer_is = at_hub ∙ ap (s.join (d u h)) c.1;
      }))
      (λ z. inl (at_hub ∙ ap (s.join (d u h)) z ∙ none_stays_none_behind s laws (d u h) (dist.is_a_value u h)))
      (value_under_name_cases s d name hubs v rises r.rank r.below)

  -- where some hub covers u and v, which reach one another, an entry of u's row offers no worse than d has it
  pub cover_is_offered :
      (d u v ≡ s.none → ⊥) → (i : ℕ) × (i < length hubs) × Covers s d u v (hub_of hubs i)
      → (e : Entry) × In e (row s (turned_round d) name hubs u) × Value s (offered s (row s d name hubs v) e)
      × NoWorse s (offered s (row s d name hubs v) e) (d u v)
  cover_is_offered ne c = at_cover (cover_is_shared s laws d dist hubs (length hubs) u v c.0 ne c.1 c.2)
    where
      at_cover :
          SharedCover s d hubs (length hubs) u v
          → (e : Entry) × In e (row s (turned_round d) name hubs u) × Value s (offered s (row s d name hubs v) e)
          × NoWorse s (offered s (row s d name hubs v) e) (d u v)
      at_cover k =
          let b : ℕ = hub_of hubs k.rank in
          let same = ap (s.join (d u b)) (value_of_entry s d name hubs v rises k.rank k.below k.to_v) in (
            entry (name k.rank) (d u b),
            entry_in_row s (turned_round d) name hubs u k.rank k.below k.from_u,
            subst (Value s) (sym same) (joined_value s laws d dist u b v),
            subst (λ x. NoWorse s x (d u v)) (sym same) k.covers,
          )

  meeting_gives :
      NoneOrCovered s d hubs u v → (m : Option Entry) → Meets s (row s (turned_round d) name hubs u) (row s d name hubs v) m
      → Gives s (d u v) m
  meeting_gives covered None h =
      ⊎_elim (λ z. z)
      (λ c. ⊎_elim (λ z. z)
      (λ ne.
      let k = cover_is_offered ne c in
      none_alone_is_as_bad s laws (d u v) (dist.is_a_value u v)
      (subst (λ x. NoWorse s x (d u v)) (h k.0 k.1) k.3))
      (cases_eq (d u v) s.none))
      covered
  meeting_gives covered (Some o) h =
      ⊎_elim
      (λ z. absurd (h.is_not_none (h.worth_is ∙ z)))
      (λ c.
      let b : ℕ = hub_of hubs c.rank in
      let e : o.worth ≡ s.join (d u b) (d b v) = h.worth_is ∙ c.offer_is in
      let value : Value s o.worth = subst (Value s) (sym e) (joined_value s laws d dist u b v) in
      let not_better : NoWorse s (d u v) o.worth = subst (NoWorse s (d u v)) (sym e) (dist.triangle u b v) in
      let ne : d u v ≡ s.none → ⊥ = λ z.
      h.is_not_none (none_alone_is_as_bad s laws o.worth value (subst (λ x. NoWorse s x o.worth) z not_better)) in
      ⊎_elim (λ z. absurd (ne z))
      (λ a.
      let k = cover_is_offered ne a in
      let no_worse : NoWorse s o.worth (d u v) =
      laws.order_is_transitive o.worth (offered s (row s d name hubs v) k.0) (d u v) value k.2
      (dist.is_a_value u v) (h.none_is_better k.0 k.1) k.3 in
      (laws.no_worse_both_ways_is_equal o.worth (d u v) value (dist.is_a_value u v) no_worse not_better, ne))
      covered)
      (offer_cases h.source h.source_is_there)

  -- where a hub covers u and v, or d has none for them, their rows joined give d
  pub rows_joined_give :
      NoneOrCovered s d hubs u v → Gives s (d u v) (meet s (row s (turned_round d) name hubs u) (row s d name hubs v))
  rows_joined_give covered =
      meeting_gives covered (meet s (row s (turned_round d) name hubs u) (row s d name hubs v))
      (meets s laws (row s (turned_round d) name hubs u) (row s d name hubs v) values_from values_to)

-- what is given is what the offer is worth
pub given_worth : (s : Scale) (x : ℕ) (m : Option Entry) → Gives s x m → worth_of s m ≡ x
given_worth s x None g = sym g
given_worth s x (Some e) g = g.0

-- nothing is given exactly where x is none
pub given_nothing : (s : Scale) (x : ℕ) (m : Option Entry) → Gives s x m → (m ≡ None) ↔ (x ≡ s.none)
given_nothing s x None g = (λ _. g, λ _. refl)
given_nothing s x (Some e) g = (λ n. absurd (let z : ◌≡◌ {A = ℕ} 0 1 = cc in omega arith), λ z. absurd (g.1 z))
