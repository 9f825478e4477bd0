-- What the cell of a junction under a hub is, by the hub's rank. Assumes nothing.
use Rattle.std.proofs.Common.{◌≡◌, ℕ, zero, suc, ◌<◌, Bool, true, false, not, ◌&&◌, eqb, ◌⊎◌, List, [], ◌∷◌, length, get_or, take, sym, refl, ◌∙◌, inl, inr, ⊎_elim, arith}
use Rattle.std.proofs.lemmas.List.{get_or-take, length-take-le}
use Rattle.std.proofs.lemmas.Bool.{both_ways, cases_Bool, cases_eq, eqb-false, ne_eqb, and_parts, and_from, not-true, not_from_false, cond-true, cond-false}
use Rattle.measure.specs.Scale.{Scale, NoWorse}
use Rattle.network.specs.Labels.{worse_by, worse_by_all, cell}

-- the way from u to v by h is as good as d has it
abbrev pub Covers : Scale → (ℕ → ℕ → ℕ) → ℕ → ℕ → ℕ → Type 0
Covers s d u v h = NoWorse s (s.join (d u h) (d h v)) (d u v)

-- the hub of rank i
abbrev pub hub_of : List ℕ → ℕ → ℕ
hub_of hubs i = get_or hubs i 0

-- the cell of v under the hub of rank i
abbrev pub cell_at : Scale → (ℕ → ℕ → ℕ) → List ℕ → ℕ → ℕ → ℕ
cell_at s d hubs v i = cell s d (take i hubs) (hub_of hubs i) v

-- v has an entry under the hub of rank i: it is reached, and the way by any earlier hub is worse
pub record HasEntry (s : Scale) (d : ℕ → ℕ → ℕ) (hubs : List ℕ) (v i : ℕ) : Type 0 where
  pub reached : d (hub_of hubs i) v ≡ s.none → ⊥
  pub earlier_are_worse : (j : ℕ) → j < i → worse_by s d (hub_of hubs i) v (hub_of hubs j) ≡ true

-- a test fails nowhere below n, or there is a first place where it fails
pub first_failure :
    (p : ℕ → Bool) (n : ℕ)
    → ((j : ℕ) → j < n → p j ≡ true)
    ⊎ ((i : ℕ) × (i < n) × (p i ≡ false) × ((j : ℕ) → j < i → p j ≡ true))
first_failure p zero = inl (λ j h. absurd (omega arith))
first_failure p (suc n) =
    ⊎_elim
    (λ all.
    ⊎_elim
    (λ t. inl (λ j h. ⊎_elim (λ e. rw e t) (λ ne. all j (omega arith)) (cases_eq j n)))
    (λ f. inr (n, omega arith, f, all))
    (cases_Bool (p n)))
    (λ r. inr (r.0, omega arith, r.2, r.3))
    (first_failure p n)

module _ (s : Scale) (d : ℕ → ℕ → ℕ) (b v : ℕ) where
  pub all_are_worse :
      (cs : List ℕ) → worse_by_all s d b v cs ≡ true → (j : ℕ) → j < length cs → worse_by s d b v (get_or cs j 0) ≡ true
  all_are_worse [] t j h = absurd (omega arith)
  all_are_worse (c ∷ cs) t zero h = (and_parts (worse_by s d b v c) (worse_by_all s d b v cs) t).0
  all_are_worse (c ∷ cs) t (suc j) h =
      all_are_worse cs (and_parts (worse_by s d b v c) (worse_by_all s d b v cs) t).1 j (omega arith)

  pub worse_by_each :
      (cs : List ℕ) → ((j : ℕ) → j < length cs → worse_by s d b v (get_or cs j 0) ≡ true) → worse_by_all s d b v cs ≡ true
  worse_by_each [] h = refl
  worse_by_each (c ∷ cs) h =
      and_from (worse_by s d b v c) (worse_by_all s d b v cs) (h zero (omega arith))
      (worse_by_each cs (λ j k. h (suc j) (omega arith)))

module _ (s : Scale) (d : ℕ → ℕ → ℕ) (hubs : List ℕ) (v i : ℕ) (low : i < length hubs) where
  -- the test that `cell` makes
  test : Bool
  test = not (eqb (d (hub_of hubs i) v) s.none) && worse_by_all s d (hub_of hubs i) v (take i hubs)

  taken_is_low : (j : ℕ) → j < length (take i hubs) → j < i
  taken_is_low j h = let e = length-take-le i hubs (omega arith) in omega arith

  test_passes : HasEntry s d hubs v i → test ≡ true
  unfolding test
  test_passes has =
      and_from (not (eqb (d (hub_of hubs i) v) s.none)) (worse_by_all s d (hub_of hubs i) v (take i hubs))
      (not_from_false (eqb (d (hub_of hubs i) v) s.none) (ne_eqb (d (hub_of hubs i) v) s.none has.reached))
      (worse_by_each s d (hub_of hubs i) v (take i hubs)
      (λ j h. let k = taken_is_low j h in rw (get_or-take i hubs j 0 k) (has.earlier_are_worse j k)))

  passed_has : test ≡ true → HasEntry s d hubs v i
  unfolding test
  passed_has t =
      let b : ℕ = hub_of hubs i in
      let parts = and_parts (not (eqb (d b v) s.none)) (worse_by_all s d b v (take i hubs)) t in
      record {
        reached = eqb-false (d b v) s.none (not-true (eqb (d b v) s.none) parts.0);
        earlier_are_worse = λ j h.
            let e = length-take-le i hubs (omega arith) in
            let k : j < length (take i hubs) = omega arith in
            rw (get_or-take i hubs j 0 h) at (all_are_worse s d b v (take i hubs) parts.1 j k);
      }

  -- where v has an entry, its cell is the value from the hub
  pub cell_with_entry : HasEntry s d hubs v i → cell_at s d hubs v i ≡ d (hub_of hubs i) v
  unfolding test
  cell_with_entry has = cond-true test (d (hub_of hubs i) v) s.none (test_passes has)

  -- a cell is the value from the hub, with an entry, or none
  pub cell_cases :
      (HasEntry s d hubs v i × (cell_at s d hubs v i ≡ d (hub_of hubs i) v)) ⊎ (cell_at s d hubs v i ≡ s.none)
  unfolding test
  cell_cases =
      ⊎_elim (λ t. inl (passed_has t, cond-true test (d (hub_of hubs i) v) s.none t))
      (λ f. inr (cond-false test (d (hub_of hubs i) v) s.none f))
      (cases_Bool test)

  -- where a cell is not none there is an entry
  pub cell_not_none_has :
      (cell_at s d hubs v i ≡ s.none → ⊥) → HasEntry s d hubs v i × (cell_at s d hubs v i ≡ d (hub_of hubs i) v)
  cell_not_none_has ne = ⊎_elim (λ h. h) (λ e. absurd (ne e)) cell_cases

  -- a covered cell is none
  pub covered_cell_is_none :
      (j : ℕ) → j < i → Covers s d (hub_of hubs i) v (hub_of hubs j) → cell_at s d hubs v i ≡ s.none
  covered_cell_is_none j h c =
      ⊎_elim
      (λ e. absurd (both_ways (worse_by s d (hub_of hubs i) v (hub_of hubs j)) c (e.0.earlier_are_worse j h)))
      (λ e. e)
      cell_cases

  -- a cell that is none is so because the hub does not reach v, or an earlier hub covers the two
  pub none_cell_is_covered :
      cell_at s d hubs v i ≡ s.none
      → (d (hub_of hubs i) v ≡ s.none) ⊎ ((j : ℕ) × (j < i) × Covers s d (hub_of hubs i) v (hub_of hubs j))
  none_cell_is_covered e =
      ⊎_elim inl
      (λ ne. ⊎_elim
      (λ all. inl (sym (cell_with_entry (record { reached = ne; earlier_are_worse = all })) ∙ e))
      (λ r. inr (r.0, r.1, r.2))
      (first_failure (λ j. worse_by s d (hub_of hubs i) v (hub_of hubs j)) i))
      (cases_eq (d (hub_of hubs i) v) s.none)
