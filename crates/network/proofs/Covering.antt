-- The earliest hub that covers two junctions has an entry in both rows, one-way streets included. Assumes nothing.
use Rattle.std.proofs.Common.{◌≡◌, ℕ, ◌<◌, true, List, ap, ◌∙◌, subst, ⊎_elim}
use mathlib.Core.Path.{fun_ext}
use Rattle.std.proofs.lemmas.Bool.{both_ways, cases_Bool}
use Rattle.measure.specs.Scale.{Scale, Value, Laws, NoWorse}
use Rattle.network.specs.Labels.{worse_by}
use Rattle.network.proofs.Distance.{Distance}
use Rattle.network.proofs.Order.{none_alone_is_as_bad, none_stays_none_behind, join_keeps_the_order_behind}
use Rattle.network.proofs.Cells.{Covers, hub_of, HasEntry, first_failure}

-- a distance that may differ between the two directions
pub record Directed (s : Scale) (d : ℕ → ℕ → ℕ) : Type 0 where
  pub is_a_value : (u v : ℕ) → Value s (d u v)
  pub home : (u : ℕ) → d u u ≡ s.start
  pub triangle : (u t v : ℕ) → NoWorse s (d u v) (s.join (d u t) (d t v))

pub directed : (s : Scale) (d : ℕ → ℕ → ℕ) → Distance s d → Directed s d
directed s d dist = record { is_a_value = dist.is_a_value; home = dist.home; triangle = dist.triangle }

-- the other direction
abbrev pub turned_round : (ℕ → ℕ → ℕ) → ℕ → ℕ → ℕ
turned_round d u v = d v u

-- of a distance that is the same both ways it is no other
pub turned_is_the_same : (s : Scale) (d : ℕ → ℕ → ℕ) → Distance s d → turned_round d ≡ d
turned_is_the_same s d dist = fun_ext (λ u. fun_ext (λ v. dist.both_ways v u))

module _ (s : Scale) (laws : Laws s) (d : ℕ → ℕ → ℕ) (dist : Directed s d) where
  pub turned_is_directed : Directed s (turned_round d)
  turned_is_directed = record {
    is_a_value = λ u v. dist.is_a_value v u;
    home = dist.home;
    triangle = λ u t v.
        rw (laws.join_is_commutative (d t u) (d v t) (dist.is_a_value t u) (dist.is_a_value v t)) (dist.triangle v t u);
  }

  pub join_turned : (u h v : ℕ) → s.join (d u h) (d h v) ≡ s.join (d h v) (d u h)
  join_turned u h v = laws.join_is_commutative (d u h) (d h v) (dist.is_a_value u h) (dist.is_a_value h v)

  pub covers_turned : (u v h : ℕ) → Covers s d u v h → Covers s (turned_round d) v u h
  covers_turned u v h c = rw (join_turned u h v) at c

  pub joined_value : (u h v : ℕ) → Value s (s.join (d u h) (d h v))
  joined_value u h v = laws.join_is_a_value (d u h) (d h v) (dist.is_a_value u h) (dist.is_a_value h v)

  -- what covers two junctions is reached from both, if they reach one another
  pub cover_is_reached : (u v h : ℕ) → (d u v ≡ s.none → ⊥) → Covers s d u v h → d h v ≡ s.none → ⊥
  cover_is_reached u v h ne c e =
      let z : s.join (d u h) (d h v) ≡ s.none =
      ap (s.join (d u h)) e ∙ none_stays_none_behind s laws (d u h) (dist.is_a_value u h) in
      ne (none_alone_is_as_bad s laws (d u v) (dist.is_a_value u v) (rw z at c))

  -- what covers the way on from a cover is a cover itself
  pub cover_of_a_cover : (u v h c : ℕ) → Covers s d u v h → Covers s d h v c → Covers s d u v c
  cover_of_a_cover u v h c one two =
      let value = dist.is_a_value in
      let whole : ℕ = s.join (s.join (d u h) (d h c)) (d c v) in
      let bent : ℕ = s.join (d u h) (s.join (d h c) (d c v)) in
      let same : whole ≡ bent = laws.join_is_associative (d u h) (d h c) (d c v) (value u h) (value h c) (value c v) in
      let bent_value : Value s bent =
      laws.join_is_a_value (d u h) (s.join (d h c) (d c v)) (value u h) (joined_value h c v) in
      let first : NoWorse s (s.join (d u c) (d c v)) whole =
      laws.join_keeps_the_order (d u c) (s.join (d u h) (d h c)) (d c v) (value u c) (joined_value u h c) (value c v)
      (dist.triangle u h c) in
      let second : NoWorse s bent (s.join (d u h) (d h v)) =
      join_keeps_the_order_behind s laws (s.join (d h c) (d c v)) (d h v) (d u h) (joined_value h c v) (value h v) (value u h) two in
      let till_bent : NoWorse s (s.join (d u c) (d c v)) bent = subst (λ x. NoWorse s (s.join (d u c) (d c v)) x) same first in
      laws.order_is_transitive (s.join (d u c) (d c v)) bent (d u v) (joined_value u c v) bent_value (value u v) till_bent
      (laws.order_is_transitive bent (s.join (d u h) (d h v)) (d u v) bent_value (joined_value u h v) (value u v) second one)

  -- a hub that covers, before which none does, has an entry in v's row
  pub first_cover_has_entry :
      (hubs : List ℕ) (u v i : ℕ) → (d u v ≡ s.none → ⊥) → Covers s d u v (hub_of hubs i)
      → ((j : ℕ) → j < i → worse_by s d u v (hub_of hubs j) ≡ true) → HasEntry s d hubs v i
  first_cover_has_entry hubs u v i ne c before = record {
    reached = cover_is_reached u v (hub_of hubs i) ne c;
    earlier_are_worse = λ j h.
        ⊎_elim (λ t. t)
        (λ f. absurd (both_ways (worse_by s d u v (hub_of hubs j)) (cover_of_a_cover u v (hub_of hubs i) (hub_of hubs j) c f) (before j h)))
        (cases_Bool (worse_by s d (hub_of hubs i) v (hub_of hubs j)));
  }

-- a hub that covers u and v, with an entry in the row from u and in the row to v
pub record SharedCover (s : Scale) (d : ℕ → ℕ → ℕ) (hubs : List ℕ) (n u v : ℕ) : Type 0 where
  pub rank : ℕ
  pub below : rank < n
  pub covers : Covers s d u v (hub_of hubs rank)
  pub from_u : HasEntry s (turned_round d) hubs u rank
  pub to_v : HasEntry s d hubs v rank

module _ (s : Scale) (laws : Laws s) (d : ℕ → ℕ → ℕ) (dist : Directed s d) where
  -- if one of the first n hubs covers u and v, the earliest that does stands in both rows
  pub cover_is_shared :
      (hubs : List ℕ) (n u v i : ℕ) → (d u v ≡ s.none → ⊥) → i < n → Covers s d u v (hub_of hubs i)
      → SharedCover s d hubs n u v
  cover_is_shared hubs n u v i ne low c =
      ⊎_elim
      (λ all. absurd (both_ways (worse_by s d u v (hub_of hubs i)) c (all i low)))
      (λ r. record {
        rank = r.0;
        below = r.1;
        covers = r.2;
        from_u =
            first_cover_has_entry s laws (turned_round d) (turned_is_directed s laws d dist) hubs v u r.0 ne
            (covers_turned s laws d dist u v (hub_of hubs r.0) r.2)
            (λ j h. subst (λ x. s.better (d u v) x ≡ true) (join_turned s laws d dist u (hub_of hubs j) v) (r.3 j h));
        to_v = first_cover_has_entry s laws d dist hubs u v r.0 ne r.2 r.3;
      })
      (first_failure (λ j. worse_by s d u v (hub_of hubs j)) n)
