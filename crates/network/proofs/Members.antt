-- The junctions of a district as a list: they ascend, and all of them stand in it. Assumes nothing.
use Rattle.std.proofs.Common.{◌≡◌, ℕ, zero, suc, ◌<◌, Bool, eqb, List, [], ◌∷◌, length, get_or, filter, ⊎_elim, arith}
use Rattle.std.specs.List.{AllByRecursion}
use Rattle.std.proofs.lemmas.Bool.{cond_both, cases_order}
use Rattle.std.proofs.ByRecursion.{All-get_or, all_kept_by}
use Rattle.network.specs.Lists.{count_up}
use Rattle.network.specs.Networks.{Network, Junction, district}
use Rattle.network.specs.Rows.{members}
use Rattle.network.proofs.Lists.{all_from_in, rank_of, getD_in, count_up_in}
use Rattle.network.proofs.DistrictArcs.{member_is_listed, listed_is_member}
use Rattle.network.proofs.RowRanks.{Rises}

-- each number is below all that follow it
abbrev pub Climbs : List ℕ → Type 0
Climbs [] = Unit {0}
Climbs (x ∷ xs) = AllByRecursion (λ y. x < y) xs × Climbs xs

pub climbs_rises : (xs : List ℕ) → Climbs xs → Rises (λ i. get_or xs i 0) (length xs)
climbs_rises [] c i j h k = absurd (omega arith)
climbs_rises (x ∷ xs) c i zero h k = absurd (omega arith)
climbs_rises (x ∷ xs) c zero (suc j) h k = All-get_or (λ y. x < y) xs j 0 (omega arith) c.0
climbs_rises (x ∷ xs) c (suc i) (suc j) h k = climbs_rises xs c.1 i j (omega arith) (omega arith)

pub climbs_kept : (test : ℕ → Bool) (xs : List ℕ) → Climbs xs → Climbs (filter test xs)
climbs_kept test [] c = tt
climbs_kept test (x ∷ xs) c =
    cond_both (test x) (x ∷ filter test xs) (filter test xs) Climbs
    (λ t. (all_kept_by test (λ y. x < y) xs c.0, climbs_kept test xs c.1))
    (λ f. climbs_kept test xs c.1)

pub climbs_count_up : (a k : ℕ) → Climbs (count_up a k)
climbs_count_up a zero = tt
climbs_count_up a (suc k) = (
  all_from_in (λ x. a < x) (count_up (suc a) k) (λ x i. let h = count_up_in x (suc a) k i in omega arith),
  climbs_count_up (suc a) k,
)

module _ (net : Network) (k : ℕ) where
  pub members_rise : Rises (λ i. get_or (members net k) i 0) (length (members net k))
  members_rise =
      climbs_rises (members net k)
      (climbs_kept (λ v. eqb (district net v) k) (count_up 1 net.junctions) (climbs_count_up 1 net.junctions))

  -- each of them is a junction of the district
  pub member_is_inside :
      (i : ℕ) → i < length (members net k) → Junction net (get_or (members net k) i 0) × (district net (get_or (members net k) i 0) ≡ k)
  member_is_inside i low = listed_is_member net k (get_or (members net k) i 0) (getD_in 0 (members net k) i low)

  -- each junction of the district has a rank among them
  pub rank_of_member :
      (v : ℕ) → Junction net v → district net v ≡ k → (i : ℕ) × (i < length (members net k)) × (get_or (members net k) i 0 ≡ v)
  rank_of_member v j e = rank_of 0 v (members net k) (member_is_listed net k v j e)

  -- and no two ranks
  pub member_has_one_rank :
      (i j : ℕ) → i < length (members net k) → j < length (members net k)
      → get_or (members net k) i 0 ≡ get_or (members net k) j 0 → i ≡ j
  member_has_one_rank i j h l e =
      ⊎_elim (λ same. same)
      (⊎_elim (λ m. let r = members_rise i j m l in absurd (omega arith)) (λ m. let r = members_rise j i m h in absurd (omega arith)))
      (cases_order i j)
