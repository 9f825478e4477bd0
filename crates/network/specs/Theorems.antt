-- What is proved of walks, best values and rows, for every measure s. Assumes nothing.
use Rattle.std.specs.Prelude.{◌≡◌, ℕ, ◌<◌, ◌≤◌, true, ◌⊎◌, List, length, take, Some, None, Option, ◌≢◌, slice_index}
use Rattle.std.specs.List.{AllByRecursion}
use Rattle.measure.specs.Scale.{Scale, Value, NoWorse}
use Rattle.network.specs.Lists.{In}
use Rattle.network.specs.Walks.{Arc, Walk, walk_value, Walked, BestOf, Best}
use Rattle.network.specs.Networks.{Network, Junction, Sound, district, arcs, best, is_border}
use Rattle.network.specs.Labels.{Entry, cell, value_at, meet, struck, Ascends}
use Rattle.network.specs.Rows.{border_row, inner_arcs, district_arcs, district_best, members, district_row}

-- A network that a book may be made of: sound, and within the limit on junctions, which keeps best values apart from none.
pub record Allowed (s : Scale) (net : Network) : Type 0 where
  pub sound : Sound s net
  pub few_junctions : net.junctions ≤ 4096

-- there is no walk from u to v
abbrev pub NoWalk : Network → ℕ → ℕ → Type 0
NoWalk net u v = (w : List Arc) → Walk (arcs net) u v w → ⊥

-- Best values are well defined: what `best` computes is the best value, nothing else is, and it is none exactly where there
-- is no walk. The way by a third junction is never better. Both directions are worth the same, since roads run both ways.
pub record BestIsWellDefined (s : Scale) (net : Network) : Type 0 where
  pub computed_is_best : (u v : ℕ) → Best s (arcs net) u v (best s net u v)
  pub only_one_is_best : (u v x y : ℕ) → Best s (arcs net) u v x → Best s (arcs net) u v y → x ≡ y
  pub none_without_a_walk : (u v : ℕ) → NoWalk net u v → best s net u v ≡ s.none
  pub no_walk_at_none : (u v : ℕ) → best s net u v ≡ s.none → NoWalk net u v
  pub best_is_a_value : (u v : ℕ) → Value s (best s net u v)
  pub no_way_round_is_better : (u t v : ℕ) → NoWorse s (best s net u v) (s.join (best s net u t) (best s net t v))
  pub both_ways_are_alike : (u v : ℕ) → best s net u v ≡ best s net v u

-- what two joined rows gave for u and v is right: the value of a walk that no walk betters, or nothing where there is no walk
abbrev pub Answers : Scale → Network → ℕ → ℕ → Option Entry → Type 0
Answers s net u v None = NoWalk net u v
Answers s net u v (Some e) =
    Walked s (arcs net) u v e.worth × ((y : ℕ) → Walked s (arcs net) u v y → NoWorse s e.worth y)

-- Two junctions in two districts: their border rows joined give the best value, whatever the order of the borders.
abbrev pub BorderRowsAnswer : Scale → Network → List ℕ → Type 0
BorderRowsAnswer s net order =
    (u v : ℕ) → Junction net u → Junction net v → (district net u ≢ district net v)
    → Answers s net u v (meet s (border_row s net order u) (border_row s net order v))

-- Two junctions in one district: best in the district's network is best in the whole network, and their district rows joined
-- give it.
pub record DistrictRowsAnswer (s : Scale) (net : Network) : Type 0 where
  pub district_best_is_best :
      (k u v : ℕ) → Junction net u → Junction net v → district net u ≡ k → district net v ≡ k
      → Best s (district_arcs s net k) u v (best s net u v) × (district_best s net k u v ≡ best s net u v)
  pub district_rows_joined :
      (u v : ℕ) → Junction net u → Junction net v → district net u ≡ district net v
      → Answers s net u v (meet s (district_row s net u) (district_row s net v))

-- Where a walk inside district k may begin, for values from u, and with what value: at u with start, or at a border of the
-- district that u reaches, with the best value from u to it.
abbrev pub Begins : Scale → Network → ℕ → ℕ → ℕ → ℕ → Type 0
Begins s net k u b x =
    ((b ≡ u) × (x ≡ s.start))
    ⊎ ((is_border net b ≡ true) × (district net b ≡ k) × (x ≡ best s net u b) × (x ≢ s.none))

-- y is the value of such a beginning joined with that of a walk inside the district that goes on from there to v
abbrev pub Offered : Scale → Network → ℕ → ℕ → ℕ → ℕ → Type 0
Offered s net k u v y =
    (b : ℕ) × (x : ℕ) × Begins s net k u b x × ((w : List Arc) × Walk (inner_arcs net k) b v w × (s.join x (walk_value s w) ≡ y))

-- Best between two junctions of a district is the best over walks inside it that begin so.
abbrev pub OffersGiveBest : Scale → Network → Type 0
OffersGiveBest s net =
    (k u v : ℕ) → Junction net u → Junction net v → district net u ≡ k → district net v ≡ k
    → BestOf s (Offered s net k u v) (best s net u v)

-- two rows joined gave nothing, or a value that is worse than x
abbrev pub FallsShort : Scale → ℕ → Option Entry → Type 0
FallsShort s x None = Unit {0}
FallsShort s x (Some e) = s.better x e.worth ≡ true

-- With any one entry struck from its row, that row joined with its hub's own row falls short of the best between the two.
pub record EveryEntryIsNeeded (s : Scale) (net : Network) (order : List ℕ) : Type 0 where
  pub in_border_rows :
      (v : ℕ) (e : Entry) → Junction net v → In e (border_row s net order v)
      → FallsShort s (best s net (slice_index order e.hub) v)
      (meet s (struck e.hub (border_row s net order v)) (border_row s net order (slice_index order e.hub)))
  pub in_district_rows :
      (v : ℕ) (e : Entry) → Junction net v → In e (district_row s net v)
      → FallsShort s (best s net e.hub v) (meet s (struck e.hub (district_row s net v)) (district_row s net e.hub))

-- The cell of v under hub number i can be told from entries alone: the best value from the hub b to v is not none, and each
-- earlier hub that has an entry in both rows, b's and v's, gives worse. `rows` has the row of each junction, and
-- `name` the name of the hub of each rank.
pub record ToldByEntries (s : Scale) (d : ℕ → ℕ → ℕ) (rows : ℕ → List Entry) (name : ℕ → ℕ) (i b v : ℕ) : Type 0 where
  pub reached : d b v ≡ s.none → ⊥
  pub earlier_are_worse :
      (j : ℕ) → j < i → (value_at s (rows b) (name j) ≢ s.none) → (value_at s (rows v) (name j) ≢ s.none)
      → s.better (d b v) (s.join (value_at s (rows b) (name j)) (value_at s (rows v) (name j))) ≡ true

pub record LookingUpIsEnough (s : Scale) (d : ℕ → ℕ → ℕ) (rows : ℕ → List Entry) (name : ℕ → ℕ) (i b v cell_of_v : ℕ) : Type 0 where
  pub entries_are_told : (cell_of_v ≢ s.none) → ToldByEntries s d rows name i b v
  pub told_are_entries : ToldByEntries s d rows name i b v → (cell_of_v ≡ d b v) × (cell_of_v ≢ s.none)

-- This for border cells and for district cells.
pub record CellsFollowFromEntries (s : Scale) (net : Network) (order : List ℕ) : Type 0 where
  pub for_border_cells :
      (i v : ℕ) → i < length order → Junction net v
      → LookingUpIsEnough s (best s net) (border_row s net order) (λ j. j) i (slice_index order i) v
      (cell s (best s net) (take i order) (slice_index order i) v)
  pub for_district_cells :
      (i k v : ℕ) → i < length (members net k) → Junction net v → district net v ≡ k
      → LookingUpIsEnough s (district_best s net k) (district_row s net) (λ j. slice_index (members net k) j) i (slice_index (members net k) i) v
      (cell s (district_best s net k) (take i (members net k)) (slice_index (members net k) i) v)

-- a value other than none
abbrev pub Proper : Scale → ℕ → Type 0
Proper s x = Value s x × (x ≢ s.none)

-- Rows ascend strictly by rank or hub, and their values are values other than none.
pub record RowsAscend (s : Scale) (net : Network) (order : List ℕ) : Type 0 where
  pub border_ranks_ascend : (v : ℕ) → Ascends (border_row s net order v)
  pub border_ranks_are_below : (v : ℕ) → AllByRecursion (λ e. e.hub < length order) (border_row s net order v)
  pub border_values_are_proper : (v : ℕ) → AllByRecursion (λ e. Proper s e.worth) (border_row s net order v)
  pub district_hubs_ascend : (v : ℕ) → Ascends (district_row s net v)
  pub district_hubs_are_members : (v : ℕ) → AllByRecursion (λ e. Junction net e.hub × (district net e.hub ≡ district net v)) (district_row s net v)
  pub district_values_are_proper : (v : ℕ) → AllByRecursion (λ e. Proper s e.worth) (district_row s net v)
