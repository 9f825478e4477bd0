-- What start and each edit of a drawing do, and when they are refused. Assumes nothing.
use Rattle.std.specs.Prelude.{◌≡◌, ℕ, ◌+◌, ◌-◌, Bool, not, ◌&&◌, ◌||◌, List, [], ◌∷◌, ◌++◌, length, drop, replicate, Result, ◌==◌, nat_le, nat_lt, slice_index_or, slice_set}
use Rattle.measure.specs.Scale.{Scale}
use Rattle.drawing.specs.Outcomes.{Check, refuse, verdict, Ends}
use Rattle.drawing.specs.declared.refusal.Refusal.{Refusal}
use Rattle.drawing.specs.declared.refusal.Refusal.TheVariants.{OtherMeasure, BadCount, ShortTable, NoJunction, NoRoad, NoDistrict, EndsAlike, NotLawful, RoadsFull}
use Rattle.drawing.specs.declared.rest.Rest.{Rest}
use Rattle.drawing.specs.declared.tables.Junction.{Junction}
use Rattle.drawing.specs.declared.tables.Mark.{Mark}
use Rattle.drawing.specs.declared.tables.Mark.TheVariants.{Open}
use Rattle.drawing.specs.declared.tables.Road.{Road}

-- the number lies from low to high
abbrev pub within : ℕ → ℕ → ℕ → Bool
within low high n = nat_le low n && nat_le n high

-- The checks, which later calls have too. Each fails where the refusal is due.

-- the drawing has another measure
abbrev pub measure_check : Scale → Rest → Check
measure_check s d = refuse OtherMeasure (not (d.tag == s.tag))

-- a table of so many entries is shorter than is needed
abbrev pub size_check : ℕ → ℕ → Check
size_check needed size = refuse (ShortTable needed) (nat_lt size needed)

-- junctions count from 1, so do roads, and districts count from 0
abbrev pub junction_check : Rest → ℕ → Check
junction_check d v = refuse NoJunction (not (within 1 d.junctions v))

abbrev pub road_check : Rest → ℕ → Check
road_check d i = refuse NoRoad (not (within 1 d.roads i))

abbrev pub district_check : Rest → ℕ → Check
district_check d k = refuse NoDistrict (not (nat_lt k d.districts))

-- a road may not have this value
abbrev pub value_check : Scale → ℕ → Check
value_check s x = refuse NotLawful (not (s.lawful x))

-- what is wrong with a road's ends and value, wherever they stand: a new road or a record of the road table
abbrev pub record_checks : Scale → Rest → ℕ → ℕ → ℕ → List Check
record_checks s d u v x =
    junction_check d u ∷ junction_check d v ∷ refuse EndsAlike (u == v) ∷ value_check s x ∷ []

-- START: every junction in district 0, and no road.

abbrev pub start_checks : ℕ → ℕ → List Junction → List Check
start_checks n m junctions =
    refuse BadCount (not (within 1 4096 n && within 1 64 m))
    ∷ size_check n (length junctions)
    ∷ []

abbrev pub in_district : ℕ → Junction
in_district k = record { district = k }

-- the junction table with its first n entries in district 0
abbrev pub all_in_district_0 : ℕ → List Junction → List Junction
all_in_district_0 n junctions = replicate n (in_district 0) ++ drop n junctions

-- the drawing has the measure's tag, these counts, and no road
pub record Fresh (s : Scale) (n m : ℕ) (d : Rest) : Type 0 where
  pub tag : d.tag ≡ s.tag
  pub junctions : d.junctions ≡ n
  pub districts : d.districts ≡ m
  pub roads : d.roads ≡ 0

abbrev pub StartsWithNoRoad : Scale → ℕ → ℕ → List Junction → Result Rest Refusal → List Junction → Type 0
StartsWithNoRoad s n m junctions r after =
    Ends (verdict (start_checks n m junctions)) r (after ≡ junctions)
    (λ d. Fresh s n m d × (after ≡ all_in_district_0 n junctions))

-- ADD: one open road more, after those that stand; its number is their count.

abbrev pub add_checks : Scale → Rest → List Road → ℕ → ℕ → ℕ → List Check
add_checks s d roads u v x =
    measure_check s d
    ∷ size_check d.roads (length roads)
    ∷ junction_check d u
    ∷ junction_check d v
    ∷ refuse EndsAlike (u == v)
    ∷ value_check s x
    ∷ refuse RoadsFull (nat_le 16384 d.roads || nat_le (length roads) d.roads)
    ∷ []

abbrev pub open_road : ℕ → ℕ → ℕ → Road
open_road u v x = record { first = u; second = v; value = x; mark = Open }

-- the drawing is as it was, with one road more
pub record OneRoadMore (d e : Rest) : Type 0 where
  pub tag : e.tag ≡ d.tag
  pub junctions : e.junctions ≡ d.junctions
  pub districts : e.districts ≡ d.districts
  pub roads : e.roads ≡ d.roads + 1

abbrev pub AppendsAnOpenRoad : Scale → Rest → List Road → ℕ → ℕ → ℕ → Result ℕ Refusal → Rest → List Road → Type 0
AppendsAnOpenRoad s d roads u v x r e after =
    Ends (verdict (add_checks s d roads u v x)) r ((e ≡ d) × (after ≡ roads))
    (λ number. (number ≡ d.roads + 1) × OneRoadMore d e × (after ≡ slice_set roads d.roads (open_road u v x)))

-- SET, CLOSE, REOPEN, ASSIGN: one entry of a table changes, and no other.

-- The table with its entry number i, counted from 1, changed by f. (`blank` would be changed if there were no such entry; the
-- checks see to it that there is one.)
abbrev pub with_entry : {A : Type 0} → A → (A → A) → ℕ → List A → List A
with_entry blank f i table = slice_set table (i - 1) (f (slice_index_or table (i - 1) blank))

-- the road with another value
abbrev pub with_value : ℕ → Road → Road
with_value x r = record { first = r.first; second = r.second; value = x; mark = r.mark }

-- the road with another mark
abbrev pub with_mark : Mark → Road → Road
with_mark m r = record { first = r.first; second = r.second; value = r.value; mark = m }

abbrev pub set_checks : Scale → Rest → List Road → ℕ → ℕ → List Check
set_checks s d roads i x =
    measure_check s d ∷ size_check d.roads (length roads) ∷ road_check d i ∷ value_check s x ∷ []

abbrev pub ChangesOneValue : Scale → Rest → List Road → ℕ → ℕ → Result Unit Refusal → List Road → Type 0
ChangesOneValue s d roads i x r after =
    Ends (verdict (set_checks s d roads i x)) r (after ≡ roads)
    (λ _. after ≡ with_entry (open_road 0 0 0) (with_value x) i roads)

abbrev pub mark_checks : Rest → List Road → ℕ → List Check
mark_checks d roads i = size_check d.roads (length roads) ∷ road_check d i ∷ []

abbrev pub ChangesOneMark : Rest → List Road → ℕ → Mark → Result Unit Refusal → List Road → Type 0
ChangesOneMark d roads i m r after =
    Ends (verdict (mark_checks d roads i)) r (after ≡ roads)
    (λ _. after ≡ with_entry (open_road 0 0 0) (with_mark m) i roads)

abbrev pub assign_checks : Rest → List Junction → ℕ → ℕ → List Check
assign_checks d junctions v k =
    size_check d.junctions (length junctions) ∷ junction_check d v ∷ district_check d k ∷ []

abbrev pub MovesOneJunction : Rest → List Junction → ℕ → ℕ → Result Unit Refusal → List Junction → Type 0
MovesOneJunction d junctions v k r after =
    Ends (verdict (assign_checks d junctions v k)) r (after ≡ junctions)
    (λ _. after ≡ with_entry (in_district 0) (λ _. in_district k) v junctions)
