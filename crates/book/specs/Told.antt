-- What an opened book tells of its junctions and borders. Assumes nothing.
use Rattle.std.specs.Prelude.{◌≡◌, ℕ, ◌+◌, ◌-◌, ◌<◌, ◌≤◌, true, cond, not, List, [], ◌∷◌, Some, None, Option, Result, nat_lt, slice_index}
use Rattle.std.specs.List.{AllByRecursion}
use Rattle.measure.specs.Scale.{Scale}
use Rattle.network.specs.Labels.{meet}
use Rattle.drawing.specs.Edits.{within}
use Rattle.drawing.specs.Outcomes.{refuse, verdict, Ends}
use Rattle.drawing.specs.declared.refusal.Refusal.{Refusal}
use Rattle.drawing.specs.declared.refusal.Refusal.TheVariants.{NoJunction}
use Rattle.book.specs.Layout.{word, counts_of, places_at, order_at, words_in, entries}
use Rattle.book.specs.Bad.{right_name}
use Rattle.book.specs.Opened.{IsBook, Shows, IsRow, row_words, as_pair_by_rank}
use Rattle.book.specs.declared.counts.Counts.{Counts}
use Rattle.book.specs.declared.names.Names.TheVariants.{Ranks, Hubs}
use Rattle.book.specs.declared.opened.Book.{Book}

-- A call on an opened book answers the counts that its words say.
abbrev pub TellsTheCounts : Book → Counts → Type 0
TellsTheCounts b c = (ws : List ℕ) → Shows ws b → c ≡ counts_of ws

-- A call on an opened book answers the district of junction v, or refuses v with 4 if it is no junction.
abbrev pub TellsTheDistrict : Scale → Book → ℕ → Result ℕ Refusal → Type 0
TellsTheDistrict s b v r =
    (ws : List ℕ) → IsBook s ws → Shows ws b
    → Ends (verdict (refuse NoJunction (not (within 1 (word ws 2) v)) ∷ [])) r (Unit {0})
    (λ d. d ≡ word ws ((places_at (counts_of ws)).first + (v - 1)))

-- the border order of a book
abbrev pub border_order : List ℕ → List ℕ
border_order ws = words_in (order_at (counts_of ws)) ws

-- the junction that has this rank in the border order, if there is one
abbrev pub border_of : List ℕ → ℕ → Option ℕ
border_of ws rank = cond (nat_lt rank (word ws 4)) (Some (slice_index (border_order ws) rank)) None

-- A call on an opened book answers the border of this rank.
abbrev pub TellsTheBorder : Scale → Book → ℕ → Option ℕ → Type 0
TellsTheBorder s b rank r = (ws : List ℕ) → IsBook s ws → Shows ws b → r ≡ border_of ws rank

-- a value and the border where it is reached, if there is one
abbrev pub with_border : ℕ → Option ℕ → Option (ℕ × ℕ)
with_border x None = None
with_border x (Some y) = Some (x, y)

-- the words of a row whose names are ranks in the book's border order
pub record IsBorderRow (s : Scale) (ws p : List ℕ) : Type 0 where
  pub row : IsRow s p
  pub ranks : AllByRecursion (λ e. e.hub < word ws 4) (entries p)

-- A call on an opened book joins two of its border rows: the best joined value, and the first border that gives it.
abbrev pub JoinsBorderRows : Scale → Book → List ℕ → List ℕ → Option (ℕ × ℕ) → Type 0
JoinsBorderRows s b p q r =
    (ws : List ℕ) → IsBook s ws → Shows ws b → IsBorderRow s ws p → IsBorderRow s ws q
    → r ≡ as_pair_by_rank (border_order ws) (meet s (entries p) (entries q))

-- the words of a row of junction v whose names are junctions of its district
pub record IsDistrictRow (s : Scale) (ws : List ℕ) (v : ℕ) (p : List ℕ) : Type 0 where
  pub row : IsRow s p
  pub hubs : AllByRecursion (λ e. right_name ws (counts_of ws) Hubs v e.hub ≡ true) (entries p)

-- The rows that a book hands out are rows that can be joined.
pub record RowsAreRows (s : Scale) (ws : List ℕ) : Type 0 where
  pub border_rows : (v : ℕ) → 1 ≤ v → v ≤ word ws 2 → IsBorderRow s ws (row_words ws Ranks v)
  pub district_rows : (v : ℕ) → 1 ≤ v → v ≤ word ws 2 → IsDistrictRow s ws v (row_words ws Hubs v)
