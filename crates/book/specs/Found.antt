-- What the functions that look for the first bad word answer. Assumes nothing.
use Rattle.std.specs.Prelude.{◌≡◌, ℕ, ◌+◌, ◌*◌, ◌<◌, ◌≤◌, Bool, true, false, cond, List, [], ◌∷◌, Some, None, Option}
use Rattle.drawing.specs.Marked.{is_marked}
use Rattle.drawing.specs.declared.marks.Marks.{Marks}
use Rattle.book.specs.declared.counts.Counts.{Counts}
use Rattle.book.specs.Layout.{Section}
use Rattle.book.specs.Bad.{among, Part, part, bad_in}

-- the place of the first test that holds, if the first of the list stands at place k
abbrev pub first_true : ℕ → List Bool → Option ℕ
first_true k [] = None
first_true k (b ∷ bs) = cond b (Some k) (first_true (k + 1) bs)

-- r is the place of the first bad word in these parts, if there is one
abbrev pub FirstIn : List Part → Option ℕ → Type 0
FirstIn ps None = (j : ℕ) → bad_in ps j ≡ false
FirstIn ps (Some i) = (bad_in ps i ≡ true) × ((j : ℕ) → j < i → bad_in ps j ≡ false)

-- r is the place of the first bad word in one part, if there is one
abbrev pub FirstInPart : Section → (ℕ → Bool) → Option ℕ → Type 0
FirstInPart x test r = FirstIn (part x test ∷ []) r

-- the counts lie within their limits, but for the number of words
pub record Few (c : Counts) : Type 0 where
  pub junctions : c.junctions ≤ 4096
  pub borders : c.borders ≤ c.junctions
  pub border_entries : c.border_entries ≤ c.junctions * c.borders
  pub district_entries : c.district_entries ≤ c.junctions * c.junctions

-- the marks say, of each number to 4,096, whether it is one of the borders so far
abbrev pub MarkTheBorders : Marks → List ℕ → Type 0
MarkTheBorders seen borders = (b : ℕ) → b ≤ 4096 → is_marked seen b ≡ among b borders
