-- The numbers of a refusal, and how it is written. Assumes nothing.
use Rattle.std.specs.Prelude.{ℕ, List, [], ◌∷◌, ◌++◌, decimal}
use Rattle.drawing.specs.declared.refusal.Table.{Table}
use Rattle.drawing.specs.declared.refusal.Table.TheVariants.{Junctions, Roads, Book}
use Rattle.drawing.specs.declared.refusal.Refusal.{Refusal}
use Rattle.drawing.specs.declared.refusal.Refusal.TheVariants.{OtherMeasure, BadCount, ShortTable, NoJunction, NoRoad, NoDistrict, EndsAlike, NotLawful, RoadsFull, NothingLeft, WorkLeft, ShortBook, NoBook, BadEntry}

-- the number of a table
abbrev pub table_number : Table → ℕ
table_number Junctions = 1
table_number Roads = 2
table_number Book = 3

-- which refusal it is
abbrev pub first_number : Refusal → ℕ
first_number OtherMeasure = 1
first_number BadCount = 2
first_number (ShortTable needed) = 3
first_number NoJunction = 4
first_number NoRoad = 5
first_number NoDistrict = 5
first_number EndsAlike = 6
first_number NotLawful = 7
first_number RoadsFull = 8
first_number NothingLeft = 9
first_number WorkLeft = 9
first_number (ShortBook words) = 10
first_number NoBook = 11
first_number (BadEntry table place) = 12

-- the numbers that it carries
abbrev pub carried : Refusal → List ℕ
carried OtherMeasure = []
carried BadCount = []
carried (ShortTable needed) = needed ∷ []
carried NoJunction = []
carried NoRoad = []
carried NoDistrict = []
carried EndsAlike = []
carried NotLawful = []
carried RoadsFull = []
carried NothingLeft = []
carried WorkLeft = []
carried (ShortBook words) = words ∷ []
carried NoBook = []
carried (BadEntry table place) = table_number table ∷ place ∷ []

-- the numbers of a refusal: which it is, and then what it carries
abbrev pub numbers : Refusal → List ℕ
numbers r = first_number r ∷ carried r

-- numbers in decimal digits, with a space between two
abbrev pub spaced : List ℕ → List ℕ
spaced [] = []
spaced (n ∷ []) = decimal n
spaced (n ∷ m ∷ ns) = decimal n ++ 32 ∷ spaced (m ∷ ns)

-- a refusal as text: its numbers
abbrev pub written : Refusal → List ℕ
written r = spaced (numbers r)
