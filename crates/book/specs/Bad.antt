-- What makes a word of a book bad, given the words before it. Assumes nothing.
use Rattle.std.specs.Prelude.{◌≡◌, ℕ, ◌+◌, ◌-◌, ◌*◌, ◌/◌, ◌%◌, ◌<◌, ◌≤◌, Bool, true, false, cond, not, ◌&&◌, ◌||◌, nat_le, List, [], ◌∷◌, ◌++◌, length, take, Some, None, filter, Option, ◌==◌, nat_lt, slice_index_or}
use Rattle.measure.specs.Scale.{Scale}
use Rattle.drawing.specs.Edits.{within}
use Rattle.book.specs.declared.counts.Counts.{Counts}
use Rattle.book.specs.declared.names.Names.{Names}
use Rattle.book.specs.declared.names.Names.TheVariants.{Ranks, Hubs}
use Rattle.book.specs.Layout.{word, counts_of, total, Section, section, places_at, order_at, border_offsets_at, border_entries_at, district_offsets_at, district_entries_at, words_in}

-- x is one of the list
abbrev pub among : ℕ → List ℕ → Bool
among x [] = false
among x (y ∷ ys) = x == y || among x ys

-- Words 0 to 7, each by its place: the counts lie within their limits, and word 7 is the number of all words. (Words 0 and 1 are
-- checked before this.)
abbrev pub count_faults : Counts → List Bool
count_faults c =
    false
    ∷ false
    ∷ not (within 1 4096 c.junctions)
    ∷ not (within 1 64 c.districts)
    ∷ nat_lt c.junctions c.borders
    ∷ nat_lt (c.junctions * c.borders) c.border_entries
    ∷ nat_lt (c.junctions * c.junctions) c.district_entries
    ∷ not (c.words == total c)
    ∷ []

abbrev pub bad_count : Counts → ℕ → Bool
bad_count c i = slice_index_or (count_faults c) i false

-- In the sections, j counts from the section's first word.

-- a district is below the number of districts
abbrev pub bad_district : List ℕ → Counts → ℕ → Bool
bad_district ws c j = nat_le c.districts (word ws ((places_at c).first + j))

-- a border is a junction, and did not stand before
abbrev pub bad_border : List ℕ → Counts → ℕ → Bool
bad_border ws c j =
    not (within 1 c.junctions (word ws ((order_at c).first + j)))
    || among (word ws ((order_at c).first + j)) (take j (words_in (order_at c) ws))

-- The rows under the borders and those inside the districts lie alike: where their offsets are, where their entries are, and how
-- many entries there are.
abbrev pub offsets_at : Counts → Names → Section
offsets_at c Ranks = border_offsets_at c
offsets_at c Hubs = district_offsets_at c

abbrev pub entries_at : Counts → Names → Section
entries_at c Ranks = border_entries_at c
entries_at c Hubs = district_entries_at c

abbrev pub entry_count : Counts → Names → ℕ
entry_count c Ranks = c.border_entries
entry_count c Hubs = c.district_entries

-- offset number j, and word number j of the entries
abbrev pub offset : List ℕ → Counts → Names → ℕ → ℕ
offset ws c names j = word ws ((offsets_at c names).first + j)

abbrev pub entry_word : List ℕ → Counts → Names → ℕ → ℕ
entry_word ws c names j = word ws ((entries_at c names).first + j)

-- offsets begin at 0, never fall, never pass the number of entries, and end there
abbrev pub bad_offset : List ℕ → Counts → Names → ℕ → Bool
bad_offset ws c names j =
    (cond (j == 0) (not (offset ws c names j == 0)) (nat_lt (offset ws c names j) (offset ws c names (j - 1)))
    || nat_lt (entry_count c names) (offset ws c names j))
    || (j == c.junctions && not (offset ws c names j == entry_count c names))

-- entry number e is the first of its row: its number is one of the offsets
abbrev pub begins_a_row : List ℕ → Counts → Names → ℕ → Bool
begins_a_row ws c names e = among e (words_in (offsets_at c names) ws)

-- the junction whose row entry number e is in: as many offsets are at most e
abbrev pub row_of : List ℕ → Counts → Names → ℕ → ℕ
row_of ws c names e = length (filter (λ o. nat_le o e) (words_in (offsets_at c names) ws))

-- a name of a hub is right in the row of junction v: a rank is below the number of borders, and a hub of a district row is a
-- junction of the same district as v
abbrev pub right_name : List ℕ → Counts → Names → ℕ → ℕ → Bool
right_name ws c Ranks v h = nat_lt h c.borders
right_name ws c Hubs v h =
    within 1 c.junctions h && word ws ((places_at c).first + (h - 1)) == word ws ((places_at c).first + (v - 1))

-- the value of an entry is a value of the measure, other than none
abbrev pub bad_value : Scale → ℕ → Bool
bad_value s x = not (s.value x) || x == s.none

-- the name in entry number e is right, and above the name before it in the row
abbrev pub bad_name : List ℕ → Counts → Names → ℕ → Bool
bad_name ws c names e =
    not (right_name ws c names (row_of ws c names e) (entry_word ws c names (2 * e)))
    || (not (begins_a_row ws c names e) && nat_le (entry_word ws c names (2 * e)) (entry_word ws c names (2 * (e - 1))))

-- entry number e has its name in word 2 e and its value in word 2 e + 1
abbrev pub bad_entry : Scale → List ℕ → Counts → Names → ℕ → Bool
bad_entry s ws c names j = cond (j % 2 == 0) (bad_name ws c names (j / 2)) (bad_value s (entry_word ws c names j))

-- a part of the words: where it lies, and which of its words are bad
pub record Part : Type 0 where
  pub lies : Section
  pub bad : ℕ → Bool

abbrev pub part : Section → (ℕ → Bool) → Part
part x b = record { lies = x; bad = b }

-- the parts: the counts, the districts and the border order, and the offsets and entries of the rows of one kind
abbrev pub count_parts : Counts → List Part
count_parts c = part (section 0 8) (bad_count c) ∷ []

abbrev pub place_parts : List ℕ → Counts → List Part
place_parts ws c = part (places_at c) (bad_district ws c) ∷ part (order_at c) (bad_border ws c) ∷ []

abbrev pub row_parts : Scale → List ℕ → Counts → Names → List Part
row_parts s ws c names =
    part (offsets_at c names) (bad_offset ws c names) ∷ part (entries_at c names) (bad_entry s ws c names) ∷ []

-- all parts of a book, in order
abbrev pub parts : Scale → List ℕ → Counts → List Part
parts s ws c = count_parts c ++ (place_parts ws c ++ (row_parts s ws c Ranks ++ row_parts s ws c Hubs))

-- the place i lies in a part, and its word there is bad
abbrev pub bad_in : List Part → ℕ → Bool
bad_in [] i = false
bad_in (p ∷ ps) i =
    (nat_le p.lies.first i && (nat_lt i (p.lies.first + p.lies.size) && p.bad (i - p.lies.first))) || bad_in ps i

-- the word at place i is bad
abbrev pub bad : Scale → List ℕ → ℕ → Bool
bad s ws i = bad_in (parts s ws (counts_of ws)) i

-- the first bad word stands at place i
abbrev pub FirstBad : Scale → List ℕ → ℕ → Type 0
FirstBad s ws i = (bad s ws i ≡ true) × ((j : ℕ) → j < i → bad s ws j ≡ false)

-- no word is bad
abbrev pub NoneBad : Scale → List ℕ → Type 0
NoneBad s ws = (j : ℕ) → bad s ws j ≡ false

-- r is the first place from low on and below high at which a test holds, if there is one
abbrev pub Finds : (ℕ → Bool) → ℕ → ℕ → Option ℕ → Type 0
Finds test low high None = (j : ℕ) → low ≤ j → j < high → test j ≡ false
Finds test low high (Some i) = (low ≤ i) × (i < high) × (test i ≡ true) × ((j : ℕ) → low ≤ j → j < i → test j ≡ false)
