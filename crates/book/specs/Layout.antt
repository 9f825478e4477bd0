-- How a book lies in its words: eight words of counts, then six sections. Assumes nothing.
use Rattle.std.specs.Prelude.{◌≡◌, ℕ, ◌+◌, ◌*◌, List, [], ◌∷◌, take, drop, slice_index}
use Rattle.network.specs.Labels.{Entry, entry}
use Rattle.book.specs.declared.counts.Counts.{Counts}
use Rattle.book.specs.declared.span.Span.{Span}

-- the word at a place, counted from 0
abbrev pub word : List ℕ → ℕ → ℕ
word ws i = slice_index ws i

-- Words 0 to 7 are the layout's number, the measure's tag, the counts, and the number of all words of the book.
abbrev pub counts_of : List ℕ → Counts
counts_of ws = record {
  junctions = word ws 2;
  districts = word ws 3;
  borders = word ws 4;
  border_entries = word ws 5;
  district_entries = word ws 6;
  words = word ws 7;
}

-- how many words a book with these counts has
abbrev pub total : Counts → ℕ
total c = 10 + 3 * c.junctions + c.borders + 2 * c.border_entries + 2 * c.district_entries

-- a section of a book: the place of its first word, and its length in words
pub record Section : Type 0 where
  pub first : ℕ
  pub size : ℕ

abbrev pub section : ℕ → ℕ → Section
section f n = record { first = f; size = n }

-- the place after a section
abbrev pub after : Section → ℕ
after x = x.first + x.size

-- The six sections follow one another: the district of each junction, the border order, the offsets of the border rows, the
-- border entries, the offsets of the district rows, the district entries. An entry has two words.
abbrev pub places_at : Counts → Section
places_at c = section 8 c.junctions

abbrev pub order_at : Counts → Section
order_at c = section (after (places_at c)) c.borders

abbrev pub border_offsets_at : Counts → Section
border_offsets_at c = section (after (order_at c)) (c.junctions + 1)

abbrev pub border_entries_at : Counts → Section
border_entries_at c = section (after (border_offsets_at c)) (2 * c.border_entries)

abbrev pub district_offsets_at : Counts → Section
district_offsets_at c = section (after (border_entries_at c)) (c.junctions + 1)

abbrev pub district_entries_at : Counts → Section
district_entries_at c = section (after (district_offsets_at c)) (2 * c.district_entries)

-- the span is this section, in a book of so many words
pub record Spans (x : Section) (words : ℕ) (p : Span) : Type 0 where
  pub first : p.first ≡ x.first
  pub length : p.length ≡ x.size
  pub total : p.total ≡ words

-- the words of a section
abbrev pub words_in : Section → List ℕ → List ℕ
words_in x ws = take x.size (drop x.first ws)

-- words, two and two, as entries of a row: the hub's name and the value
abbrev pub entries : List ℕ → List Entry
entries [] = []
entries (h ∷ []) = []
entries (h ∷ x ∷ ws) = entry h x ∷ entries ws
