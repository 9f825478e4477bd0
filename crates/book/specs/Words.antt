-- The words of the book of a network. Assumes nothing.
use Rattle.std.specs.Prelude.{ℕ, ◌+◌, ◌*◌, List, [], ◌∷◌, ◌++◌, map, length}
use Rattle.measure.specs.Scale.{Scale}
use Rattle.network.specs.Lists.{count_up}
use Rattle.network.specs.Networks.{Network}
use Rattle.network.specs.Labels.{Entry}
use Rattle.network.specs.Rows.{border_row, district_row}

-- the rows of all junctions, in order
abbrev pub border_rows : Scale → Network → List ℕ → List (List Entry)
border_rows s net order = map (border_row s net order) (count_up 1 net.junctions)

abbrev pub district_rows : Scale → Network → List (List Entry)
district_rows s net = map (district_row s net) (count_up 1 net.junctions)

-- how many entries come before each row, if k come before the first; and at the end how many there are
abbrev pub offsets_from : ℕ → List (List Entry) → List ℕ
offsets_from k [] = k ∷ []
offsets_from k (row ∷ rows) = k ∷ offsets_from (k + length row) rows

-- all entries of a list of rows
abbrev pub all_entries : List (List Entry) → List Entry
all_entries [] = []
all_entries (row ∷ rows) = row ++ all_entries rows

-- entries as words: the hub's name and the value of each
abbrev pub entry_words : List Entry → List ℕ
entry_words [] = []
entry_words (e ∷ es) = e.hub ∷ e.worth ∷ entry_words es

-- the book's counts, as words 2 to 6 have them: junctions, districts, borders, border entries, district entries
abbrev pub count_words : Scale → Network → List ℕ → List ℕ
count_words s net order =
    net.junctions
    ∷ net.districts
    ∷ length order
    ∷ length (all_entries (border_rows s net order))
    ∷ length (all_entries (district_rows s net))
    ∷ []

-- how many words the book has
abbrev pub book_size : Scale → Network → List ℕ → ℕ
book_size s net order =
    10 + 3 * net.junctions + length order + 2 * length (all_entries (border_rows s net order))
    + 2 * length (all_entries (district_rows s net))

-- all words of the book of a network, under a border order
abbrev pub words : Scale → Network → List ℕ → List ℕ
words s net order =
    (1 ∷ s.tag ∷ [])
    ++ (count_words s net order
    ++ ((book_size s net order ∷ [])
    ++ (net.places
    ++ (order
    ++ (offsets_from 0 (border_rows s net order)
    ++ (entry_words (all_entries (border_rows s net order))
    ++ (offsets_from 0 (district_rows s net)
    ++ entry_words (all_entries (district_rows s net)))))))))
