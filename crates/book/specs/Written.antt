-- What is proved of the words that a network's book is written in. Assumes nothing.
use Rattle.std.specs.Prelude.{◌≡◌, ℕ, ◌≤◌, List, length}
use Rattle.measure.specs.Scale.{Scale}
use Rattle.network.specs.Networks.{Network, Junction}
use Rattle.network.specs.Labels.{Entry}
use Rattle.network.specs.Rows.{border_row, district_row}
use Rattle.network.specs.Theorems.{Allowed}
use Rattle.book.specs.Layout.{word, counts_of, places_at, order_at, words_in, entries}
use Rattle.book.specs.Words.{entry_words, words}
use Rattle.book.specs.Opened.{IsBook, row_words}
use Rattle.book.specs.declared.names.Names.{Names}
use Rattle.book.specs.declared.names.Names.TheVariants.{Ranks, Hubs}

-- A network of which a book can be written: allowed, and with a junction at least, and from 1 to 64 districts.
pub record Bookable (s : Scale) (net : Network) : Type 0 where
  pub allowed : Allowed s net
  pub some_junctions : 1 ≤ net.junctions
  pub some_districts : 1 ≤ net.districts
  pub few_districts : net.districts ≤ 64

-- the words show this row for junction v, word by word, and so read as its entries
pub record ShowsRow (ws : List ℕ) (names : Names) (v : ℕ) (row : List Entry) : Type 0 where
  pub word_by_word : row_words ws names v ≡ entry_words row
  pub entry_by_entry : entries (row_words ws names v) ≡ row

-- The words ws begin with the book of the network under this order: they are a book, which shows exactly the network's rows, its
-- districts and the order, and which says how many words it has.
pub record WordsAreABook (s : Scale) (net : Network) (order : List ℕ) (ws : List ℕ) : Type 0 where
  pub is_a_book : IsBook s ws
  pub shows_border_rows : (v : ℕ) → Junction net v → ShowsRow ws Ranks v (border_row s net order v)
  pub shows_district_rows : (v : ℕ) → Junction net v → ShowsRow ws Hubs v (district_row s net v)
  pub shows_districts : words_in (places_at (counts_of ws)) ws ≡ net.places
  pub shows_order : words_in (order_at (counts_of ws)) ws ≡ order
  pub counts_its_words : word ws 7 ≡ length (words s net order)
