-- The words of a network's book, with more behind them: the counts, and where each section lies. Assumes nothing.
use Rattle.std.proofs.Common.{◌≡◌, ℕ, ◌+◌, ◌*◌, ◌≤◌, List, [], ◌∷◌, ◌++◌, length, sym, refl, arith}
use Rattle.measure.specs.Scale.{Scale}
use Rattle.network.specs.Labels.{Entry}
use Rattle.network.specs.Networks.{Network}
use Rattle.network.specs.Rows.{border_row, district_row}
use Rattle.book.specs.Layout.{word, counts_of, places_at, order_at, words_in}
use Rattle.book.specs.Words.{border_rows, district_rows, offsets_from, all_entries, entry_words, count_words, book_size, words}
use Rattle.book.specs.declared.names.Names.TheVariants.{Ranks, Hubs}
use Rattle.book.proofs.LaidEndToEnd.{length_entry_words}
use Rattle.book.proofs.RowOffsets.{length_offsets}
use Rattle.book.proofs.RowsInWords.{RowsLie}
use Rattle.book.proofs.BookLimits.{as_many_rows_as_junctions}
use Rattle.book.proofs.BookSections.{length_laid, laid_is_no_longer, six_sections}

-- the words ws begin with the book of the network: each count, and each section
pub record LaidOut (s : Scale) (net : Network) (order ws : List ℕ) : Type 0 where
  pub number_is : word ws 0 ≡ 1
  pub tag_is : word ws 1 ≡ s.tag
  pub junctions_are : word ws 2 ≡ net.junctions
  pub districts_are : word ws 3 ≡ net.districts
  pub borders_are : word ws 4 ≡ length order
  pub border_entries_are : word ws 5 ≡ length (all_entries (border_rows s net order))
  pub district_entries_are : word ws 6 ≡ length (all_entries (district_rows s net))
  pub words_are : word ws 7 ≡ book_size s net order
  pub words_are_there : word ws 7 ≤ length ws
  pub places_lie : words_in (places_at (counts_of ws)) ws ≡ net.places
  pub order_lies : words_in (order_at (counts_of ws)) ws ≡ order
  pub border_rows_lie : RowsLie ws (counts_of ws) Ranks (border_rows s net order)
  pub district_rows_lie : RowsLie ws (counts_of ws) Hubs (district_rows s net)

module _ (s : Scale) (net : Network) (long : length net.places ≡ net.junctions) (order : List ℕ) where
  -- the eight words of counts
  abbrev front : List ℕ
  front = (1 ∷ s.tag ∷ []) ++ (count_words s net order ++ (book_size s net order ∷ []))

  abbrev border_offsets : List ℕ
  border_offsets = offsets_from 0 (border_rows s net order)

  abbrev border_words : List ℕ
  border_words = entry_words (all_entries (border_rows s net order))

  abbrev district_offsets : List ℕ
  district_offsets = offsets_from 0 (district_rows s net)

  abbrev district_words : List ℕ
  district_words = entry_words (all_entries (district_rows s net))

  offsets_are_long : (rows : List (List Entry)) → length rows ≡ net.junctions → length (offsets_from 0 rows) ≡ net.junctions + 1
  offsets_are_long rows e = omega (arith, length_offsets 0 rows)

  border_offsets_are_long : length border_offsets ≡ net.junctions + 1
  border_offsets_are_long =
      offsets_are_long (border_rows s net order) (as_many_rows_as_junctions (border_row s net order) net.junctions)

  district_offsets_are_long : length district_offsets ≡ net.junctions + 1
  district_offsets_are_long =
      offsets_are_long (district_rows s net) (as_many_rows_as_junctions (district_row s net) net.junctions)

  pub book_size_is : book_size s net order ≡ length (words s net order)
  book_size_is =
      omega (
        arith,
        long,
        border_offsets_are_long,
        district_offsets_are_long,
        length_entry_words (all_entries (border_rows s net order)),
        length_entry_words (all_entries (district_rows s net)),
        length_laid front net.places order border_offsets border_words district_offsets district_words [],
      )

  pub words_are_laid_out : (more : List ℕ) → LaidOut s net order (words s net order ++ more)
  words_are_laid_out more =
      let n : ℕ = net.junctions in
      let k : ℕ = length (all_entries (border_rows s net order)) in
      let l : ℕ = length (all_entries (district_rows s net)) in
      let there = six_sections front net.places order border_offsets border_words district_offsets district_words more
      8 n (length order) (n + 1) (2 * k) (n + 1) (2 * l) refl long refl border_offsets_are_long
      (length_entry_words (all_entries (border_rows s net order))) district_offsets_are_long
      (length_entry_words (all_entries (district_rows s net))) in
      record {
        number_is = refl;
        tag_is = refl;
        junctions_are = refl;
        districts_are = refl;
        borders_are = refl;
        border_entries_are = refl;
        district_entries_are = refl;
        words_are = refl;
        words_are_there =
            omega (arith, book_size_is, laid_is_no_longer front net.places order border_offsets border_words district_offsets district_words more);
        places_lie = there.first_is;
        order_lies = there.second_is;
        border_rows_lie = record {
          offsets_lie = there.third_is;
          entries_lie = there.fourth_is;
          as_many_rows = sym (as_many_rows_as_junctions (border_row s net order) n);
          as_many_entries = refl;
        };
        district_rows_lie = record {
          offsets_lie = there.fifth_is;
          entries_lie = there.sixth_is;
          as_many_rows = sym (as_many_rows_as_junctions (district_row s net) n);
          as_many_entries = refl;
        };
      }
