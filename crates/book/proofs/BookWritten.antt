-- The words of a network's book are a book, and show exactly its rows. Assumes nothing.
use Rattle.std.proofs.Common.{◌≡◌, ℕ, suc, ◌+◌, ◌-◌, ◌*◌, ◌<◌, ◌≤◌, true, false, not, ◌||◌, eqb, ltb, List, [], ◌++◌, map, length, get_or, Ok, sym, refl, ap, ◌∙◌, subst, arith}
use Rattle.std.specs.List.{AllByRecursion}
use Rattle.std.proofs.lemmas.Bool.{or_from, and_from, not_from_true, eq-eqb, lt-ltb, le-ltb}
use Rattle.std.proofs.ByRecursion.{All-weaker}
use Rattle.measure.specs.Scale.{Scale, Laws}
use Rattle.network.specs.Lists.{count_up}
use Rattle.network.specs.Labels.{Entry}
use Rattle.network.specs.Networks.{Network, Junction, district, BorderOrder}
use Rattle.network.specs.Rows.{border_row, district_row}
use Rattle.network.specs.Theorems.{RowsAscend}
use Rattle.network.proofs.Conclusions.{rows_ascend_lem}
use Rattle.drawing.specs.Edits.{within}
use Rattle.drawing.specs.Outcomes.{verdict}
use Rattle.book.specs.Layout.{word, counts_of, places_at, entries}
use Rattle.book.specs.Words.{border_rows, district_rows, all_entries, entry_words, words}
use Rattle.book.specs.Bad.{right_name, parts, NoneBad}
use Rattle.book.specs.Ready.{Ready}
use Rattle.book.specs.Opened.{open_checks, row_words}
use Rattle.book.specs.Written.{Bookable, ShowsRow, WordsAreABook}
use Rattle.book.specs.declared.names.Names.{Names}
use Rattle.book.specs.declared.names.Names.TheVariants.{Ranks, Hubs}
use Rattle.book.proofs.LaidEndToEnd.{entries_of_words}
use Rattle.book.proofs.SectionWords.{word_of_section}
use Rattle.book.proofs.RowsInWords.{RowsLie, no_offset_is_bad, row_is_shown}
use Rattle.book.proofs.GoodEntries.{GoodRow, no_entry_is_bad}
use Rattle.book.proofs.BookLimits.{order_has_junctions, order_is_no_longer, as_many_rows_as_junctions, row_by_number, border_entries_are_few, district_entries_are_few}
use Rattle.book.proofs.Parts.{nothing_is_bad}
use Rattle.drawing.proofs.Within.{is_within}
use Rattle.book.proofs.NothingBad.{no_count_is_bad, no_district_is_bad, no_border_is_bad}
use Rattle.book.proofs.BookLaidOut.{LaidOut, book_size_is, words_are_laid_out}

module _ (s : Scale) (laws : Laws s) (net : Network) (order : List ℕ) (bookable : Bookable s net) (is_order : BorderOrder net order)
    (ws : List ℕ) (laid : LaidOut s net order ws) where
  ascending : RowsAscend s net order
  ascending = rows_ascend_lem s laws net order bookable.allowed

  counts_are_ready : Ready ws (counts_of ws)
  counts_are_ready =
      let n : word ws 2 ≡ net.junctions = laid.junctions_are in
      let q : word ws 4 ≡ length order = laid.borders_are in
      let few : length (all_entries (border_rows s net order)) ≤ word ws 2 * word ws 4 =
      subst (λ x. length (all_entries (border_rows s net order)) ≤ x * word ws 4) (sym n)
      (subst (λ x. length (all_entries (border_rows s net order)) ≤ net.junctions * x) (sym q) (border_entries_are_few s net order)) in
      let few_inside : length (all_entries (district_rows s net)) ≤ word ws 2 * word ws 2 =
      subst (λ x. length (all_entries (district_rows s net)) ≤ x * x) (sym n) (district_entries_are_few s net) in
      record {
        some_junctions = omega (arith, bookable.some_junctions);
        few_junctions = omega (arith, bookable.allowed.few_junctions);
        few_districts = omega (arith, bookable.few_districts, laid.districts_are);
        few_borders = omega (arith, order_is_no_longer s net bookable.allowed.sound order is_order);
        few_border_entries = omega (arith, laid.border_entries_are);
        few_district_entries = omega (arith, laid.district_entries_are);
        words_are_counted = omega (arith, laid.words_are, laid.border_entries_are, laid.district_entries_are);
        words_are_there = laid.words_are_there;
      }

  -- the word of a junction's district
  district_word : (v : ℕ) → Junction net v → word ws (8 + (v - 1)) ≡ district net v
  district_word v j =
      word_of_section (places_at (counts_of ws)) ws net.places (v - 1) laid.places_lie (omega (arith, laid.junctions_are))

  border_row_is_good : (v : ℕ) → GoodRow s ws (counts_of ws) Ranks v (border_row s net order v)
  border_row_is_good v = record {
    ascends = ascending.border_ranks_ascend v;
    right =
        All-weaker (λ e. e.hub < length order) (λ e. right_name ws (counts_of ws) Ranks v e.hub ≡ true)
        (λ e h. lt-ltb e.hub (word ws 4) (omega (arith, laid.borders_are))) (border_row s net order v) (ascending.border_ranks_are_below v);
    proper = ascending.border_values_are_proper v;
  }

  district_row_is_good : (v : ℕ) → Junction net v → GoodRow s ws (counts_of ws) Hubs v (district_row s net v)
  district_row_is_good v j = record {
    ascends = ascending.district_hubs_ascend v;
    right =
        All-weaker (λ e. Junction net e.hub × (district net e.hub ≡ district net v)) (λ e. right_name ws (counts_of ws) Hubs v e.hub ≡ true)
        (λ e h. and_from (within 1 (word ws 2) e.hub) (eqb (word ws (8 + (e.hub - 1))) (word ws (8 + (v - 1))))
        (is_within 1 (word ws 2) e.hub h.0.0 (omega (arith, laid.junctions_are, h.0.1)))
        (eq-eqb (word ws (8 + (e.hub - 1))) (word ws (8 + (v - 1))) (district_word e.hub h.0 ∙ h.1 ∙ sym (district_word v j))))
        (district_row s net v) (ascending.district_hubs_are_members v);
    proper = ascending.district_values_are_proper v;
  }

  module _ (names : Names) (f : ℕ → List Entry) where
    -- the rows of all junctions, by number
    rows_are_good : ((v : ℕ) → Junction net v → GoodRow s ws (counts_of ws) names v (f v))
        → (i : ℕ) → i < length (map f (count_up 1 net.junctions))
        → GoodRow s ws (counts_of ws) names (suc i) (get_or (map f (count_up 1 net.junctions)) i [])
    rows_are_good good i l =
        let low : i < net.junctions = omega (arith, as_many_rows_as_junctions f net.junctions) in
        subst (GoodRow s ws (counts_of ws) names (suc i)) (sym (row_by_number f net.junctions i low))
        (good (suc i) (omega arith, omega arith))

    rows_are_shown : RowsLie ws (counts_of ws) names (map f (count_up 1 net.junctions))
        → (v : ℕ) → Junction net v → ShowsRow ws names v (f v)
    rows_are_shown lie v j =
        let rows : List (List Entry) = map f (count_up 1 net.junctions) in
        let again : suc (v - 1) ≡ v = omega (arith, j.0) in
        let words_are : row_words ws names v ≡ entry_words (f v) =
        row_is_shown ws (counts_of ws) names rows lie v j.0 (omega (arith, j.1, as_many_rows_as_junctions f net.junctions))
        ∙ ap entry_words (row_by_number f net.junctions (v - 1) (omega (arith, j.0, j.1)) ∙ ap f again) in
        record { word_by_word = words_are; entry_by_entry = ap entries words_are ∙ entries_of_words (f v) }

  checks_pass : verdict (open_checks s ws) ≡ Ok tt
  checks_pass =
      let long : 8 ≤ length ws = omega (arith, laid.words_are, laid.words_are_there) in
      let starts : (ltb (length ws) 8 || not (eqb (word ws 0) 1)) ≡ false =
      or_from (ltb (length ws) 8) (not (eqb (word ws 0) 1)) (le-ltb (length ws) 8 long)
      (not_from_true (eqb (word ws 0) 1) (eq-eqb (word ws 0) 1 laid.number_is)) in
      let tagged : not (eqb (word ws 1) s.tag) ≡ false =
      not_from_true (eqb (word ws 1) s.tag) (eq-eqb (word ws 1) s.tag laid.tag_is) in
      let there : ltb (length ws) (word ws 7) ≡ false = le-ltb (length ws) (word ws 7) laid.words_are_there in
      rw (starts, tagged, there) refl

  none_is_bad : NoneBad s ws
  none_is_bad =
      let sound = bookable.allowed.sound in
      nothing_is_bad (parts s ws (counts_of ws)) (
        no_count_is_bad ws (counts_of ws) counts_are_ready (omega (arith, bookable.some_districts, laid.districts_are)),
        (
          no_district_is_bad ws (counts_of ws) net.places laid.places_lie (sound.every_junction_has_a_district ∙ sym laid.junctions_are)
              (subst (λ m. AllByRecursion (λ d. d < m) net.places) (sym laid.districts_are) sound.districts_are_below_their_number),
          (
            no_border_is_bad ws (counts_of ws) order laid.order_lies (sym laid.borders_are)
                (subst (λ n. AllByRecursion (λ v. (1 ≤ v) × (v ≤ n)) order) (sym laid.junctions_are) (order_has_junctions s net sound order is_order))
                is_order.holds_none_twice,
            (
              no_offset_is_bad ws (counts_of ws) Ranks (border_rows s net order) laid.border_rows_lie,
              (
                no_entry_is_bad s ws (counts_of ws) Ranks (border_rows s net order) laid.border_rows_lie counts_are_ready
                    (rows_are_good Ranks (border_row s net order) (λ v j. border_row_is_good v)),
                (
                  no_offset_is_bad ws (counts_of ws) Hubs (district_rows s net) laid.district_rows_lie,
                  (
                    no_entry_is_bad s ws (counts_of ws) Hubs (district_rows s net) laid.district_rows_lie counts_are_ready
                        (rows_are_good Hubs (district_row s net) district_row_is_good),
                    tt,
                  ),
                ),
              ),
            ),
          ),
        ),
      )

  laid_out_is_a_book : WordsAreABook s net order ws
  laid_out_is_a_book = record {
    is_a_book = record { checked = checks_pass; none_bad = none_is_bad };
    shows_border_rows = rows_are_shown Ranks (border_row s net order) laid.border_rows_lie;
    shows_district_rows = rows_are_shown Hubs (district_row s net) laid.district_rows_lie;
    shows_districts = laid.places_lie;
    shows_order = laid.order_lies;
    counts_its_words = laid.words_are ∙ book_size_is s net bookable.allowed.sound.every_junction_has_a_district order;
  }

pub words_are_a_book_lem : (s : Scale) → Laws s → (net : Network) (order more : List ℕ) → Bookable s net → BorderOrder net order
    → WordsAreABook s net order (words s net order ++ more)
words_are_a_book_lem s laws net order more bookable is_order =
    laid_out_is_a_book s laws net order bookable is_order (words s net order ++ more)
    (words_are_laid_out s net bookable.allowed.sound.every_junction_has_a_district order more)
