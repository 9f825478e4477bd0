-- A row that an opened book hands out is a row: its entries are whole, its hubs ascend, and its values are proper. Assumes nothing.
use Rattle.std.proofs.Common.{◌≡◌, ℕ, zero, suc, ◌+◌, ◌-◌, ◌*◌, ◌<◌, ◌≤◌, true, false, not, ◌&&◌, eqb, leb, List, ◌∷◌, length, take, drop, sym, refl, ap, ◌∙◌, subst, arith}
use Rattle.std.specs.List.{AllByRecursion}
use Rattle.std.proofs.lemmas.List.{drop_more}
use Rattle.std.proofs.lemmas.Bool.{or_parts, not-false, ne_eqb, eqb-false, leb-false, ltb-true}
use Rattle.std.proofs.ByRecursion.{All-weaker}
use Rattle.measure.specs.Scale.{Scale}
use Rattle.network.specs.Labels.{Entry, entry, Ascends}
use Rattle.network.specs.Theorems.{Proper}
use Rattle.book.specs.Layout.{word, counts_of, entries}
use Rattle.book.specs.Words.{entry_words}
use Rattle.book.specs.Bad.{offset, entries_at, entry_count, entry_word, right_name, begins_a_row, row_of, bad_name, bad_value}
use Rattle.book.specs.Opened.{IsBook, IsRow, row_words}
use Rattle.book.specs.Told.{RowsAreRows}
use Rattle.book.specs.declared.counts.Counts.{Counts}
use Rattle.book.specs.declared.names.Names.{Names}
use Rattle.book.specs.declared.names.Names.TheVariants.{Ranks, Hubs}
use Rattle.book.proofs.IsBook.{ready, good_offsets, good_entries}
use Rattle.book.proofs.SectionWords.{entries_size, entries_fit}
use Rattle.book.proofs.RowsOfEntries.{next_offset, offset_within, row_of_an_entry, begins_at_the_offset}
use Rattle.book.proofs.BadInRow.{at_a_name, at_a_value}

module _ (ws : List ℕ) where
  -- n entries from place f on, as words
  abbrev some_entries : ℕ → ℕ → List ℕ
  some_entries n f = take (2 * n) (drop f ws)

  -- entry number k from place f on
  abbrev entry_from : ℕ → ℕ → Entry
  entry_from f k = entry (word ws (f + 2 * k)) (word ws (f + (2 * k + 1)))

  one_entry_first :
      (n f : ℕ) → f + 2 * suc n ≤ length ws → some_entries (suc n) f ≡ word ws f ∷ word ws (f + 1) ∷ some_entries n (f + 2)
  one_entry_first n f there =
      let twice : 2 * suc n ≡ suc (suc (2 * n)) = omega arith in
      let next : f + 1 + 1 ≡ f + 2 = omega arith in
      let first = drop_more ws f 0 (omega arith) in
      let second = drop_more ws (f + 1) 0 (omega arith) in
      ap (λ m. take m (drop f ws)) twice
      ∙ ap (take (suc (suc (2 * n)))) (first ∙ ap (λ xs. word ws f ∷ xs) second)
      ∙ ap (λ m. word ws f ∷ word ws (f + 1) ∷ some_entries n m) next

  later : (f k : ℕ) → entry_from (f + 2) k ≡ entry_from f (suc k)
  later f k =
      let a : f + 2 + 2 * k ≡ f + 2 * suc k = omega arith in
      let b : f + 2 + (2 * k + 1) ≡ f + (2 * suc k + 1) = omega arith in
      ap (λ m. entry (word ws m) (word ws (f + 2 + (2 * k + 1)))) a ∙ ap (λ m. entry (word ws (f + 2 * suc k)) (word ws m)) b

  here : (f : ℕ) → entry (word ws f) (word ws (f + 1)) ≡ entry_from f 0
  here f = let a : f ≡ f + 2 * 0 = omega arith in ap (λ m. entry (word ws m) (word ws (f + 1))) a

  -- what holds of each of the entries by its number holds of all
  all_of_them :
      (P : Entry → Type 0) (n f : ℕ) → f + 2 * n ≤ length ws → ((k : ℕ) → k < n → P (entry_from f k)) → AllByRecursion P (entries (some_entries n f))
  all_of_them P zero f there h = tt
  all_of_them P (suc n) f there h =
      subst (λ xs. AllByRecursion P (entries xs)) (sym (one_entry_first n f there)) (
        subst P (sym (here f)) (h 0 (omega arith)),
        all_of_them P n (f + 2) (omega arith) (λ k l. subst P (sym (later f k)) (h (suc k) (omega arith))),
      )

  they_are_whole : (n f : ℕ) → f + 2 * n ≤ length ws → some_entries n f ≡ entry_words (entries (some_entries n f))
  they_are_whole zero f there = refl
  they_are_whole (suc n) f there =
      subst (λ xs. xs ≡ entry_words (entries xs)) (sym (one_entry_first n f there))
      (ap (λ xs. word ws f ∷ word ws (f + 1) ∷ xs) (they_are_whole n (f + 2) (omega arith)))

  -- an entry below the first of them
  in_front : (e : Entry) (n f : ℕ) → f + 2 * n ≤ length ws → (0 < n → e.hub < word ws f)
      → Ascends (entries (some_entries n f)) → Ascends (e ∷ entries (some_entries n f))
  in_front e zero f there h a = tt
  in_front e (suc n) f there h a =
      subst (λ xs. Ascends (e ∷ entries xs)) (sym (one_entry_first n f there))
      (h (omega arith), subst (λ xs. Ascends (entries xs)) (one_entry_first n f there) a)

  they_ascend :
      (n f : ℕ) → f + 2 * n ≤ length ws → ((k : ℕ) → suc k < n → (entry_from f k).hub < (entry_from f (suc k)).hub)
      → Ascends (entries (some_entries n f))
  they_ascend zero f there h = tt
  they_ascend (suc n) f there h =
      subst (λ xs. Ascends (entries xs)) (sym (one_entry_first n f there))
      (in_front (entry (word ws f) (word ws (f + 1))) n (f + 2) (omega arith)
      (λ some. subst (λ e. e.hub < word ws (f + 2)) (sym (here f))
      (subst (λ m. (entry_from f 0).hub < word ws m) (let z : f + 2 * 1 ≡ f + 2 = omega arith in z) (h 0 (omega arith))))
      (they_ascend n (f + 2) (omega arith)
      (λ k l. subst (λ e. (entry_from (f + 2) k).hub < e.hub) (sym (later f (suc k)))
      (subst (λ e. e.hub < (entry_from f (suc (suc k))).hub) (sym (later f k)) (h (suc k) (omega arith))))))

-- a rank that is right is below the number of borders
right_rank : (ws : List ℕ) (c : Counts) (v h : ℕ) → right_name ws c Ranks v h ≡ true → h < c.borders
right_rank ws c v h t = ltb-true h c.borders t

module _ (s : Scale) (ws : List ℕ) (book : IsBook s ws) (names : Names) (v : ℕ) (low : 1 ≤ v) (high : v ≤ word ws 2) where
  abbrev c : Counts
  c = counts_of ws

  abbrev begin : ℕ
  begin = offset ws c names (v - 1)

  abbrev end : ℕ
  end = offset ws c names v

  abbrev place : ℕ
  place = (entries_at c names).first + 2 * begin

  -- the row's entries lie within the words
  lies_within : place + 2 * (end - begin) ≤ length ws
  lies_within =
      let good = ready s ws book in
      let offsets = good_offsets s ws book names in
      let fit = entries_fit ws c names good in
      let size = entries_size c names in
      let rises = next_offset ws c names offsets v low high in
      let few = offset_within ws c names offsets v high in
      omega arith

  name_place : (k : ℕ) → word ws (place + 2 * k) ≡ entry_word ws c names (2 * (begin + k))
  name_place k =
      let e : place + 2 * k ≡ (entries_at c names).first + 2 * (begin + k) = omega arith in
      ap (word ws) e

  value_place : (k : ℕ) → word ws (place + (2 * k + 1)) ≡ entry_word ws c names (2 * (begin + k) + 1)
  value_place k =
      let e : place + (2 * k + 1) ≡ (entries_at c names).first + (2 * (begin + k) + 1) = omega arith in
      ap (word ws) e

  module _ (k : ℕ) (below : k < end - begin) where
    abbrev number : ℕ
    number = begin + k

    is_counted : number < entry_count c names
    is_counted =
        let few = offset_within ws c names (good_offsets s ws book names) v high in
        omega arith

    name_is_good : bad_name ws c names number ≡ false
    name_is_good =
        let few = is_counted in
        sym (at_a_name s ws c names number) ∙ good_entries s ws book names (2 * number) (omega arith)

    value_is_good : bad_value s (entry_word ws c names (2 * number + 1)) ≡ false
    value_is_good =
        let few = is_counted in
        sym (at_a_value s ws c names number) ∙ good_entries s ws book names (2 * number + 1) (omega arith)

    is_in_the_row : row_of ws c names number ≡ v
    is_in_the_row =
        row_of_an_entry ws c names (ready s ws book) (good_offsets s ws book names) v number low high (omega arith) (omega arith)

    name_is_right : right_name ws c names v (word ws (place + 2 * k)) ≡ true
    name_is_right =
        let h = entry_word ws c names (2 * number) in
        let right = right_name ws c names (row_of ws c names number) h in
        let repeats = not (begins_a_row ws c names number) && leb h (entry_word ws c names (2 * (number - 1))) in
        let t : right ≡ true = not-false right (or_parts (not right) repeats name_is_good).0 in
        subst (λ x. right_name ws c names v x ≡ true) (sym (name_place k))
        (subst (λ u. right_name ws c names u h ≡ true) is_in_the_row t)

    value_is_proper : Proper s (word ws (place + (2 * k + 1)))
    value_is_proper =
        let x = entry_word ws c names (2 * number + 1) in
        let t = or_parts (not (s.value x)) (eqb x s.none) value_is_good in
        subst (Proper s) (sym (value_place k)) (not-false (s.value x) t.0, eqb-false x s.none t.1)

  -- an entry after the first has a greater name than the one before it
  names_ascend : (k : ℕ) → suc k < end - begin → word ws (place + 2 * k) < word ws (place + 2 * suc k)
  names_ascend k below =
      let e = begin + suc k in
      let h = entry_word ws c names (2 * e) in
      let before = entry_word ws c names (2 * (e - 1)) in
      let right = right_name ws c names (row_of ws c names e) h in
      let begins = begins_a_row ws c names e in
      let repeats : (not begins && leb h before) ≡ false = (or_parts (not right) (not begins && leb h before) (name_is_good (suc k) below)).1 in
      let inner : begins ≡ false =
      begins_at_the_offset ws c names (ready s ws book) (good_offsets s ws book names) v e low high (omega arith) (omega arith)
      ∙ ne_eqb e begin (λ z. omega arith) in
      let greater : before < h = leb-false h before (subst (λ b. (not b && leb h before) ≡ false) inner repeats) in
      let same : begin + k ≡ e - 1 = omega arith in
      subst (λ x. x < word ws (place + 2 * suc k)) (sym (name_place k ∙ ap (λ m. entry_word ws c names (2 * m)) same))
      (subst (λ x. before < x) (sym (name_place (suc k))) greater)

  -- the row of a junction of a book is a row
  pub row_is_a_row : IsRow s (row_words ws names v)
  row_is_a_row = record {
    whole = they_are_whole ws (end - begin) place lies_within;
    ascends = they_ascend ws (end - begin) place lies_within names_ascend;
    proper = all_of_them ws (λ e. Proper s e.worth) (end - begin) place lies_within value_is_proper;
  }

  -- and each name in it is right
  pub row_names_are_right : AllByRecursion (λ e. right_name ws c names v e.hub ≡ true) (entries (row_words ws names v))
  row_names_are_right = all_of_them ws (λ e. right_name ws c names v e.hub ≡ true) (end - begin) place lies_within name_is_right

pub rows_are_rows_lem : (s : Scale) (ws : List ℕ) → IsBook s ws → RowsAreRows s ws
rows_are_rows_lem s ws book = record {
  border_rows = λ v low high. record {
    row = row_is_a_row s ws book Ranks v low high;
    ranks = All-weaker (λ e. right_name ws (counts_of ws) Ranks v e.hub ≡ true) (λ e. e.hub < word ws 4)
        (λ e. right_rank ws (counts_of ws) v e.hub) (entries (row_words ws Ranks v)) (row_names_are_right s ws book Ranks v low high);
  };
  district_rows = λ v low high. record {
    row = row_is_a_row s ws book Hubs v low high;
    hubs = row_names_are_right s ws book Hubs v low high;
  };
}
