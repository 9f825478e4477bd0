-- Rows that lie in words, as offsets and entries: each row can be read back, and no offset is bad. Assumes nothing.
use Rattle.std.proofs.Common.{◌≡◌, ℕ, suc, ◌+◌, ◌-◌, ◌*◌, ◌<◌, ◌≤◌, false, cond, not, ◌&&◌, ◌||◌, eqb, ltb, List, [], ◌++◌, length, get_or, take, drop, sym, ap, ◌∙◌, ⊎_elim, arith}
use Rattle.std.proofs.lemmas.Bool.{cases_Bool, cond_both, or_from, and_left, and_right, not_from_true, eq-eqb, eqb-true, le-ltb}
use Rattle.network.specs.Labels.{Entry}
use Rattle.book.specs.Layout.{words_in}
use Rattle.book.specs.Words.{offsets_from, all_entries, entry_words}
use Rattle.book.specs.Bad.{offsets_at, entries_at, entry_count, offset, bad_offset}
use Rattle.book.specs.declared.counts.Counts.{Counts}
use Rattle.book.specs.declared.names.Names.{Names}
use Rattle.book.proofs.LaidEndToEnd.{middle, length_entry_words, entry_words_append}
use Rattle.book.proofs.SectionWords.{word_of_section, part_of_section, offsets_size, entries_size}
use Rattle.book.proofs.RowOffsets.{before, offset_is, before_none, before_more, before_all, before_rises, before_is_at_most_all, cut}

-- the rows lie in the words: their offsets in the section of offsets, their entries in that of entries
pub record RowsLie (ws : List ℕ) (c : Counts) (names : Names) (rows : List (List Entry)) : Type 0 where
  pub offsets_lie : words_in (offsets_at c names) ws ≡ offsets_from 0 rows
  pub entries_lie : words_in (entries_at c names) ws ≡ entry_words (all_entries rows)
  pub as_many_rows : c.junctions ≡ length rows
  pub as_many_entries : entry_count c names ≡ length (all_entries rows)

-- an offset a, after the offset b, where n is the number of junctions and k that of entries
good_offset : (j n a b k : ℕ) → (j ≡ 0 → a ≡ 0) → b ≤ a → a ≤ k → (j ≡ n → a ≡ k)
    → ((cond (eqb j 0) (not (eqb a 0)) (ltb a b) || ltb k a) || (eqb j n && not (eqb a k))) ≡ false
good_offset j n a b k begins rises small ends =
    or_from (cond (eqb j 0) (not (eqb a 0)) (ltb a b) || ltb k a) (eqb j n && not (eqb a k))
    (or_from (cond (eqb j 0) (not (eqb a 0)) (ltb a b)) (ltb k a)
    (cond_both (eqb j 0) (not (eqb a 0)) (ltb a b) (λ x. x ≡ false)
    (λ t. not_from_true (eqb a 0) (eq-eqb a 0 (begins (eqb-true j 0 t))))
    (λ f. le-ltb a b rises))
    (le-ltb k a small))
    (⊎_elim (λ t. and_right (eqb j n) (not (eqb a k)) (not_from_true (eqb a k) (eq-eqb a k (ends (eqb-true j n t)))))
    (λ f. and_left (eqb j n) (not (eqb a k)) f) (cases_Bool (eqb j n)))

module _ (ws : List ℕ) (c : Counts) (names : Names) (rows : List (List Entry)) (lie : RowsLie ws c names rows) where
  pub offset_here : (j : ℕ) → j ≤ length rows → offset ws c names j ≡ before rows j
  offset_here j l =
      word_of_section (offsets_at c names) ws (offsets_from 0 rows) j lie.offsets_lie (omega (arith, offsets_size c names, lie.as_many_rows))
      ∙ offset_is rows j l

  pub no_offset_is_bad : (j : ℕ) → j < (offsets_at c names).size → bad_offset ws c names j ≡ false
  no_offset_is_bad j l =
      let h : j ≤ length rows = omega (arith, offsets_size c names, lie.as_many_rows) in
      let here : offset ws c names j ≡ before rows j = offset_here j h in
      let last : offset ws c names (j - 1) ≡ before rows (j - 1) = offset_here (j - 1) (omega arith) in
      let count : entry_count c names ≡ length (all_entries rows) = lie.as_many_entries in
      good_offset j c.junctions (offset ws c names j) (offset ws c names (j - 1)) (entry_count c names)
      (λ e. here ∙ ap (before rows) e ∙ before_none rows)
      (omega (arith, before_rises rows (j - 1) j (omega arith)))
      (omega (arith, before_is_at_most_all rows j h))
      (λ e. here ∙ ap (before rows) (e ∙ lie.as_many_rows) ∙ before_all rows ∙ sym count)

  -- from offset number v - 1 to offset number v, the words are those of the row of junction v
  pub row_is_shown : (v : ℕ) → 1 ≤ v → v ≤ length rows
      → take (2 * (offset ws c names v - offset ws c names (v - 1))) (drop ((entries_at c names).first + 2 * offset ws c names (v - 1)) ws)
      ≡ entry_words (get_or rows (v - 1) [])
  row_is_shown v low high =
      let j : ℕ = v - 1 in
      let row : List Entry = get_or rows j [] in
      let a : ℕ = 2 * before rows j in
      let m : ℕ = 2 * length row in
      let first : ℕ = (entries_at c names).first in
      let all : List Entry = all_entries rows in
      let part = cut rows j (omega arith) in
      let from : offset ws c names j ≡ before rows j = offset_here j (omega arith) in
      let to : offset ws c names v ≡ before rows v = offset_here v high in
      let again : suc j ≡ v = omega arith in
      let more : before rows v ≡ before rows j + length row = ap (before rows) (sym again) ∙ before_more rows j (omega arith) in
      let size : 2 * (offset ws c names v - offset ws c names j) ≡ m = omega arith in
      let start : first + 2 * offset ws c names j ≡ first + a = omega arith in
      let inside : a + m ≤ (entries_at c names).size =
      omega (arith, entries_size c names, lie.as_many_entries, before_is_at_most_all rows v high) in
      let whole : entry_words all ≡ entry_words part.front ++ (entry_words row ++ entry_words part.rest) =
      ap entry_words part.all_are ∙ entry_words_append part.front (row ++ part.rest)
      ∙ ap (λ l. entry_words part.front ++ l) (entry_words_append row part.rest) in
      ap (λ n. take n (drop (first + 2 * offset ws c names j) ws)) size
      ∙ ap (λ n. take m (drop n ws)) start
      ∙ part_of_section (entries_at c names) ws a m inside
      ∙ ap (λ l. take m (drop a l)) (lie.entries_lie ∙ whole)
      ∙ middle (entry_words part.front) (entry_words row) (entry_words part.rest) a m
      (omega (arith, length_entry_words part.front, part.front_is_long)) (length_entry_words row)
