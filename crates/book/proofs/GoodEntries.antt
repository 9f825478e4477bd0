-- Rows that lie in words, with hubs that ascend and are right and with proper values: none of their words is bad. Assumes nothing.
use Rattle.std.proofs.Common.{◌≡◌, ℕ, zero, suc, ◌+◌, ◌-◌, ◌*◌, ◌/◌, ◌%◌, ◌<◌, Bool, true, false, not, ◌&&◌, eqb, leb, List, [], ◌∷◌, length, get_or, refl, ap, ◌∙◌, subst, ⊎_elim, arith}
use Rattle.std.specs.List.{AllByRecursion}
use Rattle.std.proofs.lemmas.Bool.{cases_eq, cond_both, or_from, and_left, and_right, not_from_true, eqb-false, eq-eqb, ne_eqb, lt-leb}
use Rattle.std.proofs.ByRecursion.{All-get_or}
use Rattle.measure.specs.Scale.{Scale}
use Rattle.network.specs.Labels.{Entry, entry, Ascends}
use Rattle.network.specs.Theorems.{Proper}
use Rattle.book.specs.Words.{all_entries, entry_words}
use Rattle.book.specs.Ready.{Ready, GoodOffsets}
use Rattle.book.specs.Bad.{offset, entries_at, entry_word, begins_a_row, row_of, right_name, bad_value, bad_name, bad_entry}
use Rattle.book.specs.declared.counts.Counts.{Counts}
use Rattle.book.specs.declared.names.Names.{Names}
use Rattle.book.proofs.SectionWords.{word_of_section, offsets_size, entries_size}
use Rattle.book.proofs.RowsOfEntries.{row_of_an_entry, begins_at_the_offset}
use Rattle.book.proofs.RowOffsets.{before, before_more, entry_in_row, Located, locate}
use Rattle.book.proofs.RowsInWords.{RowsLie, offset_here, no_offset_is_bad}

-- what is taken where there is no entry
abbrev pub no_entry : Entry
no_entry = entry 0 0

-- the words of entry number e are number 2 e and 2 e + 1
pub hub_word : (es : List Entry) (e j : ℕ) → j ≡ 2 * e → e < length es → get_or (entry_words es) j 0 ≡ (get_or es e no_entry).hub
hub_word [] e j t l = absurd (omega arith)
hub_word (x ∷ es) zero zero t l = refl
hub_word (x ∷ es) zero (suc j) t l = absurd (omega arith)
hub_word (x ∷ es) (suc e) zero t l = absurd (omega arith)
hub_word (x ∷ es) (suc e) (suc zero) t l = absurd (omega arith)
hub_word (x ∷ es) (suc e) (suc (suc j)) t l = hub_word es e j (omega arith) (omega arith)

pub value_word : (es : List Entry) (e j : ℕ) → j ≡ 2 * e + 1 → e < length es → get_or (entry_words es) j 0 ≡ (get_or es e no_entry).worth
value_word [] e j t l = absurd (omega arith)
value_word (x ∷ es) e zero t l = absurd (omega arith)
value_word (x ∷ es) zero (suc zero) t l = refl
value_word (x ∷ es) zero (suc (suc j)) t l = absurd (omega arith)
value_word (x ∷ es) (suc e) (suc zero) t l = absurd (omega arith)
value_word (x ∷ es) (suc e) (suc (suc j)) t l = value_word es e j (omega arith) (omega arith)

-- the hubs of a row ascend from one entry to the next
pub next_hub_is_above : (es : List Entry) → Ascends es → (i : ℕ) → suc i < length es → (get_or es i no_entry).hub < (get_or es (suc i) no_entry).hub
next_hub_is_above [] a i l = absurd (omega arith)
next_hub_is_above (x ∷ []) a i l = absurd (omega arith)
next_hub_is_above (x ∷ y ∷ es) a zero l = a.0
next_hub_is_above (x ∷ y ∷ es) a (suc i) l = next_hub_is_above (y ∷ es) a.1 i (omega arith)

-- a row with hubs that ascend and that are right in the row of v, and with proper values
pub record GoodRow (s : Scale) (ws : List ℕ) (c : Counts) (names : Names) (v : ℕ) (row : List Entry) : Type 0 where
  pub ascends : Ascends row
  pub right : AllByRecursion (λ e. right_name ws c names v e.hub ≡ true) row
  pub proper : AllByRecursion (λ e. Proper s e.worth) row

pub proper_is_not_bad : (s : Scale) (x : ℕ) → Proper s x → bad_value s x ≡ false
proper_is_not_bad s x p = or_from (not (s.value x)) (eqb x s.none) (not_from_true (s.value x) p.0) (ne_eqb x s.none p.1)

module _ (s : Scale) (ws : List ℕ) (c : Counts) (names : Names) (rows : List (List Entry)) (lie : RowsLie ws c names rows)
    (ready : Ready ws c) (good : (i : ℕ) → i < length rows → GoodRow s ws c names (suc i) (get_or rows i [])) where
  offsets_are_good : GoodOffsets ws c names
  offsets_are_good j l = no_offset_is_bad ws c names rows lie j (omega (arith, offsets_size c names))

  -- an entry is in the row where it lies, and begins it if it is the first there
  module _ (e : ℕ) (at : Located rows e) where
    row_begins : offset ws c names (suc at.row - 1) ≡ before rows at.row
    row_begins =
        let same : suc at.row - 1 ≡ at.row = omega arith in
        ap (offset ws c names) same ∙ offset_here ws c names rows lie at.row (omega arith)

    row_ends : e < offset ws c names (suc at.row)
    row_ends =
        let next = offset_here ws c names rows lie (suc at.row) (omega arith) in
        let more = before_more rows at.row (omega arith) in
        omega (arith, at.is, at.place_is_there)

    row_of_is : row_of ws c names e ≡ suc at.row
    row_of_is =
        row_of_an_entry ws c names ready offsets_are_good (suc at.row) e (omega arith) (omega (arith, lie.as_many_rows))
        (omega (arith, row_begins, at.is)) row_ends

    begins_the_row : at.place ≡ 0 → begins_a_row ws c names e ≡ true
    begins_the_row z =
        begins_at_the_offset ws c names ready offsets_are_good (suc at.row) e (omega arith) (omega (arith, lie.as_many_rows))
        (omega (arith, row_begins, at.is)) row_ends
        ∙ eq-eqb e (offset ws c names (suc at.row - 1)) (omega (arith, row_begins, at.is))

  -- the name and the value of an entry, by its place in its row
  name_is : (e row place : ℕ) → row < length rows → place < length (get_or rows row []) → e ≡ before rows row + place
      → e < length (all_entries rows) → entry_word ws c names (2 * e) ≡ (get_or (get_or rows row []) place no_entry).hub
  name_is e row place l k is m =
      word_of_section (entries_at c names) ws (entry_words (all_entries rows)) (2 * e) lie.entries_lie
      (omega (arith, entries_size c names, lie.as_many_entries))
      ∙ hub_word (all_entries rows) e (2 * e) refl m
      ∙ ap (λ n. (get_or (all_entries rows) n no_entry).hub) is
      ∙ ap (λ x. x.hub) (entry_in_row rows row place no_entry l k)

  no_name_is_bad : (e : ℕ) → e < length (all_entries rows) → bad_name ws c names e ≡ false
  no_name_is_bad e m =
      let at = locate rows e m in
      let row : List Entry = get_or rows at.row [] in
      let hub : ℕ → ℕ = λ i. (get_or row i no_entry).hub in
      let fine = good at.row at.row_is_there in
      let name : entry_word ws c names (2 * e) ≡ hub at.place = name_is e at.row at.place at.row_is_there at.place_is_there at.is m in
      let is_right : right_name ws c names (suc at.row) (hub at.place) ≡ true =
      All-get_or (λ x. right_name ws c names (suc at.row) x.hub ≡ true) row at.place no_entry at.place_is_there fine.right in
      let right_here : right_name ws c names (row_of ws c names e) (entry_word ws c names (2 * e)) ≡ true =
      ap (λ v. right_name ws c names v (entry_word ws c names (2 * e))) (row_of_is e at)
      ∙ ap (right_name ws c names (suc at.row)) name ∙ is_right in
      let starts : Bool = begins_a_row ws c names e in
      let falls : Bool = leb (entry_word ws c names (2 * e)) (entry_word ws c names (2 * (e - 1))) in
      let at_the_start : at.place ≡ 0 → (not starts && falls) ≡ false = λ z.
      and_left (not starts) falls (not_from_true starts (begins_the_row e at z)) in
      let further_on : (at.place ≡ 0 → ⊥) → (not starts && falls) ≡ false = λ nz.
      let p : ℕ = at.place - 1 in
      let again : suc p ≡ at.place = omega arith in
      let above : hub p < hub (suc p) = next_hub_is_above row fine.ascends p (omega (arith, at.place_is_there)) in
      let above_here : hub p < hub at.place = subst (λ n. hub p < hub n) again above in
      let last : entry_word ws c names (2 * (e - 1)) ≡ hub p =
      name_is (e - 1) at.row p at.row_is_there (omega (arith, at.place_is_there)) (omega (arith, at.is)) (omega arith) in
      and_right (not starts) falls
      (lt-leb (entry_word ws c names (2 * e)) (entry_word ws c names (2 * (e - 1))) (omega arith)) in
      or_from (not (right_name ws c names (row_of ws c names e) (entry_word ws c names (2 * e)))) (not starts && falls)
      (not_from_true (right_name ws c names (row_of ws c names e) (entry_word ws c names (2 * e))) right_here)
      (⊎_elim at_the_start further_on (cases_eq at.place 0))

  no_value_is_bad : (e j : ℕ) → j ≡ 2 * e + 1 → e < length (all_entries rows) → bad_value s (entry_word ws c names j) ≡ false
  no_value_is_bad e j t m =
      let at = locate rows e m in
      let row : List Entry = get_or rows at.row [] in
      let is : entry_word ws c names j ≡ (get_or row at.place no_entry).worth =
      word_of_section (entries_at c names) ws (entry_words (all_entries rows)) j lie.entries_lie
      (omega (arith, entries_size c names, lie.as_many_entries))
      ∙ value_word (all_entries rows) e j t m
      ∙ ap (λ n. (get_or (all_entries rows) n no_entry).worth) at.is
      ∙ ap (λ x. x.worth) (entry_in_row rows at.row at.place no_entry at.row_is_there at.place_is_there) in
      ap (bad_value s) is
      ∙ proper_is_not_bad s (get_or row at.place no_entry).worth
      (All-get_or (λ x. Proper s x.worth) row at.place no_entry at.place_is_there (good at.row at.row_is_there).proper)

  pub no_entry_is_bad : (j : ℕ) → j < (entries_at c names).size → bad_entry s ws c names j ≡ false
  no_entry_is_bad j l =
      let below : j < 2 * length (all_entries rows) = omega (arith, entries_size c names, lie.as_many_entries) in
      cond_both (eqb (j % 2) 0) (bad_name ws c names (j / 2)) (bad_value s (entry_word ws c names j)) (λ b. b ≡ false)
      (λ t. no_name_is_bad (j / 2) (omega arith))
      (λ f. let odd = eqb-false (j % 2) 0 f in no_value_is_bad (j / 2) j (omega arith) (omega arith))
