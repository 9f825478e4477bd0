-- Which row an entry is in, and whether it begins the row, where no offset is bad. Assumes nothing.
use Rattle.std.proofs.Common.{◌≡◌, ℕ, zero, suc, ◌+◌, ◌-◌, ◌<◌, ◌≤◌, true, false, cond, not, ◌&&◌, eqb, ltb, leb, List, [], ◌∷◌, length, get_or, filter, sym, refl, ap, ◌∙◌, ⊎_elim, eq-or-lt_of_le, arith}
use Rattle.std.proofs.lemmas.Bool.{le-leb, lt-leb, ltb-false, cases_eq, cases_lt, eq-eqb, ne_eqb, or_parts}
use Rattle.std.proofs.lemmas.Bool.Decides.{nat_tests}
use Rattle.book.specs.declared.counts.Counts.{Counts}
use Rattle.book.specs.declared.names.Names.{Names}
use Rattle.book.specs.Layout.{words_in}
use Rattle.book.specs.Bad.{among, offsets_at, entry_count, offset, begins_a_row, row_of}
use Rattle.book.specs.Ready.{Ready, GoodOffsets}
use Rattle.book.proofs.SectionWords.{section_length, section_word, offsets_size, entries_follow, entries_fit}

-- where just the first v of a list are at most e, a test for that keeps v of them
pub keeps_the_first : (e : ℕ) (xs : List ℕ) (v : ℕ) → v ≤ length xs → ((j : ℕ) → j < v → get_or xs j 0 ≤ e) → ((j : ℕ) → v ≤ j → j < length xs → e < get_or xs j 0) → length (filter (λ o. leb o e) xs) ≡ v
keeps_the_first e [] v few low high = omega arith
keeps_the_first e (x ∷ xs) zero few low high =
    rw (lt-leb x e (high 0 (omega arith) (omega arith)))
    (keeps_the_first e xs zero (omega arith) (λ j h. absurd (omega arith)) (λ j h k. high (suc j) (omega arith) (omega arith)))
keeps_the_first e (x ∷ xs) (suc v) few low high =
    rw (le-leb x e (low 0 (omega arith)))
    (ap suc (keeps_the_first e xs v (omega arith) (λ j h. low (suc j) (omega arith)) (λ j h k. high (suc j) (omega arith) (omega arith))))

-- what stands at a place of a list is among it
pub among_at : (e : ℕ) (xs : List ℕ) (j : ℕ) → j < length xs → e ≡ get_or xs j 0 → among e xs ≡ true
among_at e [] j h same = absurd (omega arith)
among_at e (x ∷ xs) zero h same = rw (eq-eqb e x same)
among_at e (x ∷ xs) (suc j) h same = rw (among_at e xs j (omega arith) same) (grind (arith, nat_tests))

-- what stands at no place of a list is not among it
pub not_among : (e : ℕ) (xs : List ℕ) → ((j : ℕ) → j < length xs → e ≡ get_or xs j 0 → ⊥) → among e xs ≡ false
not_among e [] other = refl
not_among e (x ∷ xs) other = rw (ne_eqb e x (other 0 (omega arith))) (not_among e xs (λ j h. other (suc j) (omega arith)))

module _ (ws : List ℕ) (c : Counts) (names : Names) (ready : Ready ws c) where
  -- there is one offset more than junctions
  pub how_many_offsets : length (words_in (offsets_at c names) ws) ≡ c.junctions + 1
  how_many_offsets =
      let fit = entries_fit ws c names ready in
      let follow = entries_follow c names in
      section_length (offsets_at c names) ws (omega arith) ∙ offsets_size c names

  -- each is the word where it lies
  pub offset_at : (j : ℕ) → j ≤ c.junctions → get_or (words_in (offsets_at c names) ws) j 0 ≡ offset ws c names j
  offset_at j h = section_word (offsets_at c names) ws j (omega (arith, offsets_size c names))

-- what an offset that is not bad shows: the number j of the offset, the offset before it, and the number of all entries
begins : (j here before : ℕ) → cond (eqb j 0) (not (eqb here 0)) (ltb here before) ≡ false → j ≡ 0 → here ≡ 0
begins j here before h z = grind (arith, nat_tests)

never_falls : (j here before : ℕ) → cond (eqb j 0) (not (eqb here 0)) (ltb here before) ≡ false → 1 ≤ j → before ≤ here
never_falls j here before h k = grind (arith, nat_tests)

ends : (j n here count : ℕ) → (eqb j n && not (eqb here count)) ≡ false → j ≡ n → here ≡ count
ends j n here count h e = grind (arith, nat_tests)

module _ (ws : List ℕ) (c : Counts) (names : Names) (good : GoodOffsets ws c names) where
  pub offsets_begin_at_zero : offset ws c names 0 ≡ 0
  offsets_begin_at_zero =
      begins 0 _ (offset ws c names 0) (or_parts _ _ (or_parts _ _ (good 0 (omega arith))).0).0 refl

  pub offsets_end_at_the_count : (j : ℕ) → j ≡ c.junctions → offset ws c names j ≡ entry_count c names
  offsets_end_at_the_count j last = ends j c.junctions _ _ (or_parts _ _ (good j (omega arith))).1 last

  pub offset_within : (j : ℕ) → j ≤ c.junctions → offset ws c names j ≤ entry_count c names
  offset_within j h = ltb-false _ _ (or_parts _ _ (or_parts _ _ (good j h)).0).1

  pub next_offset : (j : ℕ) → 1 ≤ j → j ≤ c.junctions → offset ws c names (j - 1) ≤ offset ws c names j
  next_offset j k h = never_falls j _ _ (or_parts _ _ (or_parts _ _ (good j h)).0).0 k

  -- no offset is below one before it
  pub offsets_ascend : (i j : ℕ) → i ≤ j → j ≤ c.junctions → offset ws c names i ≤ offset ws c names j
  offsets_ascend i zero h k = let e : i ≡ 0 = omega arith in rw e (omega arith)
  offsets_ascend i (suc j) h k =
      ⊎_elim (λ e. rw e (omega arith))
      (λ lt.
      let a : offset ws c names i ≤ offset ws c names j = offsets_ascend i j (omega arith) (omega arith) in
      let b : offset ws c names (suc j - 1) ≤ offset ws c names (suc j) = next_offset (suc j) (omega arith) k in
      let e : suc j - 1 ≡ j = omega arith in
      let d : offset ws c names j ≤ offset ws c names (suc j) = rw e at b in
      omega arith)
      (eq-or-lt_of_le h)

-- Entry number e is in the row of junction v: it lies from offset number v - 1 up to offset number v.
module _ (ws : List ℕ) (c : Counts) (names : Names) (ready : Ready ws c) (good : GoodOffsets ws c names) (v e : ℕ) (some : 1 ≤ v) (most : v ≤ c.junctions) (from : offset ws c names (v - 1) ≤ e) (to : e < offset ws c names v) where
  before_it : (j : ℕ) → j < v → offset ws c names j ≤ offset ws c names (v - 1)
  before_it j h = offsets_ascend ws c names good j (v - 1) (omega arith) (omega arith)

  after_it : (j : ℕ) → v ≤ j → j ≤ c.junctions → e < offset ws c names j
  after_it j h k = let a = offsets_ascend ws c names good v j h k in omega arith

  pub row_of_an_entry : row_of ws c names e ≡ v
  row_of_an_entry =
      let many = how_many_offsets ws c names ready in
      keeps_the_first e (words_in (offsets_at c names) ws) v (omega arith)
      (λ j h. rw (offset_at ws c names ready j (omega arith)) (let a = before_it j h in omega arith))
      (λ j h k. rw (offset_at ws c names ready j (omega arith)) (after_it j h (omega arith)))

  pub begins_at_the_offset : begins_a_row ws c names e ≡ eqb e (offset ws c names (v - 1))
  begins_at_the_offset =
      let many = how_many_offsets ws c names ready in
      let os = words_in (offsets_at c names) ws in
      ⊎_elim
      (λ same.
      among_at e os (v - 1) (omega arith) (rw (offset_at ws c names ready (v - 1) (omega arith)) same)
      ∙ sym (eq-eqb e (offset ws c names (v - 1)) same))
      (λ other.
      not_among e os
      (λ j h same.
      let here : e ≡ offset ws c names j = same ∙ offset_at ws c names ready j (omega arith) in
      ⊎_elim (λ lt. let a = before_it j lt in other (omega arith)) (λ le. let a = after_it j le (omega arith) in omega arith)
      (cases_lt j v))
      ∙ sym (ne_eqb e (offset ws c names (v - 1)) other))
      (cases_eq e (offset ws c names (v - 1)))
