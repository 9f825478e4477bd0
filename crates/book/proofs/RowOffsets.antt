-- The offsets of rows that are laid end to end, and in which row an entry lies. Assumes nothing.
use Rattle.std.proofs.Common.{◌≡◌, ℕ, zero, suc, ◌+◌, ◌-◌, ◌*◌, ◌<◌, ◌≤◌, List, [], ◌∷◌, ◌++◌, length, get_or, sym, refl, ap, ◌∙◌, ⊎_elim, append_assoc, suc-mul, arith, length-append}
use Rattle.std.proofs.lemmas.List.{get_or_append_left, get_or-append-add}
use Rattle.std.proofs.lemmas.Bool.{cases_lt}
use Rattle.std.specs.List.{AllByRecursion}
use Rattle.network.specs.Labels.{Entry}
use Rattle.book.specs.Words.{offsets_from, all_entries}

-- how many entries the first j rows have
abbrev pub before : List (List Entry) → ℕ → ℕ
before [] j = 0
before (r ∷ rows) zero = 0
before (r ∷ rows) (suc j) = length r + before rows j

pub length_offsets : (k : ℕ) (rows : List (List Entry)) → length (offsets_from k rows) ≡ suc (length rows)
length_offsets k [] = refl
length_offsets k (r ∷ rows) = ap suc (length_offsets (k + length r) rows)

-- offset number j is the number of entries before row number j
offset_from_is : (k : ℕ) (rows : List (List Entry)) (j : ℕ) → j ≤ length rows → get_or (offsets_from k rows) j 0 ≡ k + before rows j
offset_from_is k [] zero l = omega arith
offset_from_is k [] (suc j) l = absurd (omega arith)
offset_from_is k (r ∷ rows) zero l = omega arith
offset_from_is k (r ∷ rows) (suc j) l = let ih = offset_from_is (k + length r) rows j (omega arith) in omega arith

pub offset_is : (rows : List (List Entry)) (j : ℕ) → j ≤ length rows → get_or (offsets_from 0 rows) j 0 ≡ before rows j
offset_is rows j l = let h = offset_from_is 0 rows j l in omega arith

pub before_none : (rows : List (List Entry)) → before rows 0 ≡ 0
before_none [] = refl
before_none (r ∷ rows) = refl

pub before_more : (rows : List (List Entry)) (j : ℕ) → j < length rows → before rows (suc j) ≡ before rows j + length (get_or rows j [])
before_more [] j l = absurd (omega arith)
before_more (r ∷ rows) zero l = let h = before_none rows in omega arith
before_more (r ∷ rows) (suc j) l = let h = before_more rows j (omega arith) in omega arith

pub before_all : (rows : List (List Entry)) → before rows (length rows) ≡ length (all_entries rows)
before_all [] = refl
before_all (r ∷ rows) = let h = before_all rows in rw (length-append r (all_entries rows)) (omega arith)

pub before_rises : (rows : List (List Entry)) (i j : ℕ) → i ≤ j → before rows i ≤ before rows j
before_rises [] i j h = omega arith
before_rises (r ∷ rows) zero j h = omega arith
before_rises (r ∷ rows) (suc i) zero h = absurd (omega arith)
before_rises (r ∷ rows) (suc i) (suc j) h = let k = before_rises rows i j (omega arith) in omega arith

pub before_is_at_most_all : (rows : List (List Entry)) (j : ℕ) → j ≤ length rows → before rows j ≤ length (all_entries rows)
before_is_at_most_all rows j l = omega (arith, before_rises rows j (length rows) l, before_all rows)

-- all entries: those of the first j rows, then those of row number j, then the rest
pub record Cut (rows : List (List Entry)) (j : ℕ) : Type 0 where
  pub front : List Entry
  pub rest : List Entry
  pub front_is_long : length front ≡ before rows j
  pub all_are : all_entries rows ≡ front ++ (get_or rows j [] ++ rest)

pub cut : (rows : List (List Entry)) (j : ℕ) → j < length rows → Cut rows j
cut [] j l = absurd (omega arith)
cut (r ∷ rows) zero l = record { front = []; rest = all_entries rows; front_is_long = refl; all_are = refl }
cut (r ∷ rows) (suc j) l =
    let c = cut rows j (omega arith) in
    record {
      front = r ++ c.front;
      rest = c.rest;
      front_is_long = length-append r c.front ∙ ap (λ n. length r + n) c.front_is_long;
      all_are = ap (λ es. r ++ es) c.all_are ∙ sym (append_assoc r c.front (get_or rows j [] ++ c.rest));
    }

-- entry number i of row number j, among all entries
pub entry_in_row : (rows : List (List Entry)) (j i : ℕ) (d : Entry) → j < length rows → i < length (get_or rows j [])
    → get_or (all_entries rows) (before rows j + i) d ≡ get_or (get_or rows j []) i d
entry_in_row rows j i d l k =
    let c = cut rows j l in
    ap (λ es. get_or es (before rows j + i) d) c.all_are
    ∙ ap (λ n. get_or (c.front ++ (get_or rows j [] ++ c.rest)) (n + i) d) (sym c.front_is_long)
    ∙ get_or-append-add c.front (get_or rows j [] ++ c.rest) i d
    ∙ get_or_append_left (get_or rows j []) c.rest d i k

-- where entry number e lies: the number of its row, and its place there
pub record Located (rows : List (List Entry)) (e : ℕ) : Type 0 where
  pub row : ℕ
  pub place : ℕ
  pub row_is_there : row < length rows
  pub place_is_there : place < length (get_or rows row [])
  pub is : e ≡ before rows row + place

pub locate : (rows : List (List Entry)) (e : ℕ) → e < length (all_entries rows) → Located rows e
locate [] e l = absurd (omega arith)
locate (r ∷ rows) e l =
    ⊎_elim
    (λ h. record { row = 0; place = e; row_is_there = omega arith; place_is_there = h; is = omega arith })
    (λ h.
    let c = locate rows (e - length r) (omega (arith, length-append r (all_entries rows))) in
    record { row = suc c.row; place = c.place; row_is_there = omega arith; place_is_there = c.place_is_there; is = omega arith })
    (cases_lt e (length r))

-- no more entries than rows of so many
pub entries_are_at_most : (m : ℕ) (rows : List (List Entry)) → AllByRecursion (λ r. length r ≤ m) rows → length (all_entries rows) ≤ length rows * m
entries_are_at_most m [] h = omega arith
entries_are_at_most m (r ∷ rows) (h, t) =
    let ih = entries_are_at_most m rows t in rw (length-append r (all_entries rows)) (omega (arith, suc-mul (length rows) m))
