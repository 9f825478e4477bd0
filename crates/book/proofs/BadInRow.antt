-- Within a row, its words are bad exactly where the entries' are. Assumes nothing.
use Rattle.std.proofs.Common.{◌≡◌, ℕ, ◌+◌, ◌-◌, ◌*◌, ◌/◌, ◌%◌, ◌<◌, ◌≤◌, false, cond, eqb, List, ap, subst, ⊎_elim, arith}
use Rattle.std.proofs.lemmas.Bool.{cases_eq}
use Rattle.measure.specs.Scale.{Scale}
use Rattle.book.specs.declared.counts.Counts.{Counts}
use Rattle.book.specs.declared.names.Names.{Names}
use Rattle.book.specs.Bad.{offset, entry_word, bad_name, bad_value, bad_entry}
use Rattle.book.specs.InRow.{bad_name_in, bad_word_in}
use Rattle.book.specs.Ready.{Ready, GoodOffsets}
use Rattle.book.proofs.RowsOfEntries.{row_of_an_entry, begins_at_the_offset}

module _ (s : Scale) (ws : List ℕ) (c : Counts) (names : Names) where
  -- word 2 e has the name of entry number e
  pub at_a_name : (e : ℕ) → bad_entry s ws c names (2 * e) ≡ bad_name ws c names e
  at_a_name e =
      let even : (2 * e) % 2 ≡ 0 = omega arith in
      let half : (2 * e) / 2 ≡ e = omega arith in
      rw (even, half)

  -- word 2 e + 1 has its value
  pub at_a_value : (e : ℕ) → bad_entry s ws c names (2 * e + 1) ≡ bad_value s (entry_word ws c names (2 * e + 1))
  at_a_value e = let odd : (2 * e + 1) % 2 ≡ 1 = omega arith in rw odd

module _ (s : Scale) (ws : List ℕ) (c : Counts) (names : Names) (ready : Ready ws c) (good : GoodOffsets ws c names) (v : ℕ) (some : 1 ≤ v) (no_other : v ≤ c.junctions) where
  same_name : (e : ℕ) → offset ws c names (v - 1) ≤ e → e < offset ws c names v → bad_name ws c names e ≡ bad_name_in ws c names v (offset ws c names (v - 1)) e
  same_name e low high =
      let row = row_of_an_entry ws c names ready good v e some no_other low high in
      let begins = begins_at_the_offset ws c names ready good v e some no_other low high in
      rw (row, begins)

  pub same_word : (j : ℕ) → 2 * offset ws c names (v - 1) ≤ j → j < 2 * offset ws c names v → bad_entry s ws c names j ≡ bad_word_in s ws c names v (offset ws c names (v - 1)) j
  same_word j low high =
      ap (λ b. cond (eqb (j % 2) 0) b (bad_value s (entry_word ws c names j))) (same_name (j / 2) (omega arith) (omega arith))

-- where neither the name nor the value of entry number e is bad, none of its words is
pub neither_bad :
    (s : Scale) (ws : List ℕ) (c : Counts) (names : Names) (v from e : ℕ) → bad_name_in ws c names v from e ≡ false
    → bad_value s (entry_word ws c names (2 * e + 1)) ≡ false
    → (j : ℕ) → 2 * e ≤ j → j < 2 * (e + 1) → bad_word_in s ws c names v from j ≡ false
neither_bad s ws c names v from e name value j low high =
    ⊎_elim
    (λ is. let even : j % 2 ≡ 0 = omega arith in let half : j / 2 ≡ e = omega arith in rw (even, half) name)
    (λ ne.
    let odd : j % 2 ≡ 1 = omega arith in
    let this : 2 * e + 1 ≡ j = omega arith in
    rw odd (subst (λ i. bad_value s (entry_word ws c names i) ≡ false) this value))
    (cases_eq j (2 * e))
