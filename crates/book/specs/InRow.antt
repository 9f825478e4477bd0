-- One row of a book among the entries: which of its words are bad, as they are found row by row. Assumes nothing.
use Rattle.std.specs.Prelude.{◌≡◌, ℕ, ◌-◌, ◌*◌, ◌/◌, ◌%◌, ◌≤◌, Bool, cond, not, ◌&&◌, ◌||◌, List, ◌==◌, nat_le}
use Rattle.measure.specs.Scale.{Scale}
use Rattle.book.specs.declared.counts.Counts.{Counts}
use Rattle.book.specs.declared.names.Names.{Names}
use Rattle.book.specs.Bad.{entry_count, offset, entry_word, right_name, bad_value}

-- v is a junction, whose row has the entries from number `from` up to number `to`, and these are all there
pub record Lies (ws : List ℕ) (c : Counts) (names : Names) (v from to : ℕ) : Type 0 where
  pub some_junction : 1 ≤ v
  pub no_other : v ≤ c.junctions
  pub begins : from ≡ offset ws c names (v - 1)
  pub ends : to ≡ offset ws c names v
  pub within : to ≤ entry_count c names

-- in the row of junction v that begins with entry number `from`, the name in entry number e is not right, or not above the name before it
abbrev pub bad_name_in : List ℕ → Counts → Names → ℕ → ℕ → ℕ → Bool
bad_name_in ws c names v from e =
    not (right_name ws c names v (entry_word ws c names (2 * e)))
    || (not (e == from) && nat_le (entry_word ws c names (2 * e)) (entry_word ws c names (2 * (e - 1))))

-- in that row, word number j of the entries is bad: the name or the value of its entry
abbrev pub bad_word_in : Scale → List ℕ → Counts → Names → ℕ → ℕ → ℕ → Bool
bad_word_in s ws c names v from j =
    cond (j % 2 == 0) (bad_name_in ws c names v from (j / 2)) (bad_value s (entry_word ws c names j))
