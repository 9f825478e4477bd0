-- Counts that lie within their limits, in words that are all there. Assumes nothing.
use Rattle.std.specs.Prelude.{◌≡◌, ℕ, ◌*◌, ◌≤◌, false, List, length}
use Rattle.book.specs.declared.counts.Counts.{Counts}
use Rattle.book.specs.declared.names.Names.{Names}
use Rattle.book.specs.Layout.{total}
use Rattle.book.specs.Bad.{bad_offset}

-- what the checks of sections rest on
pub record Ready (ws : List ℕ) (c : Counts) : Type 0 where
  pub some_junctions : 1 ≤ c.junctions
  pub few_junctions : c.junctions ≤ 4096
  pub few_districts : c.districts ≤ 64
  pub few_borders : c.borders ≤ c.junctions
  pub few_border_entries : c.border_entries ≤ c.junctions * c.borders
  pub few_district_entries : c.district_entries ≤ c.junctions * c.junctions
  pub words_are_counted : c.words ≡ total c
  pub words_are_there : c.words ≤ length ws

-- no offset is bad
abbrev pub GoodOffsets : List ℕ → Counts → Names → Type 0
GoodOffsets ws c names = (j : ℕ) → j ≤ c.junctions → bad_offset ws c names j ≡ false
