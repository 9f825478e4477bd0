-- Marks on numbers. Assumes nothing.
use Rattle.std.specs.Prelude.{ℕ, Bool, false, slice_index_or}
use Rattle.drawing.specs.declared.marks.Marks.{Marks}

-- the number v is marked
abbrev pub is_marked : Marks → ℕ → Bool
is_marked m v = slice_index_or m.set v false
