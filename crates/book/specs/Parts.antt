-- What is read of an opened book: a word, and the part of its words that a span says. Assumes nothing.
use Rattle.std.specs.Prelude.{◌≡◌, ℕ, ◌+◌, ◌-◌, ◌*◌, ◌<◌, ◌≤◌, List, length, take, drop, Ok, Err, Result}
use Rattle.std.specs.Borrow.{Bor}
use Rattle.drawing.specs.declared.refusal.Refusal.{Refusal}
use Rattle.book.specs.Layout.{word, section, Spans}
use Rattle.book.specs.declared.span.Span.{Span}

-- a part of the words, as the span says; or a refusal, where there are fewer words than the span's total
abbrev pub IsPart : List ℕ → Span → Result (Bor (List ℕ)) Refusal → Type 0
IsPart ws p (Ok part) = part.now ≡ take p.length (drop p.first ws)
IsPart ws p (Err x) = length ws < p.total

-- x is word number j of the span, if it has so many
abbrev pub IsWord : List ℕ → Span → ℕ → ℕ → Type 0
IsWord ws p j x = j < p.length → x ≡ word ws (p.first + j)

-- Where p spans entries of two words each, and the two numbers lie in order among them, q spans the entries from number `begin` to
-- before number `end`.
abbrev pub IsStretch : Span → ℕ → ℕ → Span → Type 0
IsStretch p begin end q =
    begin ≤ end → 2 * end ≤ p.length → Spans (section (p.first + 2 * begin) (2 * (end - begin))) p.total q
