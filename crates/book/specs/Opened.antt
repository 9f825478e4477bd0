-- What open answers, and what an opened book shows. Assumes nothing.
use Rattle.std.specs.Prelude.{◌≡◌, ℕ, ◌+◌, ◌-◌, ◌*◌, not, ◌||◌, ◌⊎◌, List, [], ◌∷◌, length, Some, None, Ok, Err, Option, Result, ◌==◌, nat_lt, slice_index}
use Rattle.std.specs.Borrow.{Bor}
use Rattle.measure.specs.Scale.{Scale}
use Rattle.drawing.specs.Edits.{within}
use Rattle.drawing.specs.Outcomes.{Check, refuse, verdict, Ends}
use Rattle.drawing.specs.declared.refusal.Table.TheVariants.{Book as of_the_book}
use Rattle.drawing.specs.declared.refusal.Refusal.{Refusal}
use Rattle.drawing.specs.declared.refusal.Refusal.TheVariants.{OtherMeasure, NoJunction, ShortBook, NoBook, BadEntry}
use Rattle.std.specs.List.{AllByRecursion}
use Rattle.network.specs.Labels.{Entry, meet, Ascends}
use Rattle.network.specs.Theorems.{Proper}
use Rattle.book.specs.Layout.{word, counts_of, Section, section, words_in, entries}
use Rattle.book.specs.Words.{entry_words}
use Rattle.book.specs.Bad.{entries_at, offset, FirstBad, NoneBad}
use Rattle.book.specs.declared.names.Names.{Names}
use Rattle.book.specs.declared.opened.Book.{Book}

-- what open checks before it looks for a bad word
abbrev pub open_checks : Scale → List ℕ → List Check
open_checks s ws =
    refuse NoBook (nat_lt (length ws) 8 || not (word ws 0 == 1))
    ∷ refuse OtherMeasure (not (word ws 1 == s.tag))
    ∷ refuse (ShortBook (word ws 7)) (nat_lt (length ws) (word ws 7))
    ∷ []

-- the words begin with a book under the measure s
pub record IsBook (s : Scale) (ws : List ℕ) : Type 0 where
  pub checked : verdict (open_checks s ws) ≡ Ok tt
  pub none_bad : NoneBad s ws

-- the opened book b holds the words ws, and their counts
pub record Shows (ws : List ℕ) (b : Book) : Type 0 where
  pub words : b.words.now ≡ ws
  pub counts : b.layout.counts ≡ counts_of ws

-- What open answers for the words ws: a book that shows them, where they are one; otherwise the refusal of the first check that
-- fails, and if none does, refusal 12 with the place of the first bad word.
abbrev pub OpensExactlyBooks : Scale → List ℕ → Result Book Refusal → Type 0
OpensExactlyBooks s ws (Ok b) = IsBook s ws × Shows ws b
OpensExactlyBooks s ws (Err x) =
    (verdict (open_checks s ws) ≡ Err x)
    ⊎ ((verdict (open_checks s ws) ≡ Ok tt) × ((i : ℕ) × FirstBad s ws i × (x ≡ BadEntry of_the_book i)))

-- The part of the entries that is the row of junction v: from offset number v - 1 to offset number v, counted in entries.
abbrev pub row_at : List ℕ → Names → ℕ → Section
row_at ws names v =
    section ((entries_at (counts_of ws) names).first + 2 * offset ws (counts_of ws) names (v - 1))
    (2 * (offset ws (counts_of ws) names v - offset ws (counts_of ws) names (v - 1)))

-- the words of that row
abbrev pub row_words : List ℕ → Names → ℕ → List ℕ
row_words ws names v = words_in (row_at ws names v) ws

-- A call on an opened book hands out the row of junction v, the part of the words that it occupies, or refuses v with 4 if it is
-- no junction.
abbrev pub HandsOutTheRow : Scale → Names → Book → ℕ → Result (Bor (List ℕ)) Refusal → Type 0
HandsOutTheRow s names b v r =
    (ws : List ℕ) → IsBook s ws → Shows ws b
    → Ends (verdict (refuse NoJunction (not (within 1 (word ws 2) v)) ∷ [])) r (Unit {0}) (λ part. part.now ≡ row_words ws names v)

-- words that are a row: whole entries, hubs that ascend, values other than none
pub record IsRow (s : Scale) (ws : List ℕ) : Type 0 where
  pub whole : ws ≡ entry_words (entries ws)
  pub ascends : Ascends (entries ws)
  pub proper : AllByRecursion (λ e. Proper s e.worth) (entries ws)

-- an offer as the pair of its value and its hub
abbrev pub as_pair : Option Entry → Option (ℕ × ℕ)
as_pair None = None
as_pair (Some e) = Some (e.worth, e.hub)

-- the same with the hub's rank turned into the border that has it in the order
abbrev pub as_pair_by_rank : List ℕ → Option Entry → Option (ℕ × ℕ)
as_pair_by_rank order None = None
as_pair_by_rank order (Some e) = Some (e.worth, slice_index order e.hub)

-- Two rows joined give what `meet` says: the best joined value and the first hub that gives it.
abbrev pub JoinsTwoRows : Scale → List ℕ → List ℕ → Option (ℕ × ℕ) → Type 0
JoinsTwoRows s p q r = IsRow s p → IsRow s q → r ≡ as_pair (meet s (entries p) (entries q))
