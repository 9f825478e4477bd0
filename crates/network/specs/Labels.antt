-- Cells, entries, rows and the join of two rows, over any distance d and any list of hubs. Assumes nothing.
use Rattle.std.specs.Prelude.{ℕ, ◌<◌, Bool, true, cond, not, ◌&&◌, List, [], ◌∷◌, ◌++◌, length, Some, None, filter, Option, ◌==◌}
use Rattle.measure.specs.Scale.{Scale}

-- the way from b to v by c is worse than d has it
abbrev pub worse_by : Scale → (ℕ → ℕ → ℕ) → ℕ → ℕ → ℕ → Bool
worse_by s d b v c = s.better (d b v) (s.join (d b c) (d c v))

-- and so by every junction of a list
abbrev pub worse_by_all : Scale → (ℕ → ℕ → ℕ) → ℕ → ℕ → List ℕ → Bool
worse_by_all s d b v [] = true
worse_by_all s d b v (c ∷ cs) = worse_by s d b v c && worse_by_all s d b v cs

-- The cell of junction v under the hub b, where `earlier` are the hubs before b: the value from b to v, if that is not none
-- and the way by any earlier hub is worse; otherwise none.
abbrev pub cell : Scale → (ℕ → ℕ → ℕ) → List ℕ → ℕ → ℕ → ℕ
cell s d earlier b v = cond (not (d b v == s.none) && worse_by_all s d b v earlier) (d b v) s.none

-- An entry of a row: the name of a hub, which is its rank or its junction, and a value.
pub record Entry : Type 0 where
  pub hub : ℕ
  pub worth : ℕ

abbrev pub entry : ℕ → ℕ → Entry
entry h x = record { hub = h; worth = x }

-- a cell in front of a row: an entry, unless it is none
abbrev pub put_cell : Scale → ℕ → ℕ → List Entry → List Entry
put_cell s h x row = cond (x == s.none) row (entry h x ∷ row)

-- the part of v's row under the hubs bs, which come after the hubs `earlier`; `name` turns a hub's rank into its name
abbrev pub row_after : Scale → (ℕ → ℕ → ℕ) → (ℕ → ℕ) → List ℕ → List ℕ → ℕ → List Entry
row_after s d name earlier [] v = []
row_after s d name earlier (b ∷ bs) v =
    put_cell s (name (length earlier)) (cell s d earlier b v) (row_after s d name (earlier ++ (b ∷ [])) bs v)

-- the row of v: its entries under all hubs, in their order
abbrev pub row : Scale → (ℕ → ℕ → ℕ) → (ℕ → ℕ) → List ℕ → ℕ → List Entry
row s d name hubs v = row_after s d name [] hubs v

-- the value that a row has for a hub; none where it has no entry
abbrev pub value_at : Scale → List Entry → ℕ → ℕ
value_at s [] h = s.none
value_at s (e ∷ es) h = cond (e.hub == h) e.worth (value_at s es h)

-- what each hub of the first row offers that the second has too: their joined value, where it is not none
abbrev pub offers : Scale → List Entry → List Entry → List Entry
offers s [] es = []
offers s (e ∷ row) es = put_cell s e.hub (s.join e.worth (value_at s es e.hub)) (offers s row es)

-- the first of two offers, unless the second is better
abbrev pub better_offer : Scale → Entry → Option Entry → Entry
better_offer s e None = e
better_offer s e (Some f) = cond (s.better f.worth e.worth) f e

-- the best of a list of offers, and of equally good ones the first; nothing where there is none
abbrev pub best_offer : Scale → List Entry → Option Entry
best_offer s [] = None
best_offer s (e ∷ es) = Some (better_offer s e (best_offer s es))

-- two rows joined: the best joined value over the hubs in both, and the first hub that gives it
abbrev pub meet : Scale → List Entry → List Entry → Option Entry
meet s p q = best_offer s (offers s p q)

-- the value of an offer, or none
abbrev pub worth_of : Scale → Option Entry → ℕ
worth_of s None = s.none
worth_of s (Some e) = e.worth

-- a row with the entry of one hub struck out
abbrev pub struck : ℕ → List Entry → List Entry
struck h row = filter (λ e. not (e.hub == h)) row

-- the hubs of a row ascend strictly
abbrev pub Ascends : List Entry → Type 0
Ascends [] = Unit {0}
Ascends (e ∷ []) = Unit {0}
Ascends (e ∷ f ∷ es) = (e.hub < f.hub) × Ascends (f ∷ es)
