-- All rows of one kind, searched one after another. Assumes nothing.
use Rattle.std.proofs.Common.{◌≡◌, ℕ, ◌+◌, ◌-◌, ◌*◌, ◌<◌, ◌≤◌, List, Some, None, Option, refl, subst, arith}
use Rattle.std.specs.Bool.{IsTrue}
use Rattle.std.specs.Fn.{Called}
use Rattle.std.specs.Iterator.Runs.{SomeRun, AllItemsGive, IsFirstToGive}
use Rattle.std.specs.Option.{MatchOption}
use Rattle.std.proofs.iter.Yields.{nat_range_steps}
use denote.Param.Members.{Mut}
use Rattle.measure.specs.Scale.{Scale}
use Rattle.book.specs.Bad.{offset, entry_count, bad_entry, Finds}
use Rattle.book.specs.Ready.{GoodOffsets}
use Rattle.book.specs.declared.counts.Counts.{Counts}
use Rattle.book.specs.declared.names.Names.{Names}
use Rattle.book.proofs.Ranges.{goes_over, found_in_rows}
use Rattle.book.proofs.RowsOfEntries.{offsets_ascend, offsets_begin_at_zero, offsets_end_at_the_count}

-- where a call at v searches the row of junction v
pub rows_searched :
    (s : Scale) (ws : List ℕ) (c : Counts) (names : Names) {F : Type 0} {g : Mut F (ℕ × Unit {0}) (Option ℕ)} (f : F) (r : Option ℕ)
    → GoodOffsets ws c names
    → ((v : ℕ) (y : Option ℕ) (q : F) → 1 ≤ v → v ≤ c.junctions → Called g f (v, tt) y q → Finds (bad_entry s ws c names) (2 * offset ws c names (v - 1)) (2 * offset ws c names v) y)
    → ((a : ℕ × Unit {0}) (y : Option ℕ) (q : F) → Called g f a y q → q ≡ f)
    → SomeRun nat_range_steps (record { start = 1; end = c.junctions + 1 }) (λ p. MatchOption r (IsTrue p.whole × AllItemsGive p g f None) (λ y. (i : ℕ) × (i < p.len) × (p.len ≡ i + 1) × IsFirstToGive p g f (Some y) None i))
    → Finds (bad_entry s ws c names) 0 (2 * entry_count c names) r
rows_searched s ws c names f r good calls keeps run =
    let test = bad_entry s ws c names in
    let up = goes_over run.0 1 (c.junctions + 1) run.1 in
    let found : Finds test (2 * offset ws c names 0) (2 * offset ws c names c.junctions) r =
    found_in_rows run.0 f c.junctions test (λ v. 2 * offset ws c names v) up calls r
    (λ i j l m. let h = offsets_ascend ws c names good i j l m in omega arith) keeps run.2 in
    let begin : 2 * offset ws c names 0 ≡ 0 = let z = offsets_begin_at_zero ws c names good in omega arith in
    let end : offset ws c names c.junctions ≡ entry_count c names = offsets_end_at_the_count ws c names good c.junctions refl in
    subst (λ n. Finds test n (2 * entry_count c names) r) begin (subst (λ n. Finds test (2 * offset ws c names 0) (2 * n) r) end found)
