-- What `find` and `find_map` answer over the numbers of a range. Assumes nothing.
use Rattle.std.proofs.Common.{◌≡◌, ℕ, zero, suc, ◌+◌, ◌-◌, ◌<◌, ◌≤◌, Bool, true, false, Some, None, Option, sym, subst, arith, Bor}
use Rattle.std.specs.Bool.{IsTrue}
use Rattle.std.specs.Fn.{Called, CalledAt}
use Rattle.std.specs.Iterator.Runs.{Run, ItemsCountUp, CallKeepsClosure, NoItemPasses, EndsAtFirstPassing, AllItemsGive, IsFirstToGive}
use Rattle.std.specs.Option.{MatchOption, IfSome, IsSomeAnd, option_map}
use Rattle.std.specs.declared.ops.Range.{Range}
use Rattle.std.proofs.iter.Yields.{nat_range_steps}
use Rattle.std.proofs.iter.runs.Sources.{range_runs}
use denote.Param.Members.{Mut}
use Rattle.book.specs.Bad.{Finds}
use Rattle.book.proofs.Searches.{none_further, found_further}

-- what holds of an item that is known to be there
at_item : (o : Option ℕ) (n : ℕ) (P : ℕ → Type 0) → option_map (λ y. y) o ≡ Some n → IfSome o P → P n
at_item None n P is h = absurd (cc)
at_item (Some x) n P is h = let same : x ≡ n = cc in subst P same h

at_some_item : (o : Option ℕ) (n : ℕ) (P : ℕ → Type 0) → option_map (λ y. y) o ≡ Some n → IsSomeAnd o P → P n
at_some_item None n P is h = absurd h
at_some_item (Some x) n P is h = let same : x ≡ n = cc in subst P same h

-- the numbers that a range goes over
pub goes_over : (p : Run nat_range_steps) (low high : ℕ) → p.from ≡ record { start = low; end = high } → ItemsCountUp p low high
goes_over p low high is = subst (λ (s : Range ℕ). ItemsCountUp p s.start s.end) is (range_runs p p.seen)

-- `find`, where its closure computes a test
module _ {S F : Type 0} {steps : S → Option ℕ → S → Type 0} (p : Run steps) {g : Mut F (Bor ℕ × Unit {0}) Bool} (f : F) (low high : ℕ) (test : ℕ → Bool) (up : ItemsCountUp p low high) (keeps : CallKeepsClosure g f) (calls : (x : ℕ) (b : Bool) (q : F) → CalledAt g f x b q → b ≡ test x) where
  pub found_first : (r : Option ℕ) → MatchOption r (IsTrue p.whole × NoItemPasses p g f) (EndsAtFirstPassing p g f) → Finds test low high r
  found_first None h = λ j l m.
      let same : low + (j - low) ≡ j = omega arith in
      let here : CalledAt g f (low + (j - low)) false f =
      at_item (p.at (j - low)) (low + (j - low)) (λ x. CalledAt g f x false f) (up.3 (j - low) (omega (arith, up.1 h.0)))
      (h.1 keeps (j - low))
      in
      subst (λ n. test n ≡ false) same (sym (calls (low + (j - low)) false f here))
  found_first (Some x) h =
      let i = h.0 in
      let passes = h.3 keeps in
      let there : Some x ≡ Some (low + i) =
      subst (λ o. option_map (λ y. y) o ≡ Some (low + i)) h.2 (up.3 i (omega (arith, h.1)))
      in
      let place : x ≡ low + i = cc in (
        omega arith,
        omega (arith, h.1, up.0),
        sym (calls x true f passes.0),
        λ j l m.
            let same : low + (j - low) ≡ j = omega arith in
            let here : CalledAt g f (low + (j - low)) false f =
            at_some_item (p.at (j - low)) (low + (j - low)) (λ y. CalledAt g f y false f) (up.3 (j - low) (omega (arith, h.1)))
            (passes.1 (j - low) (omega arith))
            in
            subst (λ n. test n ≡ false) same (sym (calls (low + (j - low)) false f here)),
      )

-- `find_map` through pieces that follow one another, each of which is searched by itself. Piece k begins at place `bound k`, and a call at k searches it.
module _ {S F : Type 0} {steps : S → Option ℕ → S → Type 0} (p : Run steps) {g : Mut F (ℕ × Unit {0}) (Option ℕ)} (f : F) (low high : ℕ) (test : ℕ → Bool) (bound : ℕ → ℕ) (up : ItemsCountUp p low high) (calls : (k : ℕ) (y : Option ℕ) (q : F) → low ≤ k → k < high → Called g f (k, tt) y q → Finds test (bound k) (bound (k + 1)) y) where
  -- nothing in the first n pieces
  nothing_in : (n : ℕ) → low + n ≤ high → ((k : ℕ) → k < n → Called g f (low + k, tt) None f) → Finds test (bound low) (bound (low + n)) None
  nothing_in zero h gave = let same : low + 0 ≡ low = omega arith in rw same (λ j l less. absurd (omega arith))
  nothing_in (suc n) h gave =
      let here : Finds test (bound (low + n)) (bound (low + n + 1)) None = calls (low + n) None f (omega arith) (omega arith) (gave n (omega arith)) in
      let next : low + n + 1 ≡ low + suc n = omega arith in
      subst (λ e. Finds test (bound low) (bound e) None) next
      (none_further test (bound low) (bound (low + n)) (bound (low + n + 1))
      (nothing_in n (omega arith) (λ k l. gave k (omega arith))) here)

  pub found_in_pieces :
      (r : Option ℕ) → low ≤ high → ((k : ℕ) → low ≤ k → k < high → (bound low ≤ bound k) × (bound (k + 1) ≤ bound high))
      → ((a : ℕ × Unit {0}) (y : Option ℕ) (q : F) → Called g f a y q → q ≡ f)
      → MatchOption r (IsTrue p.whole × AllItemsGive p g f None) (λ y. (i : ℕ) × (i < p.len) × (p.len ≡ i + 1) × IsFirstToGive p g f (Some y) None i)
      → Finds test (bound low) (bound high) r
  found_in_pieces None some ascends keeps h =
      let all : p.len ≡ high - low = up.1 h.0 in
      let whole : low + (high - low) ≡ high = omega arith in
      subst (λ e. Finds test (bound low) (bound e) None) whole
      (nothing_in (high - low) (omega arith)
      (λ k l. at_item (p.at k) (low + k) (λ x. Called g f (x, tt) None f) (up.3 k (omega arith)) (h.1 keeps k)))
  found_in_pieces (Some y) some ascends keeps h =
      let i = h.0 in
      let gave = h.3 keeps in
      let below : low + i < high = omega (arith, up.0) in
      let here : Finds test (bound (low + i)) (bound (low + i + 1)) (Some y) =
      calls (low + i) (Some y) f (omega arith) below (at_some_item (p.at i) (low + i) (λ x. Called g f (x, tt) (Some y) f) (up.3 i h.1) gave.0)
      in
      let order = ascends (low + i) (omega arith) below in
      found_further test (bound low) (bound (low + i)) (bound (low + i + 1)) (bound high) y order.0 order.1
      (nothing_in i (omega arith)
      (λ k l. at_some_item (p.at k) (low + k) (λ x. Called g f (x, tt) None f) (up.3 k (omega arith)) (gave.1 k l)))
      here

-- Rows number 1 to `last`, where row v ends at place `ends v`, and begins where the row before it ends.
module _ {S F : Type 0} {steps : S → Option ℕ → S → Type 0} (p : Run steps) {g : Mut F (ℕ × Unit {0}) (Option ℕ)} (f : F) (last : ℕ) (test : ℕ → Bool) (ends : ℕ → ℕ) (up : ItemsCountUp p 1 (last + 1)) (calls : (v : ℕ) (y : Option ℕ) (q : F) → 1 ≤ v → v ≤ last → Called g f (v, tt) y q → Finds test (ends (v - 1)) (ends v) y) where
  piece : (k : ℕ) (y : Option ℕ) (q : F) → 1 ≤ k → k < last + 1 → Called g f (k, tt) y q → Finds test (ends (k - 1)) (ends (k + 1 - 1)) y
  piece k y q l m called =
      let same : k ≡ k + 1 - 1 = omega arith in
      subst (λ n. Finds test (ends (k - 1)) (ends n) y) same (calls k y q l (omega arith) called)

  pub found_in_rows :
      (r : Option ℕ) → ((i j : ℕ) → i ≤ j → j ≤ last → ends i ≤ ends j)
      → ((a : ℕ × Unit {0}) (y : Option ℕ) (q : F) → Called g f a y q → q ≡ f)
      → MatchOption r (IsTrue p.whole × AllItemsGive p g f None) (λ y. (i : ℕ) × (i < p.len) × (p.len ≡ i + 1) × IsFirstToGive p g f (Some y) None i)
      → Finds test (ends 0) (ends last) r
  found_in_rows r ascend keeps h =
      let same : last + 1 - 1 ≡ last = omega arith in
      subst (λ n. Finds test (ends 0) (ends n) r) same
      (found_in_pieces p f 1 (last + 1) test (λ k. ends (k - 1)) up piece r (omega arith)
      (λ k l m. (ascend (1 - 1) (k - 1) (omega arith) (omega arith), ascend (k + 1 - 1) (last + 1 - 1) (omega arith) (omega arith)))
      keeps h)
