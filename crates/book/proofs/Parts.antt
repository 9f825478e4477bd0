-- Where the first bad word of a list of parts stands. Assumes nothing.
use Rattle.std.proofs.Common.{◌≡◌, ℕ, ◌+◌, ◌-◌, ◌<◌, ◌≤◌, Bool, true, false, ◌&&◌, ◌||◌, ltb, leb, List, [], ◌∷◌, ◌++◌, Some, None, Option, sym, refl, ap, ◌∙◌, subst, ⊎_elim, arith}
use Rattle.std.specs.List.{AllByRecursion}
use Rattle.std.specs.Option.{MatchOption, IsSomeAnd}
use Rattle.std.proofs.lemmas.Bool.{both_ways, cases_Bool, cases_lt, or_parts, or_from, or_left, or_right, or_cases, and_parts, and_left, and_right, lt-leb, le-ltb, le-leb, lt-ltb, ltb-true, false≢true}
use Rattle.book.specs.Layout.{after}
use Rattle.book.specs.Bad.{Part, bad_in, Finds}
use Rattle.book.specs.Found.{FirstIn}

-- the word at place i lies in the part, and is bad
abbrev pub bad_here : Part → ℕ → Bool
bad_here p i = leb p.lies.first i && (ltb i (after p.lies) && p.bad (i - p.lies.first))

module _ (p : Part) where
  pub not_here : (i : ℕ) → (p.lies.first ≤ i → i < after p.lies → p.bad (i - p.lies.first) ≡ false) → bad_here p i ≡ false
  not_here i h =
      let from = leb p.lies.first i in
      let below = ltb i (after p.lies) in
      let bad = p.bad (i - p.lies.first) in
      let when_from : p.lies.first ≤ i → (below && bad) ≡ false = λ le.
      ⊎_elim (λ lt. and_right below bad (h le lt)) (λ past. and_left below bad (le-ltb i (after p.lies) past))
      (cases_lt i (after p.lies))
      in
      ⊎_elim (λ low. and_left from (below && bad) (lt-leb p.lies.first i low))
      (λ le. and_right from (below && bad) (when_from le))
      (cases_lt i p.lies.first)

  pub is_here : (j : ℕ) → j < p.lies.size → p.bad j ≡ true → bad_here p (p.lies.first + j) ≡ true
  is_here j small h =
      let same : p.lies.first + j - p.lies.first ≡ j = omega arith in
      let from : leb p.lies.first (p.lies.first + j) ≡ true = le-leb p.lies.first (p.lies.first + j) (omega arith) in
      let below : ltb (p.lies.first + j) (after p.lies) ≡ true =
      lt-ltb (p.lies.first + j) (after p.lies) (omega arith)
      in
      rw (from, below, same) h

  pub ends_here : (i : ℕ) → bad_here p i ≡ true → i < after p.lies
  ends_here i h =
      let from = leb p.lies.first i in
      let below = ltb i (after p.lies) in
      let bad = p.bad (i - p.lies.first) in
      ltb-true i (after p.lies) (and_parts below bad (and_parts from (below && bad) h).1).0

  -- a part alone
  pub alone_some : (j : ℕ) → Finds p.bad 0 p.lies.size (Some j) → FirstIn (p ∷ []) (Some (p.lies.first + j))
  alone_some j h = (
    or_left (bad_here p (p.lies.first + j)) false (is_here j h.1 h.2),
    λ i less. or_from (bad_here p i) false (not_here i (λ from below. h.3 (i - p.lies.first) (omega arith) (omega arith))) refl,
  )

-- no word of a part is bad
abbrev pub GoodPart : Part → Type 0
GoodPart p = (j : ℕ) → j < p.lies.size → p.bad j ≡ false

-- where no part has a bad word, no place is bad
pub nothing_is_bad : (ps : List Part) → AllByRecursion GoodPart ps → FirstIn ps None
nothing_is_bad [] h i = refl
nothing_is_bad (p ∷ ps) (h, t) i =
    or_from (bad_here p i) (bad_in ps i) (not_here p i (λ from below. h (i - p.lies.first) (omega arith)))
    (nothing_is_bad ps t i)

-- where no place is bad, no part has a bad word
pub parts_are_good : (ps : List Part) → FirstIn ps None → AllByRecursion GoodPart ps
parts_are_good [] h = tt
parts_are_good (p ∷ ps) h =
    let here : (i : ℕ) → (bad_here p i ≡ false) × (bad_in ps i ≡ false) = λ i. or_parts (bad_here p i) (bad_in ps i) (h i) in (
      λ j l. ⊎_elim (λ t. absurd (both_ways (bad_here p (p.lies.first + j)) (here (p.lies.first + j)).0 (is_here p j l t)))
          (λ f. f) (cases_Bool (p.bad j)),
      parts_are_good ps (λ i. (here i).1),
    )

-- a search of a whole part that finds nothing
pub part_is_good : (p : Part) (n : ℕ) → p.lies.size ≡ n → Finds p.bad 0 n None → GoodPart p
part_is_good p n size h j l = h j (omega arith) (omega arith)

-- bad in one of two lists of parts
pub bad_in_append : (ps qs : List Part) (i : ℕ) → bad_in (ps ++ qs) i ≡ (bad_in ps i || bad_in qs i)
bad_in_append [] qs i = refl
bad_in_append (p ∷ ps) qs i = rw (bad_in_append ps qs i) (regroup (bad_here p i) (bad_in ps i) (bad_in qs i))
  where
    regroup : (x y z : Bool) → (x || (y || z)) ≡ ((x || y) || z)
    regroup true y z = refl
    regroup false y z = refl

-- the parts follow one another, the first from place f on
abbrev pub Chain : ℕ → List Part → Type 0
Chain f [] = Unit {0}
Chain f (p ∷ ps) = (p.lies.first ≡ f) × Chain (after p.lies) ps

-- nothing is bad before the first part
pub before_all : (f : ℕ) (ps : List Part) → Chain f ps → (j : ℕ) → j < f → bad_in ps j ≡ false
before_all f [] chain j less = refl
before_all f (p ∷ ps) chain j less =
    or_from (bad_here p j) (bad_in ps j) (not_here p j (λ from _. absurd (let e = chain.0 in omega arith)))
    (before_all (after p.lies) ps chain.1 j (let e = chain.0 in omega arith))

-- what is bad in the parts before stands before all of the parts after
pub later_is_good : (f : ℕ) (ps qs : List Part) → Chain f (ps ++ qs) → (i j : ℕ) → bad_in ps i ≡ true → j ≤ i → bad_in qs j ≡ false
later_is_good f [] qs chain i j h le = absurd (false≢true h)
later_is_good f (p ∷ ps) qs chain i j h le =
    ⊎_elim
    (λ here.
    let end = ends_here p i here in
    (or_parts (bad_in ps j) (bad_in qs j) (sym (bad_in_append ps qs j) ∙ before_all (after p.lies) (ps ++ qs) chain.1 j (omega arith))).1)
    (λ there. later_is_good (after p.lies) ps qs chain.1 i j there le)
    (or_cases (bad_here p i) (bad_in ps i) h)

-- the first bad word, where it stands in the parts before
pub first_in_front : (f : ℕ) (ps qs : List Part) → Chain f (ps ++ qs) → (i : ℕ) → FirstIn ps (Some i) → FirstIn (ps ++ qs) (Some i)
first_in_front f ps qs chain i h = (
  bad_in_append ps qs i ∙ or_left (bad_in ps i) (bad_in qs i) h.0,
  λ j less. bad_in_append ps qs j ∙ or_from (bad_in ps j) (bad_in qs j) (h.1 j less) (later_is_good f ps qs chain i j h.0 (omega arith)),
)

-- the first bad word, where none stands in the parts before
pub first_in_rest : (ps qs : List Part) (r : Option ℕ) → FirstIn ps None → FirstIn qs r → FirstIn (ps ++ qs) r
first_in_rest ps qs None none h = λ i. bad_in_append ps qs i ∙ or_from (bad_in ps i) (bad_in qs i) (none i) (h i)
first_in_rest ps qs (Some i) none h = (
  bad_in_append ps qs i ∙ or_right (bad_in ps i) (bad_in qs i) h.0,
  λ j less. bad_in_append ps qs j ∙ or_from (bad_in ps j) (bad_in qs j) (none j) (h.1 j less),
)

-- the first bad word of the parts before, and if there is none, whatever is found in the parts after
pub first_of_both :
    (f : ℕ) (ps qs : List Part) → Chain f (ps ++ qs) → (a r : Option ℕ) {P : Type 0} → FirstIn ps a → MatchOption a P (λ i. r ≡ Some i)
    → (P → FirstIn qs r) → FirstIn (ps ++ qs) r
first_of_both f ps qs chain None r h after k = first_in_rest ps qs r h (k after)
first_of_both f ps qs chain (Some i) r h same k = subst (FirstIn (ps ++ qs)) (sym same) (first_in_front f ps qs chain i h)

-- the first bad word of a part of n words, found as its word number j and turned into its place
pub first_of_part :
    (p : Part) (first n : ℕ) → first ≡ p.lies.first → p.lies.size ≡ n → (a r : Option ℕ) {P : ℕ → ℕ → Type 0} → Finds p.bad 0 n a
    → MatchOption a (r ≡ None) (λ j. IsSomeAnd r (P j)) → ((j i : ℕ) → P j i → i ≡ first + j) → FirstIn (p ∷ []) r
first_of_part p first n begins size None r h none place =
    subst (FirstIn (p ∷ [])) (sym none) (nothing_is_bad (p ∷ []) (part_is_good p n size h, tt))
first_of_part p first n begins size (Some j) None h there place = absurd there
first_of_part p first n begins size (Some j) (Some i) h there place =
    subst (λ k. FirstIn (p ∷ []) (Some k)) (ap (λ f. f + j) (sym begins) ∙ sym (place j i there))
    (alone_some p j (subst (λ k. Finds p.bad 0 k (Some j)) (sym size) h))
