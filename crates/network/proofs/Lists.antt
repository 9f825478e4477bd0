-- Membership of lists: by rank, of two lists in a row, of what a test keeps, of numbers counted up. Assumes nothing.
use Rattle.std.proofs.Common.{◌≡◌, ℕ, zero, suc, ◌+◌, ◌<◌, ◌≤◌, Bool, true, false, not, eqb, ◌⊎◌, List, [], ◌∷◌, ◌++◌, length, get_or, filter, sym, refl, ap, ◌∙◌, subst, inl, inr, ⊎_elim, arith}
use Rattle.std.specs.List.{AllByRecursion}
use Rattle.std.proofs.lemmas.Bool.{cases_eq, cases_Bool, cond_both, eq-eqb, ne_eqb, not_from_true, not_from_false}
use Rattle.std.proofs.ByRecursion.{all_kept_by, kept_by_passes}
use Rattle.network.specs.Lists.{In, Distinct, count_up}

module _ {A : Type 0} where
  pub in_append_left : (x : A) (xs ys : List A) → In x xs → In x (xs ++ ys)
  in_append_left x [] ys i = absurd i
  in_append_left x (y ∷ xs) ys (inl e) = inl e
  in_append_left x (y ∷ xs) ys (inr i) = inr (in_append_left x xs ys i)

  pub in_append_right : (x : A) (xs ys : List A) → In x ys → In x (xs ++ ys)
  in_append_right x [] ys i = i
  in_append_right x (y ∷ xs) ys i = inr (in_append_right x xs ys i)

  pub in_append_cases : (x : A) (xs ys : List A) → In x (xs ++ ys) → In x xs ⊎ In x ys
  in_append_cases x [] ys i = inr i
  in_append_cases x (y ∷ xs) ys (inl e) = inl (inl e)
  in_append_cases x (y ∷ xs) ys (inr i) = ⊎_elim (λ j. inl (inr j)) inr (in_append_cases x xs ys i)

  -- what holds of all holds of each
  pub all_in : (P : A → Type 0) (x : A) (xs : List A) → AllByRecursion P xs → In x xs → P x
  all_in P x [] h i = absurd i
  all_in P x (y ∷ xs) (h, t) (inl e) = subst P (sym e) h
  all_in P x (y ∷ xs) (h, t) (inr i) = all_in P x xs t i

  -- what holds of each holds of all
  pub all_from_in : (P : A → Type 0) (xs : List A) → ((x : A) → In x xs → P x) → AllByRecursion P xs
  all_from_in P [] h = tt
  all_from_in P (x ∷ xs) h = (h x (inl refl), all_from_in P xs (λ y i. h y (inr i)))

  -- what stands in a list has a rank
  pub rank_of : (d x : A) (xs : List A) → In x xs → (i : ℕ) × (i < length xs) × (get_or xs i d ≡ x)
  rank_of d x [] i = absurd i
  rank_of d x (y ∷ xs) (inl e) = (0, omega arith, sym e)
  rank_of d x (y ∷ xs) (inr i) = let r = rank_of d x xs i in (suc r.0, omega arith, r.2)

  pub getD_in : (d : A) (xs : List A) (i : ℕ) → i < length xs → In (get_or xs i d) xs
  getD_in d [] i h = absurd (omega arith)
  getD_in d (x ∷ xs) zero h = inl refl
  getD_in d (x ∷ xs) (suc i) h = inr (getD_in d xs i (omega arith))

  -- what is in a list and passes the test is kept
  pub in_kept_by : (p : A → Bool) (x : A) (xs : List A) → p x ≡ true → In x xs → In x (filter p xs)
  in_kept_by p x [] t i = absurd i
  in_kept_by p x (y ∷ xs) t (inl e) = rw (subst (λ z. p z ≡ true) e t) (inl e)
  in_kept_by p x (y ∷ xs) t (inr i) =
      ⊎_elim (λ h. rw h (inr (in_kept_by p x xs t i))) (λ h. rw h (in_kept_by p x xs t i)) (cases_Bool (p y))

  -- what is kept was in the list, and passes the test
  pub kept_by_in : (p : A → Bool) (x : A) (xs : List A) → In x (filter p xs) → In x xs × (p x ≡ true)
  kept_by_in p x xs i = (
    all_in (λ y. In y xs) x (filter p xs) (all_kept_by p (λ y. In y xs) xs (all_from_in (λ y. In y xs) xs (λ y j. j))) i,
    all_in (λ y. p y ≡ true) x (filter p xs) (kept_by_passes p xs) i,
  )

  pub distinct_kept_by : (p : A → Bool) (xs : List A) → Distinct xs → Distinct (filter p xs)
  distinct_kept_by p [] d = tt
  distinct_kept_by p (x ∷ xs) (h, d) =
      let ih = distinct_kept_by p xs d in
      cond_both (p x) (x ∷ filter p xs) (filter p xs) Distinct (λ t. ((λ i. h (kept_by_in p x xs i).0), ih)) (λ t. ih)

  pub kept_by_is_no_longer : (p : A → Bool) (xs : List A) → length (filter p xs) ≤ length xs
  kept_by_is_no_longer p [] = omega arith
  kept_by_is_no_longer p (x ∷ xs) =
      let ih = kept_by_is_no_longer p xs in
      cond_both (p x) (x ∷ filter p xs) (filter p xs) (λ ys. length ys ≤ suc (length xs)) (λ t. omega arith) (λ t. omega arith)

  -- where one element fails the test, fewer are kept
  pub kept_by_is_shorter : (p : A → Bool) (x : A) (xs : List A) → p x ≡ false → In x xs → length (filter p xs) < length xs
  kept_by_is_shorter p x [] f i = absurd i
  kept_by_is_shorter p x (y ∷ xs) f (inl e) =
      let k = kept_by_is_no_longer p xs in rw (subst (λ z. p z ≡ false) e f) (omega arith)
  kept_by_is_shorter p x (y ∷ xs) f (inr i) =
      let ih = kept_by_is_shorter p x xs f i in
      cond_both (p y) (y ∷ filter p xs) (filter p xs) (λ ys. length ys < suc (length xs)) (λ t. omega arith) (λ t. omega arith)

-- the numbers counted up from a are those from a on, as many as are counted
pub in_count_up : (x a k : ℕ) → a ≤ x → x < a + k → In x (count_up a k)
in_count_up x a zero h l = absurd (omega arith)
in_count_up x a (suc k) h l =
    ⊎_elim inl (λ ne. inr (in_count_up x (suc a) k (omega arith) (omega arith))) (cases_eq x a)

pub count_up_in : (x a k : ℕ) → In x (count_up a k) → (a ≤ x) × (x < a + k)
count_up_in x a zero i = absurd i
count_up_in x a (suc k) (inl e) = (omega arith, omega arith)
count_up_in x a (suc k) (inr i) = let h = count_up_in x (suc a) k i in (omega arith, omega arith)

pub length_count_up : (a k : ℕ) → length (count_up a k) ≡ k
length_count_up a zero = refl
length_count_up a (suc k) = ap suc (length_count_up (suc a) k)

pub distinct_count_up : (a k : ℕ) → Distinct (count_up a k)
distinct_count_up a zero = tt
distinct_count_up a (suc k) = ((λ i. let h = count_up_in a (suc a) k i in omega arith), distinct_count_up (suc a) k)

-- the numbers counted up, cut before one of them
pub count_up_cut : (a m k : ℕ) → count_up a (m + suc k) ≡ count_up a m ++ (a + m) ∷ count_up (suc (a + m)) k
count_up_cut a zero k =
    let all : zero + suc k ≡ suc k = omega arith in
    let here : a ≡ a + zero = omega arith in
    ap (count_up a) all ∙ ap (λ x. x ∷ count_up (suc x) k) here
count_up_cut a (suc m) k =
    let all : suc m + suc k ≡ suc (m + suc k) = omega arith in
    let here : suc a + m ≡ a + suc m = omega arith in
    ap (count_up a) all ∙ ap (λ l. a ∷ l) (count_up_cut (suc a) m k ∙ ap (λ x. count_up (suc a) m ++ x ∷ count_up (suc x) k) here)

-- a list of numbers with one number taken out, wherever it stands
abbrev pub without : ℕ → List ℕ → List ℕ
without u xs = filter (λ x. not (eqb x u)) xs

pub in_without : (u x : ℕ) (xs : List ℕ) → (x ≡ u → ⊥) → In x xs → In x (without u xs)
in_without u x xs ne i = in_kept_by (λ y. not (eqb y u)) x xs (not_from_false (eqb x u) (ne_eqb x u ne)) i

pub without_is_shorter : (u : ℕ) (xs : List ℕ) → In u xs → length (without u xs) < length xs
without_is_shorter u xs i = kept_by_is_shorter (λ y. not (eqb y u)) u xs (not_from_true (eqb u u) (eq-eqb u u refl)) i
