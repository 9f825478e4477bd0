-- The marks of the borders so far, one border further. Assumes nothing.
use Rattle.std.proofs.Common.{◌≡◌, ℕ, ◌+◌, ◌<◌, ◌≤◌, ◌||◌, eqb, List, [], ◌∷◌, ◌++◌, length, take, sym, refl, ap, ◌∙◌, ⊎_elim, arith}
use Rattle.std.proofs.lemmas.List.{take_more}
use Rattle.std.proofs.lemmas.Bool.{cases_Bool}
use Rattle.std.proofs.lemmas.Bool.Decides.{nat_tests}
use Rattle.drawing.specs.Marked.{is_marked}
use Rattle.drawing.specs.declared.marks.Marks.{Marks}
use Rattle.book.specs.declared.counts.Counts.{Counts}
use Rattle.book.specs.Layout.{word, words_in, order_at, after}
use Rattle.book.specs.Bad.{among}
use Rattle.book.specs.Found.{MarkTheBorders}
use Rattle.book.specs.Ready.{Ready}
use Rattle.book.proofs.SectionWords.{section_length, section_word}

-- one element further
pub among_push : (b x : ℕ) (bs : List ℕ) → among b (bs ++ x ∷ []) ≡ (eqb b x || among b bs)
among_push b x [] = refl
among_push b x (y ∷ ys) =
    rw (among_push b x ys)
    (⊎_elim (λ e. rw e (grind arith)) (λ e. rw e (grind arith)) (cases_Bool (eqb b y)))

comes_back : (a b : ℕ) → eqb a b ≡ eqb b a
comes_back a b = grind (arith, nat_tests)

-- the marks after one more
marked_more :
    (old new : Marks) (bs : List ℕ) (x : ℕ) → ((b : ℕ) → b ≤ 4096 → is_marked new b ≡ (eqb x b || is_marked old b))
    → MarkTheBorders old bs → MarkTheBorders new (bs ++ x ∷ [])
marked_more old new bs x marks m b h =
    marks b h ∙ ap (λ t. eqb x b || t) (m b h) ∙ ap (λ t. t || among b bs) (comes_back x b) ∙ sym (among_push b x bs)

-- the marks after the border of rank j
pub border_marked :
    (ws : List ℕ) (c : Counts) → Ready ws c → (old new : Marks) (j x : ℕ) → j < c.borders → x ≡ word ws ((order_at c).first + j)
    → ((b : ℕ) → b ≤ 4096 → is_marked new b ≡ (eqb x b || is_marked old b))
    → MarkTheBorders old (take j (words_in (order_at c) ws)) → MarkTheBorders new (take (j + 1) (words_in (order_at c) ws))
border_marked ws c ready old new j x inside is marks m =
    let order = words_in (order_at c) ws in
    let fits : after (order_at c) ≤ length ws = omega (arith, ready.words_are_counted, ready.words_are_there) in
    let longer : j < length order = rw (section_length (order_at c) ws fits) inside in
    let more : take (j + 1) order ≡ take j order ++ x ∷ [] =
    take_more order j 0 longer ∙ ap (λ y. take j order ++ y ∷ []) (section_word (order_at c) ws j inside ∙ sym is)
    in
    rw more (marked_more old new (take j order) x marks m)
