-- What an opened book tells: the words of its sections. Assumes nothing.
use Rattle.std.proofs.Common.{◌≡◌, ℕ, ◌+◌, ◌-◌, ◌<◌, ◌≤◌, Bool, true, false, cond, not, ltb, List, [], ◌∷◌, get_or, Some, None, Ok, Err, Result, refl, sym, ap, ◌∙◌, subst, arith}
use Rattle.std.proofs.lemmas.Bool.{cond-true, lt-ltb}
use Rattle.drawing.specs.Edits.{within}
use Rattle.drawing.specs.Outcomes.{refuse, verdict, Ends}
use Rattle.drawing.specs.declared.refusal.Refusal.{Refusal}
use Rattle.drawing.specs.declared.refusal.Refusal.TheVariants.{NoJunction}
use Rattle.book.specs.Layout.{word, counts_of, Section, Spans, places_at, order_at}
use Rattle.book.specs.Opened.{Shows}
use Rattle.book.specs.Parts.{IsWord}
use Rattle.book.specs.Sections.{HasSections}
use Rattle.book.specs.Told.{border_order, border_of}
use Rattle.book.specs.declared.opened.Book.{Book}
use Rattle.book.specs.declared.span.Span.{Span}
use Rattle.drawing.proofs.Within.{is_within, between}
use Rattle.book.proofs.SectionWords.{section_word}

-- a junction that is not refused is there
no_failure : (b : Bool) → ◌≡◌ {A = Result Unit Refusal} (Ok tt) (cond b (Err NoJunction) (Ok tt)) → b ≡ false
no_failure true h = let z : ◌≡◌ {A = ℕ} 0 1 = cc in absurd (omega arith)
no_failure false h = refl

pub junction_is_there : (n v : ℕ) → ◌≡◌ {A = Result Unit Refusal} (Ok tt) (verdict (refuse NoJunction (not (within 1 n v)) ∷ [])) → (1 ≤ v) × (v ≤ n)
junction_is_there n v h = between 1 n v (no_failure (not (within 1 n v)) h)

-- the border of a rank that there is
pub border_of_rank : (ws : List ℕ) (rank : ℕ) → rank < word ws 4 → border_of ws rank ≡ Some (get_or (border_order ws) rank 0)
border_of_rank ws rank l =
    cond-true (ltb rank (word ws 4)) (Some (get_or (border_order ws) rank 0)) None (lt-ltb rank (word ws 4) l)

module _ (ws : List ℕ) (b : Book) (shows : Shows ws b) where
  -- the sections of an opened book are those of its words
  pub shown : HasSections (counts_of ws) b.layout.sections
  shown = subst (λ c. HasSections c b.layout.sections) shows.counts b.layout.laid

  -- what is read of a section of an opened book is its word
  pub reads :
      (x : Section) (p : Span) (j w : ℕ) → Spans x (counts_of ws).words p → IsWord b.words.now p j w → j < x.size
      → w ≡ word ws (x.first + j)
  reads x p j w spans h l =
      let is_word : IsWord ws p j w = subst (λ l. IsWord l p j w) shows.words h in
      is_word (subst (λ n. j < n) (sym spans.length) l) ∙ ap (λ f. word ws (f + j)) spans.first

  pub tells_the_border : (rank x : ℕ) → rank < b.layout.counts.borders → IsWord b.words.now b.layout.sections.order rank x → Some x ≡ border_of ws rank
  tells_the_border rank x low h =
      let l : rank < word ws 4 = subst (λ c. rank < c.borders) shows.counts low in
      let at = order_at (counts_of ws) in
      ap Some (reads at b.layout.sections.order rank x shown.order h l ∙ sym (section_word at ws rank l))
      ∙ sym (border_of_rank ws rank l)

  pub tells_the_district :
      (v x : ℕ) → 1 ≤ v → v ≤ b.layout.counts.junctions → IsWord b.words.now b.layout.sections.places (v - 1) x
      → Ends (verdict (refuse NoJunction (not (within 1 (word ws 2) v)) ∷ [])) (Ok x) (Unit {0})
      (λ d. d ≡ word ws ((places_at (counts_of ws)).first + (v - 1)))
  tells_the_district v x low high h =
      let l : v ≤ word ws 2 = subst (λ c. v ≤ c.junctions) shows.counts high in
      rw (is_within 1 (word ws 2) v low l)
      (reads (places_at (counts_of ws)) b.layout.sections.places (v - 1) x shown.places h (omega arith))
