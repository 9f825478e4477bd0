-- The part of a book's words that is the row of a junction. Assumes nothing.
use Rattle.std.proofs.Common.{◌≡◌, ℕ, ◌+◌, ◌-◌, ◌*◌, ◌≤◌, not, List, [], ◌∷◌, length, take, drop, Ok, Err, Result, ap, ◌∙◌, subst, arith, Bor}
use Rattle.measure.specs.Scale.{Scale}
use Rattle.drawing.specs.Edits.{within}
use Rattle.drawing.specs.Outcomes.{refuse, verdict, Ends}
use Rattle.drawing.specs.declared.refusal.Refusal.{Refusal}
use Rattle.drawing.specs.declared.refusal.Refusal.TheVariants.{NoJunction}
use Rattle.book.specs.Layout.{word, counts_of, Spans}
use Rattle.book.specs.Bad.{offset, offsets_at, entries_at, entry_count}
use Rattle.book.specs.Opened.{IsBook, Shows, row_words}
use Rattle.book.specs.Parts.{IsPart, IsWord, IsStretch}
use Rattle.book.specs.declared.counts.Counts.{Counts}
use Rattle.book.specs.Sections.{HasSections, offsets_of, entries_of}
use Rattle.book.specs.declared.names.Names.{Names}
use Rattle.book.specs.declared.names.Names.TheVariants.{Ranks, Hubs}
use Rattle.book.specs.declared.sections.Sections.{Sections}
use Rattle.book.specs.declared.opened.Book.{Book}
use Rattle.book.specs.declared.span.Span.{Span}
use Rattle.book.proofs.IsBook.{ready, good_offsets}
use Rattle.book.proofs.RowsOfEntries.{next_offset, offset_within}
use Rattle.book.proofs.Telling.{shown}
use Rattle.book.proofs.SectionWords.{offsets_size, entries_size}
use Rattle.drawing.proofs.Within.{is_within}

-- what was handed out of words that are all there is the part that the span says
part_is_there :
    (ws xs : List ℕ) (p : Span) (r : Result (Bor (List ℕ)) Refusal) → p.total ≤ length ws
    → take p.length (drop p.first ws) ≡ xs → IsPart ws p r → Ends (Ok tt) r (Unit {0}) (λ part. part.now ≡ xs)
part_is_there ws xs p (Ok part) there e h = h ∙ e
part_is_there ws xs p (Err x) there e h = omega arith

-- the sections of the rows of one kind are those that the counts give
pub spans_offsets : (c : Counts) (x : Sections) (names : Names) → HasSections c x → Spans (offsets_at c names) c.words (offsets_of x names)
spans_offsets c x Ranks h = h.border_offsets
spans_offsets c x Hubs h = h.district_offsets

pub spans_entries : (c : Counts) (x : Sections) (names : Names) → HasSections c x → Spans (entries_at c names) c.words (entries_of x names)
spans_entries c x Ranks h = h.border_entries
spans_entries c x Hubs h = h.district_entries

-- Where the offsets and the stretch are read as they should be, what is handed out is the row of the junction v.
module _ (s : Scale) (names : Names) (v : ℕ) (r : Result (Bor (List ℕ)) Refusal) (begin end : ℕ) (p : Span) where
  abbrev HandedOut : List ℕ → Type 0
  HandedOut ws =
      Ends (verdict (refuse NoJunction (not (within 1 (word ws 2) v)) ∷ [])) r (Unit {0}) (λ part. part.now ≡ row_words ws names v)

  of_words :
      (ws : List ℕ) (o e : Span) → IsBook s ws → 1 ≤ v → v ≤ word ws 2 → Spans (offsets_at (counts_of ws) names) (counts_of ws).words o
      → Spans (entries_at (counts_of ws) names) (counts_of ws).words e → IsWord ws o (v - 1) begin → IsWord ws o v end
      → IsStretch e begin end p → IsPart ws p r → HandedOut ws
  of_words ws o e book low high offs ents at_begin at_end stretches h =
      let c = counts_of ws in
      let good = ready s ws book in
      let offsets = good_offsets s ws book names in
      let rises = next_offset ws c names offsets v low high in
      let few = offset_within ws c names offsets v high in
      let in_offsets : o.length ≡ c.junctions + 1 = offs.length ∙ offsets_size c names in
      let in_entries : e.length ≡ 2 * entry_count c names = ents.length ∙ entries_size c names in
      let is_begin : begin ≡ offset ws c names (v - 1) = at_begin (omega arith) ∙ ap (λ f. word ws (f + (v - 1))) offs.first in
      let is_end : end ≡ offset ws c names v = at_end (omega arith) ∙ ap (λ f. word ws (f + v)) offs.first in
      let is_span = stretches (omega arith) (omega arith) in
      let there : p.total ≤ length ws = omega (arith, is_span.total, ents.total) in
      let same : take p.length (drop p.first ws) ≡ row_words ws names v =
      ap (λ n. take n (drop p.first ws)) is_span.length
      ∙ ap (λ n. take (2 * (end - begin)) (drop n ws)) is_span.first
      ∙ ap (λ n. take (2 * (end - begin)) (drop (n + 2 * begin) ws)) ents.first
      ∙ ap (λ n. take (2 * (end - n)) (drop ((entries_at c names).first + 2 * n) ws)) is_begin
      ∙ ap (λ n. take (2 * (n - offset ws c names (v - 1))) (drop ((entries_at c names).first + 2 * offset ws c names (v - 1)) ws)) is_end in
      rw (is_within 1 (word ws 2) v low high) (part_is_there ws (row_words ws names v) p r there same h)

  pub hands_out :
      (ws : List ℕ) (b : Book) → IsBook s ws → Shows ws b → 1 ≤ v → v ≤ b.layout.counts.junctions
      → IsWord b.words.now (offsets_of b.layout.sections names) (v - 1) begin → IsWord b.words.now (offsets_of b.layout.sections names) v end
      → IsStretch (entries_of b.layout.sections names) begin end p → IsPart b.words.now p r → HandedOut ws
  hands_out ws b book shows low high at_begin at_end stretches h =
      let o = offsets_of b.layout.sections names in
      of_words ws o (entries_of b.layout.sections names) book low (subst (λ c. v ≤ c.junctions) shows.counts high)
      (spans_offsets (counts_of ws) b.layout.sections names (shown ws b shows)) (spans_entries (counts_of ws) b.layout.sections names (shown ws b shows))
      (subst (λ w. IsWord w o (v - 1) begin) shows.words at_begin)
      (subst (λ w. IsWord w o v end) shows.words at_end)
      stretches
      (subst (λ w. IsPart w p r) shows.words h)
