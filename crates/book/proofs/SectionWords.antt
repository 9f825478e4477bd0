-- The words of a section, by number; and where the sections of the rows of one kind lie. Assumes nothing.
use Rattle.std.proofs.Common.{◌≡◌, ℕ, ◌+◌, ◌*◌, ◌<◌, ◌≤◌, List, length, get_or, take, drop, sym, refl, ap, ◌∙◌, arith}
use Rattle.std.proofs.lemmas.List.{get_or-take, get_or-drop, length-take, length-drop, take-take, drop-drop, drop-take}
use Rattle.book.specs.Layout.{word, Section, words_in, after}
use Rattle.book.specs.Bad.{offsets_at, entries_at, entry_count}
use Rattle.book.specs.Ready.{Ready}
use Rattle.book.specs.declared.counts.Counts.{Counts}
use Rattle.book.specs.declared.names.Names.{Names}
use Rattle.book.specs.declared.names.Names.TheVariants.{Ranks, Hubs}

module _ (x : Section) (ws : List ℕ) where
  pub section_length : after x ≤ length ws → length (words_in x ws) ≡ x.size
  section_length fits = simp (length-take, length-drop) (omega arith)

  pub section_word : (j : ℕ) → j < x.size → get_or (words_in x ws) j 0 ≡ word ws (x.first + j)
  section_word j h = rw (get_or-take, get_or-drop)

  -- the same, where the section's words are known
  pub word_of_section : (here : List ℕ) (j : ℕ) → words_in x ws ≡ here → j < x.size → word ws (x.first + j) ≡ get_or here j 0
  word_of_section here j e h = sym (section_word j h) ∙ ap (λ l. get_or l j 0) e

  -- a part of a section: so many words from word number `from` of the section on
  pub part_of_section : (from size : ℕ) → from + size ≤ x.size → take size (drop (x.first + from) ws) ≡ take size (drop from (words_in x ws))
  part_of_section from size h =
      let longer : List ℕ = drop x.first ws in
      let inner : (l : List ℕ) → take size (drop from (take (from + size) l)) ≡ take size (drop from l) = λ l.
      ap (take size) (drop-take from size l) ∙ take-take size size (drop from l) (omega arith) in
      ap (take size) (sym (drop-drop from x.first ws))
      ∙ sym (inner longer)
      ∙ ap (λ l. take size (drop from l)) (sym (take-take (from + size) x.size longer h))
      ∙ inner (words_in x ws)

-- the sections of the rows of one kind
pub offsets_size : (c : Counts) (names : Names) → (offsets_at c names).size ≡ c.junctions + 1
offsets_size c Ranks = refl
offsets_size c Hubs = refl

pub entries_size : (c : Counts) (names : Names) → (entries_at c names).size ≡ 2 * entry_count c names
entries_size c Ranks = refl
entries_size c Hubs = refl

pub entries_follow : (c : Counts) (names : Names) → (entries_at c names).first ≡ after (offsets_at c names)
entries_follow c Ranks = refl
entries_follow c Hubs = refl

-- the entries, and so the offsets before them, end within the words
pub entries_fit : (ws : List ℕ) (c : Counts) (names : Names) → Ready ws c → after (entries_at c names) ≤ length ws
entries_fit ws c Ranks ready = omega arith
entries_fit ws c Hubs ready = omega arith
