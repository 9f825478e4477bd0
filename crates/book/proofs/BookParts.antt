-- The parts of a book follow one another; where its first bad word stands, by what the search of each part finds. Assumes nothing.
use Rattle.std.proofs.Common.{◌≡◌, ℕ, List, [], ◌∷◌, ◌++◌, Some, None, Option, refl, subst, zero-add, arith}
use Rattle.std.specs.Option.{MatchOption}
use Rattle.measure.specs.Scale.{Scale}
use Rattle.book.specs.declared.counts.Counts.{Counts}
use Rattle.book.specs.declared.names.Names.{Names}
use Rattle.book.specs.declared.names.Names.TheVariants.{Ranks, Hubs}
use Rattle.book.specs.Layout.{section}
use Rattle.book.specs.Bad.{Part, part, offsets_at, entries_at, bad_count, count_faults, bad_offset, bad_entry, count_parts, place_parts, row_parts, parts, Finds}
use Rattle.book.specs.Found.{first_true, FirstIn, FirstInPart}
use Rattle.book.specs.Ready.{GoodOffsets}
use Rattle.book.proofs.SectionWords.{offsets_size, entries_follow}
use Rattle.book.proofs.Parts.{nothing_is_bad, part_is_good, parts_are_good, alone_some, first_in_front, first_in_rest, first_of_both}
use Rattle.book.proofs.FirstTrue.{first_true_found}

-- the counts
counts_give : (c : Counts) (r : Option ℕ) → r ≡ first_true 0 (count_faults c) → Finds (bad_count c) 0 8 r
counts_give c r is = first_true_found (count_faults c) r is

pub in_counts : (c : Counts) (r : Option ℕ) → r ≡ first_true 0 (count_faults c) → FirstIn (count_parts c) r
in_counts c None is =
    nothing_is_bad (count_parts c) (part_is_good (part (section 0 8) (bad_count c)) 8 refl (counts_give c None is), tt)
in_counts c (Some i) is =
    subst (λ k. FirstIn (count_parts c) (Some k)) (zero-add i)
    (alone_some (part (section 0 8) (bad_count c)) i (counts_give c (Some i) is))

module _ (s : Scale) (ws : List ℕ) (c : Counts) where
  -- the rows of one kind
  pub offsets_good : (names : Names) → FirstInPart (offsets_at c names) (bad_offset ws c names) None → GoodOffsets ws c names
  offsets_good names h j l =
      let size = offsets_size c names in
      (parts_are_good (part (offsets_at c names) (bad_offset ws c names) ∷ []) h).0 j (omega arith)

  pub in_rows :
      (names : Names) (a r : Option ℕ) {P : Type 0} → FirstInPart (offsets_at c names) (bad_offset ws c names) a
      → MatchOption a P (λ i. r ≡ Some i) → (P → FirstInPart (entries_at c names) (bad_entry s ws c names) r)
      → FirstIn (row_parts s ws c names) r
  in_rows names a r h then entries =
      first_of_both (offsets_at c names).first (part (offsets_at c names) (bad_offset ws c names) ∷ [])
      (part (entries_at c names) (bad_entry s ws c names) ∷ []) (refl, (entries_follow c names, tt)) a r h then entries

  abbrev ranks : List Part
  ranks = row_parts s ws c Ranks

  abbrev hubs : List Part
  hubs = row_parts s ws c Hubs

  -- what comes after the counts: the districts and the border order, the border rows, and the district rows
  pub after_counts :
      (a b r : Option ℕ) {P Q : Type 0} → FirstIn (place_parts ws c) a → MatchOption a P (λ i. b ≡ Some i)
      → MatchOption b Q (λ i. r ≡ Some i) → (P → FirstIn ranks b) → (Q → FirstIn hubs r)
      → FirstIn (place_parts ws c ++ (ranks ++ hubs)) r
  after_counts a b r places to_ranks to_hubs above inside =
      first_of_both 8 (place_parts ws c ++ ranks) hubs (refl, (refl, (refl, (refl, (refl, (refl, tt)))))) b r
      (first_of_both 8 (place_parts ws c) ranks (refl, (refl, (refl, (refl, tt)))) a b places to_ranks above) to_hubs inside

  -- all parts
  pub book_by_counts : (i : ℕ) → Some i ≡ first_true 0 (count_faults c) → FirstIn (parts s ws c) (Some i)
  book_by_counts i is =
      first_in_front 0 (count_parts c) (place_parts ws c ++ (ranks ++ hubs)) (refl, (refl, (refl, (refl, (refl, (refl, (refl, tt)))))))
      i (in_counts c (Some i) is)

  pub book_by_sections :
      (r : Option ℕ) → None ≡ first_true 0 (count_faults c) → (k : Counts) → k ≡ c
      → FirstIn (place_parts ws k ++ (row_parts s ws k Ranks ++ row_parts s ws k Hubs)) r → FirstIn (parts s ws c) r
  book_by_sections r is k same h =
      first_in_rest (count_parts c) (place_parts ws c ++ (ranks ++ hubs)) r (in_counts c None is)
      (subst (λ d. FirstIn (place_parts ws d ++ (row_parts s ws d Ranks ++ row_parts s ws d Hubs)) r) same h)
