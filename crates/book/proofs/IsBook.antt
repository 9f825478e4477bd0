-- What holds of words that are a book: their counts are within their limits, all words are there, and no offset is bad.
-- Assumes nothing.
use Rattle.std.proofs.Common.{◌≡◌, ℕ, ◌*◌, ◌<◌, Bool, true, false, cond, eqb, List, [], ◌∷◌, length, Ok, Err, Result, refl, arith}
use Rattle.std.specs.List.{AllByRecursion}
use Rattle.std.proofs.lemmas.Bool.{not-false, ltb-false, eqb-true}
use Rattle.measure.specs.Scale.{Scale}
use Rattle.drawing.specs.Outcomes.{Check, verdict}
use Rattle.drawing.specs.declared.refusal.Refusal.{Refusal}
use Rattle.book.specs.Layout.{word, counts_of, total}
use Rattle.book.specs.Bad.{parts, bad_entry, entry_count}
use Rattle.book.specs.Opened.{IsBook, open_checks}
use Rattle.book.specs.Ready.{Ready, GoodOffsets}
use Rattle.book.specs.declared.names.Names.{Names}
use Rattle.book.specs.declared.names.Names.TheVariants.{Ranks, Hubs}
use Rattle.drawing.proofs.Within.{between}
use Rattle.book.proofs.Parts.{GoodPart, parts_are_good}

-- where checks come to no refusal, the first does not fail, nor do the others
passed : (b : Bool) (x : Refusal) (r : Result Unit Refusal) → cond b (Err x) r ≡ Ok tt → (b ≡ false) × (r ≡ Ok tt)
passed true x r e = absurd (let z : ◌≡◌ {A = ℕ} 0 1 = cc in omega arith)
passed false x r e = (refl, e)

none_fails : (cs : List Check) → verdict cs ≡ Ok tt → AllByRecursion (λ c. c.fails ≡ false) cs
none_fails [] e = tt
none_fails (c ∷ cs) e =
    let t = passed c.fails c.refusal (verdict cs) e in
    (t.0, none_fails cs t.1)

module _ (s : Scale) (ws : List ℕ) (book : IsBook s ws) where
  all_good : AllByRecursion GoodPart (parts s ws (counts_of ws))
  all_good = parts_are_good (parts s ws (counts_of ws)) book.none_bad

  pub ready : Ready ws (counts_of ws)
  ready =
      let c = counts_of ws in
      let counts = all_good.0 in
      let junctions = between 1 4096 c.junctions (counts 2 (omega arith)) in
      let districts = between 1 64 c.districts (counts 3 (omega arith)) in
      record {
        some_junctions = junctions.0;
        few_junctions = junctions.1;
        few_districts = districts.1;
        few_borders = ltb-false c.junctions c.borders (counts 4 (omega arith));
        few_border_entries = ltb-false (c.junctions * c.borders) c.border_entries (counts 5 (omega arith));
        few_district_entries = ltb-false (c.junctions * c.junctions) c.district_entries (counts 6 (omega arith));
        words_are_counted = eqb-true c.words (total c) (not-false (eqb c.words (total c)) (counts 7 (omega arith)));
        words_are_there = ltb-false (length ws) (word ws 7) (none_fails (open_checks s ws) book.checked).1.1.0;
      }

  pub good_offsets : (names : Names) → GoodOffsets ws (counts_of ws) names
  good_offsets Ranks j l = all_good.1.1.1.0 j (omega arith)
  good_offsets Hubs j l = all_good.1.1.1.1.1.0 j (omega arith)

  -- no word of the entries is bad
  pub good_entries :
      (names : Names) (j : ℕ) → j < 2 * entry_count (counts_of ws) names → bad_entry s ws (counts_of ws) names j ≡ false
  good_entries Ranks j l = all_good.1.1.1.1.0 j l
  good_entries Hubs j l = all_good.1.1.1.1.1.1.0 j l
