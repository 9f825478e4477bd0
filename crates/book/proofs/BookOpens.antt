-- What open answers is right, by the first bad word that was found. Assumes nothing.
use Rattle.std.proofs.Common.{◌≡◌, ℕ, List, Some, None, Ok, Err, Result, refl, subst, inr}
use Rattle.measure.specs.Scale.{Scale}
use Rattle.drawing.specs.Outcomes.{verdict, Ends}
use Rattle.drawing.specs.declared.refusal.Refusal.{Refusal}
use Rattle.drawing.specs.declared.refusal.Refusal.TheVariants.{BadEntry}
use Rattle.drawing.specs.declared.refusal.Table.TheVariants.{Book as of_the_book}
use Rattle.book.specs.declared.counts.Counts.{Counts}
use Rattle.book.specs.Layout.{counts_of}
use Rattle.book.specs.Bad.{parts}
use Rattle.book.specs.Found.{FirstIn}
use Rattle.book.specs.Opened.{open_checks, IsBook, OpensExactlyBooks}

-- counts that were read passed the checks, and are those that are wanted
pub counts_read : (v : Result Unit Refusal) (c counts : Counts) → Ends v (Ok c) (Unit {0}) (λ d. d ≡ counts) → (v ≡ Ok tt) × (c ≡ counts)
counts_read (Ok u) c counts h = (refl, h)
counts_read (Err x) c counts h = absurd (let e = h.0 in cc)

module _ (s : Scale) (ws : List ℕ) (c : Counts) (read : Ends (verdict (open_checks s ws)) (Ok c) (Unit {0}) (λ d. d ≡ counts_of ws)) where
  checked : verdict (open_checks s ws) ≡ Ok tt
  checked = (counts_read (verdict (open_checks s ws)) c (counts_of ws) read).0

  pub counted : c ≡ counts_of ws
  counted = (counts_read (verdict (open_checks s ws)) c (counts_of ws) read).1

  pub refused_rightly : (i : ℕ) → FirstIn (parts s ws c) (Some i) → OpensExactlyBooks s ws (Err (BadEntry of_the_book i))
  refused_rightly i h = inr (checked, (i, subst (λ counts. FirstIn (parts s ws counts) (Some i)) counted h, refl))

  pub opened_rightly : FirstIn (parts s ws c) None → IsBook s ws
  opened_rightly h =
      record { checked = checked; none_bad = subst (λ counts. FirstIn (parts s ws counts) None) counted h }
