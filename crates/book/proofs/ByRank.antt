-- Two border rows joined, with the hub's rank turned into the border that has it. Assumes nothing.
use Rattle.std.proofs.Common.{◌≡◌, ℕ, ◌<◌, ltb, List, get_or, Some, None, Option, ap, ◌∙◌, arith}
use Rattle.std.proofs.lemmas.Bool.{cond-true, lt-ltb}
use Rattle.measure.specs.Scale.{Scale, Laws}
use Rattle.network.specs.Labels.{Entry, meet}
use Rattle.network.proofs.Lists.{all_in}
use Rattle.network.proofs.Meeting.{Meets, meets}
use Rattle.book.specs.Layout.{word, entries}
use Rattle.book.specs.Opened.{as_pair, as_pair_by_rank}
use Rattle.book.specs.Told.{IsBorderRow, border_order, border_of, with_border}
use Rattle.book.proofs.Merge.{values}

-- the border of a rank that there is
border_of_rank : (ws : List ℕ) (rank : ℕ) → rank < word ws 4 → border_of ws rank ≡ Some (get_or (border_order ws) rank 0)
border_of_rank ws rank l =
    cond-true (ltb rank (word ws 4)) (Some (get_or (border_order ws) rank 0)) None (lt-ltb rank (word ws 4) l)

module _ (s : Scale) (laws : Laws s) (ws p q : List ℕ) (left : IsBorderRow s ws p) (right : IsBorderRow s ws q) (x rank : ℕ) where
  -- the offer's hub is the hub of an entry of the first row
  rank_is_below : (m : Option Entry) → Meets s (entries p) (entries q) m → Some (x, rank) ≡ as_pair m → rank < word ws 4
  rank_is_below None h e = absurd (let z : ◌≡◌ {A = ℕ} 0 1 = cc in omega arith)
  rank_is_below (Some o) h e =
      let same : ◌≡◌ {A = ℕ × ℕ} (x, rank) (o.worth, o.hub) = cc in
      let is_hub : rank ≡ h.source.hub = ap (λ t. t.1) same ∙ h.hub_is in
      rw is_hub (all_in (λ y. y.hub < word ws 4) h.source (entries p) left.ranks h.source_is_there)

  found_below : Some (x, rank) ≡ as_pair (meet s (entries p) (entries q)) → rank < word ws 4
  found_below =
      rank_is_below (meet s (entries p) (entries q))
      (meets s laws (entries p) (entries q) (values s (entries p) left.row.proper) (values s (entries q) right.row.proper))

  -- the offer with the border of its rank
  by_its_rank : (m : Option Entry) → Some (x, rank) ≡ as_pair m → Some (x, get_or (border_order ws) rank 0) ≡ as_pair_by_rank (border_order ws) m
  by_its_rank None e = absurd (let z : ◌≡◌ {A = ℕ} 0 1 = cc in omega arith)
  by_its_rank (Some o) e =
      let same : ◌≡◌ {A = ℕ × ℕ} (x, rank) (o.worth, o.hub) = cc in
      ap (λ t. Some (t.0, get_or (border_order ws) t.1 0)) same

  pub gives_the_border :
      (border : Option ℕ) → Some (x, rank) ≡ as_pair (meet s (entries p) (entries q)) → border ≡ border_of ws rank
      → with_border x border ≡ as_pair_by_rank (border_order ws) (meet s (entries p) (entries q))
  gives_the_border border e b =
      ap (with_border x) (b ∙ border_of_rank ws rank (found_below e)) ∙ by_its_rank (meet s (entries p) (entries q)) e
