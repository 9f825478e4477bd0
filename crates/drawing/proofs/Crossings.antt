-- Borders, road by road: which junctions a list of roads makes borders. Assumes nothing.
use Rattle.std.proofs.Common.{◌≡◌, ℕ, zero, suc, ◌+◌, ◌<◌, ◌≤◌, Bool, true, false, cond, not, ◌&&◌, ◌||◌, eqb, List, [], ◌∷◌, ◌++◌, map, length, get_or, take, replicate, Ok, filter, Result, sym, refl, ap, ◌∙◌, add-one, arith}
use mathlib.Core.Bool.{or_assoc}
use Rattle.std.proofs.lemmas.List.{map-append, take_more}
use Rattle.std.proofs.lemmas.Bool.Decides.{nat_tests}
use Rattle.std.specs.List.{range_with_len}
use Rattle.network.specs.Lists.{count_up}
use Rattle.network.specs.Networks.{Network, district, arcs_of, crosses, at_a_crossing, is_border, borders}
use Rattle.network.specs.Networks as network
use Rattle.network.specs.Walks.{Arc, arc}
use Rattle.drawing.specs.Borders.{is_open, road_of, road_crosses, places_in, network_of, border_checks, borders_in, UsesTheTables}
use Rattle.drawing.specs.Marked.{is_marked}
use Rattle.drawing.specs.declared.marks.Marks.{Marks}
use Rattle.drawing.specs.Edits.{open_road}
use Rattle.drawing.specs.Outcomes.{verdict, Ends}
use Rattle.drawing.specs.declared.refusal.Refusal.{Refusal}
use Rattle.drawing.specs.declared.rest.Rest.{Rest}
use Rattle.drawing.specs.declared.tables.Junction.{Junction}
use Rattle.drawing.specs.declared.tables.Road.{Road}
use Rattle.drawing.specs.declared.used.Used.{Used}
use Rattle.drawing.proofs.Verdicts.{used_means}

-- the road in record number i of a table
abbrev pub road_at : List Road → ℕ → Road
road_at rs i = get_or rs i (open_road 0 0 0)

-- crossings of two lists of arcs
pub crossing_of_both : (net : Network) (xs ys : List Arc) (v : ℕ) → at_a_crossing net (xs ++ ys) v ≡ (at_a_crossing net xs v || at_a_crossing net ys v)
crossing_of_both net [] ys v = refl
crossing_of_both net (x ∷ xs) ys v =
    ap (λ t. (crosses net x && (eqb x.from v || eqb x.to v)) || t) (crossing_of_both net xs ys v)
    ∙ sym (or_assoc (crosses net x && (eqb x.from v || eqb x.to v)) (at_a_crossing net xs v) (at_a_crossing net ys v))

-- arcs of two lists of roads
pub arcs_of_both : (rs qs : List network.Road) → arcs_of (rs ++ qs) ≡ arcs_of rs ++ arcs_of qs
arcs_of_both [] qs = refl
arcs_of_both (r ∷ rs) qs =
    elim r.is_open as (λ t. cond t (arc r.first r.second r.worth ∷ arc r.second r.first r.worth ∷ arcs_of (rs ++ qs)) (arcs_of (rs ++ qs)) ≡ cond t (arc r.first r.second r.worth ∷ arc r.second r.first r.worth ∷ arcs_of rs) (arcs_of rs) ++ arcs_of qs) [
      | true ↦ ap (λ l. arc r.first r.second r.worth ∷ arc r.second r.first r.worth ∷ l) (arcs_of_both rs qs)
      | false ↦ arcs_of_both rs qs
    ]

-- two numbers compare alike both ways
eqb_comes_back : (a b : ℕ) → eqb a b ≡ eqb b a
eqb_comes_back a b = grind (arith, nat_tests)

-- the two arcs of a road say the same
both_arcs : (x y p q : Bool) → x ≡ y → ((not x && (p || q)) || ((not y && (q || p)) || false)) ≡ (not x && (p || q))
both_arcs true y p q e = rw (← e) refl
both_arcs false y true q e = refl
both_arcs false y false true e = refl
both_arcs false y false false e = rw (← e) refl

-- one road makes its two ends borders if it crosses
pub crossing_of_one : (net : Network) (r : Road) (v : ℕ) → at_a_crossing net (arcs_of (road_of r ∷ [])) v ≡ (road_crosses net.places r && (eqb r.first v || eqb r.second v))
crossing_of_one net r v =
    elim (is_open r.mark) as (λ t. at_a_crossing net (cond t (arc r.first r.second r.value ∷ arc r.second r.first r.value ∷ []) []) v ≡ ((t && not (eqb (district net r.first) (district net r.second))) && (eqb r.first v || eqb r.second v))) [
      | true ↦ both_arcs (eqb (district net r.first) (district net r.second)) (eqb (district net r.second) (district net r.first)) (eqb r.first v) (eqb r.second v) (eqb_comes_back (district net r.first) (district net r.second))
      | false ↦ refl
    ]

-- what the first roads of a table make borders, with one road more
pub one_road_more : (net : Network) (rs : List Road) (i v : ℕ) → i < length rs → (at_a_crossing net (arcs_of (map road_of (take i rs))) v || (road_crosses net.places (road_at rs i) && (eqb (road_at rs i).first v || eqb (road_at rs i).second v))) ≡ at_a_crossing net (arcs_of (map road_of (take (i + 1) rs))) v
one_road_more net rs i v h =
    let r = road_at rs i in
    sym
    (ap (λ l. at_a_crossing net (arcs_of (map road_of l)) v) (take_more rs i (open_road 0 0 0) h)
    ∙ ap (λ l. at_a_crossing net (arcs_of l) v) (map-append road_of (take i rs) (r ∷ []))
    ∙ ap (λ l. at_a_crossing net l v) (arcs_of_both (map road_of (take i rs)) (road_of r ∷ []))
    ∙ crossing_of_both net (arcs_of (map road_of (take i rs))) (arcs_of (road_of r ∷ [])) v
    ∙ ap (λ t. at_a_crossing net (arcs_of (map road_of (take i rs))) v || t) (crossing_of_one net r v))

-- no mark is set at first
pub no_mark : (n v : ℕ) → get_or (replicate n false) v false ≡ false
no_mark zero v = refl
no_mark (suc n) zero = refl
no_mark (suc n) (suc v) = no_mark n v

-- two tests that agree on some numbers in a row keep the same of them
pub keeps_the_same : (f g : ℕ → Bool) (a k : ℕ) → ((v : ℕ) → v < a + k → f v ≡ g v) → filter f (count_up a k) ≡ filter g (count_up a k)
keeps_the_same f g a zero h = refl
keeps_the_same f g a (suc k) h =
    let later = keeps_the_same f g (suc a) k (λ v l. h v (omega arith)) in
    ap (λ b. cond b (a ∷ filter f (count_up (suc a) k)) (filter f (count_up (suc a) k))) (h a (omega arith))
    ∙ ap (λ l. cond (g a) (a ∷ l) l) later

-- the library counts up alike
counted_up : (a k : ℕ) → range_with_len a k ≡ count_up a k
counted_up a zero = refl
counted_up a (suc k) = rw add-one (ap (λ l. a ∷ l) (counted_up (suc a) k))

-- where the marks are those of the borders, the marked junctions are the borders
pub marked_are_borders :
    (m : Marks) (net : Network) → net.junctions ≤ 4096 → ((v : ℕ) → v ≤ 4096 → is_marked m v ≡ is_border net v)
    → filter (is_marked m) (range_with_len 1 net.junctions) ≡ borders net
marked_are_borders m net few h =
    ap (filter (is_marked m)) (counted_up 1 net.junctions)
    ∙ keeps_the_same (is_marked m) (is_border net) 1 net.junctions (λ v l. h v (omega arith))

-- a call that no check refuses
pub accepted : {A : Type 0} (v : Result Unit Refusal) (a : A) (same : Type 0) (done : A → Type 0) → v ≡ Ok tt → done a → Ends v (Ok a) same done
accepted v a same done e h = rw e h

-- What is known once the borders are marked in the parts of two tables that a drawing uses, and the marks counted: both tables were
-- long enough, the count is that of the borders, and the marked junctions are they.
pub borders_known :
    (d : Rest) (junctions : List Junction) (roads : List Road) (u : Used) (m : Marks) (n : ℕ) → UsesTheTables d junctions roads (Ok u)
    → ((net : Network) → net.places ≡ places_in u.junctions.now → net.roads ≡ map road_of u.roads.now → (v : ℕ) → v ≤ 4096 → is_marked m v ≡ is_border net v)
    → n ≡ length (filter (is_marked m) (range_with_len 1 d.junctions))
    → (verdict (border_checks d junctions roads) ≡ Ok tt)
    × ((n ≡ length (borders_in d junctions roads)) × (filter (is_marked m) (range_with_len 1 d.junctions) ≡ borders_in d junctions roads))
borders_known d junctions roads u m n used marks counted =
    let parts = used_means d junctions roads u used in
    let marked =
    marked_are_borders m (network_of d junctions roads) d.few_junctions
    (marks (network_of d junctions roads) (sym (ap places_in parts.1.0)) (sym (ap (map road_of) parts.1.1))) in
    (parts.0, (counted ∙ ap length marked, marked))
