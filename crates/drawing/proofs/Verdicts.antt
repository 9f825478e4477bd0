-- The verdict of two lists of checks, one after the other, and what a call's end says of its verdict. Assumes nothing.
use Rattle.std.proofs.Common.{◌≡◌, ℕ, ◌≤◌, true, false, cond, List, [], ◌∷◌, ◌++◌, take, Ok, Err, Result, refl, arith}
use Rattle.std.proofs.lemmas.Bool.{le-ltb}
use Rattle.drawing.specs.Edits.{size_check}
use Rattle.drawing.specs.Borders.{border_checks, UsesTheTables}
use Rattle.drawing.specs.declared.refusal.Refusal.{Refusal}
use Rattle.drawing.specs.declared.rest.Rest.{Rest}
use Rattle.drawing.specs.declared.tables.Junction.{Junction}
use Rattle.drawing.specs.declared.tables.Road.{Road}
use Rattle.drawing.specs.declared.used.Used.{Used}
use Rattle.drawing.specs.Outcomes.{Check, verdict, Ends}

-- what the first list refuses is refused
pub refused_before : (xs ys : List Check) (e : Refusal) → verdict xs ≡ Err e → verdict (xs ++ ys) ≡ Err e
refused_before [] ys e h = let z : ◌≡◌ {A = Result Unit Refusal} (Err e) (Ok tt) = cc in let b : true ≡ false = cc in cc
refused_before (x ∷ xs) ys e h =
    elim x.fails as (λ t. cond t (Err x.refusal) (verdict xs) ≡ Err e → cond t (Err x.refusal) (verdict (xs ++ ys)) ≡ Err e) [
      | true ↦ λ k. k
      | false ↦ λ k. refused_before xs ys e k
    ] h

-- where the first list passes, the second decides
pub passed_before : (xs ys : List Check) → verdict xs ≡ Ok tt → verdict (xs ++ ys) ≡ verdict ys
passed_before [] ys h = cc
passed_before (x ∷ xs) ys h =
    elim x.fails as (λ t. cond t (Err x.refusal) (verdict xs) ≡ Ok tt → cond t (Err x.refusal) (verdict (xs ++ ys)) ≡ verdict ys) [
      | true ↦ λ k. let z : ◌≡◌ {A = Result Unit Refusal} (Err x.refusal) (Ok tt) = k in cc
      | false ↦ λ k. passed_before xs ys k
    ] h

-- an accepted call had no check that failed
pub accepted_means :
    {A : Type 0} (v : Result Unit Refusal) (a : A) (same : Type 0) (done : A → Type 0) → Ends v (Ok a) same done → (v ≡ Ok tt) × done a
accepted_means (Ok u) a same done h = (refl, h)
accepted_means (Err x) a same done h = let z : ◌≡◌ {A = ℕ} 0 1 = let e = h.0 in cc in absurd (omega arith)

-- and a refused one was refused by its checks
pub refused_means :
    {A : Type 0} (v : Result Unit Refusal) (x : Refusal) (same : Type 0) (done : A → Type 0) → Ends v (Err x) same done → (v ≡ Err x) × same
refused_means (Ok u) x same done h = absurd h
refused_means (Err y) x same done h = let e = h.0 in (cc, h.1)

-- a table that is long enough passes
pub size_passes : (needed size : ℕ) → needed ≤ size → verdict (size_check needed size ∷ []) ≡ Ok tt
size_passes needed size h = rw (le-ltb size needed h)

-- what has been cut off of two tables: both were long enough, and it is their parts in use
pub used_means :
    (d : Rest) (junctions : List Junction) (roads : List Road) (u : Used) → UsesTheTables d junctions roads (Ok u)
    → (verdict (border_checks d junctions roads) ≡ Ok tt) × ((u.junctions.now ≡ take d.junctions junctions) × (u.roads.now ≡ take d.roads roads))
used_means d junctions roads u h =
    accepted_means (verdict (border_checks d junctions roads)) u (Unit {0})
    (λ x. (x.junctions.now ≡ take d.junctions junctions) × (x.roads.now ≡ take d.roads roads)) h

-- a call that no check refuses is not refused
pub accepted_or_refused : (v : Result Unit Refusal) (x : Refusal) → v ≡ Ok tt → v ≡ Err x → ⊥
accepted_or_refused (Ok u) x a e = let z : ◌≡◌ {A = ℕ} 0 1 = cc in omega arith
accepted_or_refused (Err y) x a e = let z : ◌≡◌ {A = ℕ} 0 1 = cc in omega arith
