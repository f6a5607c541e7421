-- Units on a page, a block or the cache are units of the operation on cells and cache.
use mathlib.Core.List.{List, ◌++◌}
use mathlib.Core.Path.{◌≡◌, refl, ap, ◌∙◌}
use Prim.Native.Nat.{ℕ, zero, suc, ◌+◌, ◌≤◌, ◌<◌}
use lib.Bits.{bit_and}
use lib.ListN.{get_or, take, drop, set}
use lib.Seq.{get_or-take, get_or-drop}
use borrow.Author.Tests.{lt-ltb, le-ltb}
use Rattle.part.specs.Part.{rows}
use Rattle.part.specs.declared.Geometry.{Geometry}
use Rattle.part.specs.declared.Row.{Row}
use Rattle.array.specs.declared.Job.TheVariants.{Read, Program, Erase, Restart}
use Rattle.array.specs.Jobs.{Store, store, page_at, block_at, written}
use Rattle.stretches.specs.Steps.{steps}
use Rattle.stretches.proofs.Steps.{beside, laid_back}

-- the units of an operation, by what each does to one of the two lists
same : (f : ℕ → List ℕ → List ℕ) (h : ℕ → Store → Store) (put : List ℕ → Store) (k : ℕ) → ((i : ℕ) (l : List ℕ) → i < k → put (f i l) ≡ h i (put l))
    → (n i : ℕ) (l : List ℕ) → i + n ≤ k → put (steps f i n l) ≡ steps h i n (put l)
same f h put k one n i l b = beside f h (λ m s. put m ≡ s) k (λ j m s q e. one j m q ∙ ap (h j) e) n i l (put l) b refl

module _ (g : Geometry) (r : Row) (cells cache : List ℕ) (k n i : ℕ) (few : i + n ≤ k) where
  pub read_in : r.0 < rows g
      → store cells (steps (λ j l. set l j (get_or (take k (drop (page_at g r) cells)) j 0)) i n cache) ≡ steps (written g (Read r)) i n (store cells cache)
  unfolding written
  read_in h = same _ (written g (Read r)) (λ l. store cells l) k (λ j l q. rw (lt-ltb _ _ h, get_or-take, get_or-drop)) n i cache few

  pub read_out : rows g ≤ r.0 → store cells (steps (λ j l. set l j 0xFF) i n cache) ≡ steps (written g (Read r)) i n (store cells cache)
  unfolding written
  read_out h = same _ (written g (Read r)) (λ l. store cells l) k (λ j l q. rw (le-ltb _ _ h)) n i cache few

  pub program_in : store (take (page_at g r) cells ++ (steps (λ j l. set l j (bit_and (get_or l j 0) (get_or cache j 0))) i n (take k (drop (page_at g r) cells)) ++ drop k (drop (page_at g r) cells))) cache
      ≡ steps (written g (Program r)) i n (store cells cache)
  unfolding written
  program_in =
      ap (λ (l : List ℕ). store l cache) (laid_back (page_at g r) k (λ j v. bit_and v (get_or cache j 0)) n i cells few)
      ∙ same _ (written g (Program r)) (λ l. store l cache) k (λ j l q. refl) n i cells few

  pub erase_in : store (take (block_at g r) cells ++ (steps (λ j l. set l j 0xFF) i n (take k (drop (block_at g r) cells)) ++ drop k (drop (block_at g r) cells))) cache
      ≡ steps (written g (Erase r)) i n (store cells cache)
  unfolding written
  erase_in =
      ap (λ (l : List ℕ). store l cache) (laid_back (block_at g r) k (λ j v. 0xFF) n i cells few)
      ∙ same _ (written g (Erase r)) (λ l. store l cache) k (λ j l q. refl) n i cells few

-- the units of a reset write nothing
pub restart_none : (g : Geometry) (n i : ℕ) (s : Store) → steps (written g Restart) i n s ≡ s
unfolding steps written
restart_none g zero i s = refl
restart_none g (suc n) i s = restart_none g n (suc i) s
