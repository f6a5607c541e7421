-- The units of an operation, from the first to the last, come to its page or block sentence.
use mathlib.Core.Bool.{Bool, true, false}
use mathlib.Core.List.{List, [], ◌∷◌, ◌++◌}
use mathlib.Core.Path.{◌≡◌, refl, sym, ap, ◌∙◌}
use Prim.Native.Nat.{ℕ, zero, suc, ◌*◌, ◌≤◌, ◌<◌}
use native.Mathlib.Omega.{arith}
use lib.Bits.{bit_and}
use lib.Dec.{ltb}
use lib.ListN.{length, get_or, take, drop, set, replicate, length-drop, length-replicate}
use lib.Seq.{length-take-le, drop-drop}
use borrow.Author.Tests.{lt-ltb, le-ltb, ltb-true, ltb-false}
use Rattle.part.specs.Part.{page, rows, Sound}
use Rattle.part.specs.declared.Geometry.{Geometry}
use Rattle.part.specs.declared.Row.{Row}
use Rattle.buslog.specs.Write.{over}
use Rattle.array.specs.Jobs.{Store, store, page_at, block_at, length_of, written, steps, InArray, Fits}
use Rattle.array.specs.declared.Job.{Job}
use Rattle.array.specs.declared.Job.TheVariants.{Read, Program, Erase, Restart}
use Rattle.array.proofs.Room.{page_in, block_in}
use Rattle.array.proofs.Stores.{read_in, read_out, program_in, erase_in, restart_none}
use Rattle.device.specs.Instructions.{resets}
use Rattle.whole.specs.Whole.{ands, page_of, done, whole, ResetWhole}

-- ---- a byte after another, from the first to the last of a list

-- step i makes byte i what v says of i and of the byte
abbrev each : (ℕ → ℕ → ℕ) → ℕ → List ℕ → List ℕ
each v i l = set l i (v i (get_or l i 0))

unfoldable values : (ℕ → ℕ → ℕ) → List ℕ → List ℕ
values v [] = []
values v (x ∷ xs) = v 0 x ∷ values (λ i. v (suc i)) xs

later : (v : ℕ → ℕ → ℕ) (n u x : ℕ) (l : List ℕ) → steps (each v) (suc u) n (x ∷ l) ≡ x ∷ steps (each (λ i. v (suc i))) u n l
unfolding steps
later v zero u x l = refl
later v (suc n) u x l = later v n (suc u) x (each (λ i. v (suc i)) u l)

all_of : (l : List ℕ) (v : ℕ → ℕ → ℕ) → steps (each v) 0 (length l) l ≡ values v l
unfolding steps values
all_of [] v = refl
all_of (x ∷ l) v = later v (length l) 0 (v 0 x) l ∙ ap {B = List ℕ} (λ r. v 0 x ∷ r) (all_of l (λ i. v (suc i)))

all : (n : ℕ) (l : List ℕ) (v : ℕ → ℕ → ℕ) → length l ≡ n → steps (each v) 0 n l ≡ values v l
all n l v e = rw (sym e) (all_of l v)

-- one byte everywhere; the bytes of another list; the AND with another list
values_same : (a : ℕ) (l : List ℕ) → values (λ i x. a) l ≡ replicate (length l) a
unfolding values
values_same a [] = refl
values_same a (x ∷ l) = ap {B = List ℕ} (λ r. a ∷ r) (values_same a l)

values_copy : (l p : List ℕ) → length l ≡ length p → values (λ i x. get_or p i 0) l ≡ p
unfolding values
values_copy [] [] e = refl
values_copy [] (y ∷ p) e = absurd (omega arith)
values_copy (x ∷ l) [] e = absurd (omega arith)
values_copy (x ∷ l) (y ∷ p) e = ap {B = List ℕ} (λ r. y ∷ r) (values_copy l p (omega arith))

values_and : (l p : List ℕ) → length l ≡ length p → values (λ i x. bit_and x (get_or p i 0)) l ≡ ands l p
unfolding values ands
values_and [] p e = refl
values_and (x ∷ l) [] e = absurd (omega arith)
values_and (x ∷ l) (y ∷ p) e = ap {B = List ℕ} (λ r. bit_and x y ∷ r) (values_and l p (omega arith))

length_ands : (l p : List ℕ) → length (ands l p) ≡ length l
unfolding ands
length_ands [] p = refl
length_ands (x ∷ l) [] = refl
length_ands (x ∷ l) (y ∷ p) = ap suc (length_ands l p)

-- a stretch replaced by as many bytes
stretch : (a k : ℕ) (cells new : List ℕ) → length new ≡ k → take a cells ++ (new ++ drop k (drop a cells)) ≡ over cells a new
unfolding over
stretch a k cells new e = rw (drop-drop k a cells, e)

-- ---- the three sentences

module _ (g : Geometry) (r : Row) (s : Store) (sound : Sound g) (f : Fits g s) where
  abbrev own : List ℕ
  own = take (page g) (drop (page_at g r) s.cells)

  own_long : r.0 < rows g → length own ≡ page g
  own_long h = length-take-le (page g) (drop (page_at g r) s.cells) (simp length-drop (omega (arith, (page_in g r sound h).0, f.cells_long)))

  read_inside : r.0 < rows g → steps (written g (Read r)) 0 (page g) s ≡ done g (Read r) s
  unfolding done page_of
  read_inside h =
      sym (read_in g r s.cells s.cache (page g) (page g) 0 (omega arith) h)
      ∙ ap (λ (l : List ℕ). store s.cells l) (all (page g) s.cache (λ i x. get_or own i 0) f.cache_long ∙ values_copy s.cache own (f.cache_long ∙ sym (own_long h)) ∙ rw (lt-ltb r.0 (rows g) h))

  read_outside : rows g ≤ r.0 → steps (written g (Read r)) 0 (page g) s ≡ done g (Read r) s
  unfolding done page_of
  read_outside h =
      sym (read_out g r s.cells s.cache (page g) (page g) 0 (omega arith) h)
      ∙ ap (λ (l : List ℕ). store s.cells l) (all (page g) s.cache (λ i x. 0xFF) f.cache_long ∙ values_same 0xFF s.cache ∙ rw (f.cache_long, le-ltb r.0 (rows g) h))

  program_whole : r.0 < rows g → steps (written g (Program r)) 0 (page g) s ≡ done g (Program r) s
  unfolding done page_of
  program_whole h =
      sym (program_in g r s.cells s.cache (page g) (page g) 0 (omega arith))
      ∙ ap (λ (l : List ℕ). store l s.cache) (ap (λ (l : List ℕ). take (page_at g r) s.cells ++ (l ++ drop (page g) (drop (page_at g r) s.cells)))
      (all (page g) own (λ i x. bit_and x (get_or s.cache i 0)) (own_long h) ∙ values_and own s.cache (own_long h ∙ sym f.cache_long))
      ∙ stretch (page_at g r) (page g) s.cells (ands own s.cache) (length_ands own s.cache ∙ own_long h) ∙ rw (lt-ltb r.0 (rows g) h))

  abbrev of_block : List ℕ
  of_block = take (g.pages * page g) (drop (block_at g r) s.cells)

  block_long : r.0 < rows g → length of_block ≡ g.pages * page g
  block_long h = length-take-le (g.pages * page g) (drop (block_at g r) s.cells) (simp length-drop (omega (arith, (block_in g r sound h).0, f.cells_long)))

  erase_whole : r.0 < rows g → steps (written g (Erase r)) 0 (g.pages * page g) s ≡ done g (Erase r) s
  unfolding done
  erase_whole h =
      sym (erase_in g r s.cells s.cache (g.pages * page g) (g.pages * page g) 0 (omega arith))
      ∙ ap (λ (l : List ℕ). store l s.cache) (ap (λ (l : List ℕ). take (block_at g r) s.cells ++ (l ++ drop (g.pages * page g) (drop (block_at g r) s.cells)))
      (all (g.pages * page g) of_block (λ i x. 0xFF) (block_long h) ∙ values_same 0xFF of_block ∙ ap (λ (n : ℕ). replicate n 0xFF) (block_long h))
      ∙ stretch (block_at g r) (g.pages * page g) s.cells (replicate (g.pages * page g) 0xFF) (length-replicate (g.pages * page g) 0xFF))

-- a reset, to its end
restart_whole : (g : Geometry) (s : Store) → steps (written g Restart) 0 8 s ≡ done g Restart s
unfolding done
restart_whole g s = restart_none g 8 0 s

pub reset_whole : ResetWhole
unfolding resets whole done
reset_whole g m = refl

-- all the units of an operation, in one sentence
pub units_whole : (g : Geometry) → Sound g → (j : Job) → InArray g j → (s : Store) → Fits g s → steps (written g j) 0 (length_of g j) s ≡ done g j s
units_whole g sound (Read r) a s f = go (ltb r.0 (rows g)) refl
  where
    go : (b : Bool) → ltb r.0 (rows g) ≡ b → steps (written g (Read r)) 0 (page g) s ≡ done g (Read r) s
    go true e = read_inside g r s sound f (ltb-true r.0 (rows g) e)
    go false e = read_outside g r s sound f (ltb-false r.0 (rows g) e)
units_whole g sound (Program r) a s f = program_whole g r s sound f a
units_whole g sound (Erase r) a s f = erase_whole g r s sound f a
units_whole g sound Restart a s f = restart_whole g s
