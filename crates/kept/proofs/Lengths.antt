-- The lengths of cells, cache register and page counts are kept by all that writes into them.
use mathlib.Core.Bool.{not}
use mathlib.Core.List.{List}
use mathlib.Core.Path.{◌≡◌, refl}
use Prim.Native.Nat.{ℕ}
use native.Mathlib.Omega.{arith}
use lib.Dec.{leb, eqb}
use lib.ListN.{length, length-append, length-drop, length-replicate, length-set, length-take}
use Rattle.part.specs.declared.Geometry.{Geometry}
use Rattle.part.specs.declared.Row.{Row}
use Rattle.part.proofs.Choice.{cond_keep}
use Rattle.transfer.specs.Transfer.{is, body_heard, stored, cached}
use Rattle.transfer.specs.declared.Bus.{Bus}
use Rattle.transfer.specs.declared.Transfer.{Transfer}
use Rattle.array.specs.Jobs.{Store, written, Fits}
use Rattle.array.specs.declared.Job.{Job}
use Rattle.array.specs.declared.Job.TheVariants.{Read, Program, Erase, Restart}
use Rattle.requests.specs.Requests.{counted, uncounted}
use Rattle.kept.proofs.Made.{fits_cells, fits_cache}

-- a unit writes one byte, or none
pub written_fits : (g : Geometry) (j : Job) (i : ℕ) (s : Store) → Fits g s → Fits g (written g j i s)
unfolding written
written_fits g (Read r) i s f = fits_cache g _ s (simp length-set f.cache_long) f
written_fits g (Program r) i s f = fits_cells g _ s (simp length-set f.cells_long) f
written_fits g (Erase r) i s f = fits_cells g _ s (simp length-set f.cells_long) f
written_fits g Restart i s f = f

-- ---- the cache register

stored_long : (b : ℕ) (t : Transfer) (l : List ℕ) → length (stored b t l) ≡ length l
stored_long b t l = cond_keep (λ (x : List ℕ). length x ≡ length l) (leb 3 t.count) (λ e. length-set l t.column.0 b) (λ e. refl)

pub cached_long : (g : Geometry) (x : Bus) (b : ℕ) (l : List ℕ) → length (cached g x b l) ≡ length l
unfolding cached
cached_long g x b l =
    cond_keep P (not (body_heard x)) (λ e. refl)
    (λ e. cond_keep P (is t 0x02)
    (λ e. cond_keep P (eqb t.count 2) (λ e. length-replicate (length l) 0xFF) (λ e. stored_long b t l))
    (λ e. cond_keep P (is t 0x84) (λ e. stored_long b t l) (λ e. refl)))
  where
    t : Transfer
    t = x.transfer

    P : List ℕ → Type 0
    P y = length y ≡ length l

-- ---- the page counts

pub counted_long : (r : Row) (l : List ℕ) → length (counted r l) ≡ length l
counted_long r l = simp length-set

pub uncounted_long : (g : Geometry) (r : Row) (l : List ℕ) → length (uncounted g r l) ≡ length l
uncounted_long g r l = simp (length-append, length-take, length-replicate, length-drop) (omega arith)
