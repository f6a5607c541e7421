-- Where each record of the lengths and of a sound machine is made, all its fields said: a field more is a change here and where it is
-- given.
use mathlib.Core.List.{List}
use mathlib.Core.Path.{◌≡◌}
use Prim.Native.Nat.{ℕ, ◌*◌}
use lib.ListN.{length}
use Rattle.part.specs.Part.{page, rows}
use Rattle.part.specs.declared.Geometry.{Geometry}
use Rattle.array.specs.Jobs.{Store, with_cells, with_cache, Fits}
use Rattle.device.specs.Machine.{Machine}
use Rattle.device.specs.Sound.{SoundState}
use Rattle.kept.specs.Kept.{SoundMachine}

-- the lengths of cells and cache register
pub fits_of : (g : Geometry) (s : Store) → length s.cells ≡ rows g * page g → length s.cache ≡ page g → Fits g s
fits_of g s c d = record { cells_long = c; cache_long = d }

-- one of the two changed
pub fits_cells : (g : Geometry) (l : List ℕ) (s : Store) → length l ≡ rows g * page g → Fits g s → Fits g (with_cells l s)
fits_cells g l s e f = fits_of g (with_cells l s) e f.cache_long

pub fits_cache : (g : Geometry) (l : List ℕ) (s : Store) → length l ≡ page g → Fits g s → Fits g (with_cache l s)
fits_cache g l s e f = fits_of g (with_cache l s) f.cells_long e

-- a sound machine
pub sound_made : (g : Geometry) (m : Machine) → SoundState g m.state → Fits g m.store → length m.counts ≡ rows g → SoundMachine g m
sound_made g m s f c = record { state = s; fits = f; counts_long = c }
