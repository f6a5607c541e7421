-- The words at the front of a row, laid at the front of lent memory with their NUL behind them.
use mathlib.Core.List.{List, ◌++◌}
use mathlib.Core.Path.{◌≡◌, refl}
use native.Mathlib.Numerals.{add-one}
use Prim.Native.Nat.{ℕ, suc, ◌≤◌, ◌<◌}
use lib.ListN.{length, drop, set, get_or}
use lib.Seq.{drop-cons, set_at}
use borrow.Author.Tests.{le-leb, lt-leb}
use Rattle.texts.specs.Text.{face_laid, text_laid}

-- no room
pub too_short : (text l : List ℕ) → length l ≤ length text → face_laid 0 l ≡ text_laid text l
unfolding text_laid
too_short text l h = rw (le-leb (length l) (length text) h)

-- the words, and the NUL
pub laid_whole : (text l : List ℕ) → length text < length l → face_laid (length text) (set (text ++ drop (length text) l) (length text) 0) ≡ text_laid text l
unfolding text_laid
laid_whole text l h =
    rw (lt-leb (length l) (length text) h, drop-cons l (length text) 0 h, set_at text (get_or l (length text) 0) (drop (suc (length text)) l) 0 (length text) refl, add-one (length text))
