-- The maker's refusals, exactly, and what it leaves.
use mathlib.Core.List.{List, ◌++◌}
use mathlib.Core.Path.{◌≡◌, refl, subst}
use Prim.Native.Nat.{ℕ, ◌≤◌, ◌<◌}
use native.Mathlib.Omega.{arith}
use lib.Dec.{ltb}
use lib.ListN.{length, take, drop, length-append, length-drop}
use lib.Seq.{take_at, drop_at}
use borrow.Author.Tests.{ltb-true, ltb-false, lt-ltb, le-ltb}
use Rattle.part.specs.Part.{Sound, sound_part}
use Rattle.part.specs.declared.Geometry.{Geometry}
use Rattle.part.proofs.Choice.{cond_keep}
use Rattle.part.proofs.Laws.{sound_exactly}
use Rattle.sheet.specs.Page.{MadeEnd, page_of, made_number, made_end, make_of}
use Rattle.sheet.specs.Promises.{MakeLine, part_not_sound, too_short, room, MakerExactly, MakerKeeps}
use Rattle.std.proofs.Common.{Ok, Err}
use Rattle.sheet.specs.declared.MakeError.TheVariants.{BadPart, NoRoom}
use Rattle.sheet.proofs.Exact.{true_so, so_true, false_not, no_false}
use Rattle.sheet.proofs.Pages.{page_length}

-- the three ways that the making of a page can go
data Makes (g : Geometry) (l : List ℕ) : MadeEnd → Type 0 where
  bars_part : ¬ Sound g → Makes g l (made_end (Err BadPart) l)
  bars_short : Sound g → length l < 256 → Makes g l (made_end (Err NoRoom) l)
  lays : Sound g → 256 ≤ length l → Makes g l (made_end (Ok tt) (page_of g ++ drop 256 l))

makes : (g : Geometry) (l : List ℕ) → Makes g l (make_of g l)
unfolding make_of
makes g l =
    cond_keep (Makes g l) (sound_part g)
    (λ e. let s = true_so (sound_part g) (sound_exactly g) e in
    cond_keep (Makes g l) (ltb (length l) 256) (λ f. bars_short s (ltb-true (length l) 256 f)) (λ f. lays s (ltb-false (length l) 256 f)))
    (λ e. bars_part (false_not (sound_part g) (sound_exactly g) e))

line : {g : Geometry} {l : List ℕ} {e : MadeEnd} → Makes g l e → MakeLine g l (made_number e.made)
line (bars_part u) = part_not_sound u
line (bars_short s h) = too_short s h
line (lays s h) = room s h

-- each line gets its number
gives : (g : Geometry) (l : List ℕ) (n : ℕ) → MakeLine g l n → made_number (make_of g l).made ≡ n
unfolding make_of
gives g l n (part_not_sound u) = rw (no_false (sound_part g) (sound_exactly g) u)
gives g l n (too_short s h) = rw (so_true (sound_part g) (sound_exactly g) s, lt-ltb (length l) 256 h)
gives g l n (room s h) = rw (so_true (sound_part g) (sound_exactly g) s, le-ltb (length l) 256 h)

pub maker_exactly : MakerExactly
maker_exactly g l n = (λ e. subst (MakeLine g l) e (line (makes g l)), gives g l n)

keeps :
    {g : Geometry} {l : List ℕ} {e : MadeEnd} → Makes g l e →
    (¬ (made_number e.made ≡ 0) → e.memory ≡ l)
    × (made_number e.made ≡ 0 → (take 256 e.memory ≡ page_of g) × (drop 256 e.memory ≡ drop 256 l) × (length e.memory ≡ length l))
keeps (bars_part u) = (λ ne. refl, λ e. absurd (omega arith))
keeps (bars_short s h) = (λ ne. refl, λ e. absurd (omega arith))
keeps {g} {l} (lays s h) = (
  λ ne. absurd (ne refl),
  λ e. (
    take_at (page_of g) (drop 256 l) 256 (page_length g),
    drop_at (page_of g) (drop 256 l) 256 (page_length g),
    rw (length-append, length-drop, page_length g) (omega arith),
  ),
)

pub maker_keeps : MakerKeeps
maker_keeps g l = keeps (makes g l)
