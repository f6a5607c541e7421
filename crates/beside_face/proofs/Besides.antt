-- Beside a run: which refusals the next byte has, also of numbers that stand for no state.
use mathlib.Core.Bool.{not}
use Rattle.device.specs.declared.State.{State}
use mathlib.Core.Path.{◌≡◌, refl, ◌∙◌}
use lib.Dec.{eqb}
use lib.ListN.{length}
use Rattle.std.specs.Prelude.{if◌then◌else◌, Option, Some, None, Result, Ok, Err}
use Prim.Native.Nat.{ℕ}
use Rattle.part.specs.Part.{page, sound_part}
use Rattle.part_numbers.specs.Numbers.{part_of}
use Rattle.face.specs.Face.{state_of, no_state, stand_in, sound_told}
use Rattle.face.proofs.ThereAndBack.{never_sound}
use Rattle.refusals.specs.Refusals.{number_of, line_of}
use Rattle.refusals.specs.declared.Refusal.{Refusal}
use Rattle.beside.specs.Beside.{peek_of}
use Rattle.beside.proofs.Next as next
use Rattle.beside_face.specs.Beside.{face_peek}
use Rattle.beside_face.specs.Promises.{PeekRefused}

-- the number of refusal is that of the answer's line in the table
told_line : (p : Result ℕ Refusal) → (face_peek p).refusal ≡ number_of (line_of p)
told_line (Ok b) = refl
told_line (Err r) = refl

pub peek_refused : PeekRefused
peek_refused g c cache = told_line (peek_of (part_of g) (stand_in (state_of c)) cache) ∙ go (state_of c)
  where
    go : (x : Option State) →
        number_of (line_of (peek_of (part_of g) (stand_in x) cache))
        ≡ (if not (sound_part (part_of g)) then 1
        else if not (eqb (length cache) (page (part_of g))) then 3
        else if not (sound_told (part_of g) x) then 5
        else 0)
    go (Some s) = next.peek_exactly (part_of g) s cache
    go None = rw (never_sound (part_of g)) at (next.peek_exactly (part_of g) no_state cache)
