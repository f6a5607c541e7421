-- The stages in numbers: there and back.
use mathlib.Core.Path.{◌≡◌, refl}
use Prim.Native.Nat.{ℕ, zero, suc, ◌≤◌}
use native.Mathlib.Omega.{arith}
use Rattle.card.specs.declared.Stage.{Stage}
use Rattle.card.specs.declared.Stage.TheVariants.{Fresh, Counted, Half, Open}
use Rattle.card_face.specs.Face.{stage_number, stage_of}
use Rattle.card_face.specs.Promises.{ThereAndBack}

stage_back : (s : Stage) → stage_of (stage_number s) ≡ s
unfolding stage_of
stage_back Fresh = refl
stage_back Counted = refl
stage_back Half = refl
stage_back Open = refl

number_back : (n : ℕ) → n ≤ 3 → stage_number (stage_of n) ≡ n
unfolding stage_of
number_back zero h = refl
number_back (suc zero) h = refl
number_back (suc (suc zero)) h = refl
number_back (suc (suc (suc zero))) h = refl
number_back (suc (suc (suc (suc n)))) h = absurd (omega arith)

pub there_and_back : ThereAndBack
there_and_back = (stage_back, number_back)
