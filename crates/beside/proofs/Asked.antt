-- What the code learns of a part and a state as it asks whether they are sound.
use mathlib.Core.Bool.{Bool, true, false, not}
use mathlib.Core.Path.{◌≡◌, sym, ◌∙◌}
use borrow.Author.Tests.{not-true, not-false}
use Rattle.part.specs.Part.{sound_part, Sound}
use Rattle.part.specs.declared.Geometry.{Geometry}
use Rattle.part.proofs.Choice.{true_T}
use Rattle.part.proofs.Laws as part
use Rattle.device.specs.Sound.{SoundState, sound_state}
use Rattle.device.specs.declared.State.{State}
use Rattle.kept.proofs.Exactly as state

-- the tests in words
pub part_sound : (g : Geometry) → sound_part g ≡ true → Sound g
part_sound g e = (part.sound_exactly g).0 (true_T (sound_part g) e)

pub state_sound : (g : Geometry) (s : State) → sound_state g s ≡ true → SoundState g s
state_sound g s e = (state.sound_exactly g s).0 (true_T (sound_state g s) e)

-- a test that is asked by its negation
module _ (a b : Bool) (h : b ≡ a) where
  pub asked_no : not b ≡ true → a ≡ false
  asked_no t = sym h ∙ not-true b t

  pub asked_yes : not b ≡ false → a ≡ true
  asked_yes t = sym h ∙ not-false b t
