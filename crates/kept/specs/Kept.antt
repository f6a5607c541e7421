-- Soundness is kept: from a sound state, with memory of the right lengths, every step gives a sound state with memory of the right lengths.
use Rattle.std.specs.Prelude.{true, List, [], ◌∷◌, ◌↔◌, ◌≡◌, ◌<◌, T, length}
use Rattle.part.specs.Part.{rows, Sound}
use Rattle.part.specs.declared.Geometry.{Geometry}
use Rattle.buslog.specs.declared.Record.{Record}
use Rattle.buslog.specs.declared.Record.TheVariants.{Select, Shift, Deselect, Units, Level, Power}
use Rattle.array.specs.Jobs.{Fits}
use Rattle.device.specs.Machine.{Machine}
use Rattle.device.specs.Work.{Array, unitwise}
use Rattle.device.specs.Step.{powered, power_up, step, run}
use Rattle.device.specs.Sound.{SoundState, sound_state}
use Rattle.device.specs.declared.State.{State}

-- the state is sound, and cells, cache register and page counts have the part's lengths
pub record SoundMachine (g : Geometry) (m : Machine) : Type 0 where
  pub state : SoundState g m.state
  pub fits : Fits g m.store
  pub counts_long : length m.counts ≡ rows g

-- the byte of a shift is a byte
abbrev pub ByteIn : Record → Type 0
ByteIn (Shift b) = b < 256
ByteIn Select = Unit {0}
ByteIn Deselect = Unit {0}
ByteIn (Units n) = Unit {0}
ByteIn (Level v) = Unit {0}
ByteIn Power = Unit {0}

abbrev pub BytesIn : List Record → Type 0
BytesIn [] = Unit {0}
BytesIn (e ∷ es) = ByteIn e × BytesIn es

-- the test of a sound state says exactly what document 01 lists
abbrev pub SoundExactly : Type 0
SoundExactly = (g : Geometry) (s : State) → T (sound_state g s) ↔ SoundState g s

-- the power-up state is what power lost and back leaves, with WP# high
abbrev pub PowerUpIs : Type 0
PowerUpIs = (g : Geometry) (m : Machine) → m.state.bus.pins.wp ≡ true → (powered g (unitwise g) m).state ≡ power_up

-- the power-up state is sound
abbrev pub PowerUpSound : Type 0
PowerUpSound = (g : Geometry) → Sound g → SoundState g power_up

-- an array over which every step keeps soundness and lengths
abbrev pub Keeps : Geometry → Array → Type 0
Keeps g arr = (m : Machine) (e : Record) → ByteIn e → SoundMachine g m → SoundMachine g (step g arr m e)

-- every step keeps soundness and lengths
abbrev pub StepKeeps : Type 0
StepKeeps = (g : Geometry) → Sound g → Keeps g (unitwise g)

-- and so does every run
abbrev pub RunKeeps : Type 0
RunKeeps = (g : Geometry) → Sound g → (m : Machine) (es : List Record) → BytesIn es → SoundMachine g m → SoundMachine g (run g (unitwise g) m es)
