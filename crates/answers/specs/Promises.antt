-- What is promised of a run: refusals exactly, their effects, soundness kept, a log fed in parts, the fold of the step.
use Rattle.std.specs.Prelude.{List, [], ◌++◌, ◌↔◌, ◌≡◌, ℕ, ◌-◌, ◌≤◌, length, take}
use Rattle.part.specs.declared.Geometry.{Geometry}
use Rattle.buslog.specs.Log.{Bytes}
use Rattle.buslog.specs.Read.{parse}
use Rattle.device.specs.Machine.{Machine}
use Rattle.device.specs.Work.{Array, unitwise}
use Rattle.device.specs.Step.{run}
use Rattle.device.specs.Sound.{SoundState}
use Rattle.refusals.specs.Refusals.{number_of}
use Rattle.model.specs.Runs.{and_then, did, run_of}
use Rattle.refusals.specs.declared.Refusal.TheVariants.{Done}
use Rattle.answers.specs.Table.{Stops, Full, Line}

-- number n is given if and only if line n holds
abbrev pub Exactly : Type 0
Exactly = (g : Geometry) (arr : Array) (room : ℕ) (log : List ℕ) → Bytes log → (m : Machine) (n : ℕ) → number_of (run_of g arr room log m).refusal ≡ n ↔ Line g room log m n

module _ (g : Geometry) (arr : Array) (room : ℕ) (log : List ℕ) (m : Machine) where
  -- the column "effect"

  -- 1 to 5, nothing done: all counts 0, the state returned as given, no lent byte changed
  abbrev pub NothingDone : Type 0
  NothingDone =
      1 ≤ number_of (run_of g arr room log m).refusal → number_of (run_of g arr room log m).refusal ≤ 5 →
      run_of g arr room log m ≡ did g arr m (run_of g arr room log m).refusal []

  -- 0, 6, 7 and 8: the records before it stand, and no more has been done
  abbrev pub StopsBefore : Type 0
  StopsBefore =
      (n : ℕ) → number_of (run_of g arr room log m).refusal ≡ n → (s : Stops log room n) →
      run_of g arr room log m ≡ did g arr m (run_of g arr room log m).refusal s.earlier

  -- 9: the same
  abbrev pub FullBefore : Type 0
  FullBefore =
      number_of (run_of g arr room log m).refusal ≡ 9 → (s : Full log room) →
      run_of g arr room log m ≡ did g arr m (run_of g arr room log m).refusal s.earlier

  -- the machine that comes back is the fold of the step over the records done, so that the state after each record is fixed
  abbrev pub FoldOfStep : Type 0
  FoldOfStep = (run_of g arr room log m).machine ≡ run g arr m (take (run_of g arr room log m).records (parse log).records)

abbrev pub Effects : Type 0
Effects =
    (g : Geometry) (arr : Array) (room : ℕ) (log : List ℕ) → Bytes log → (m : Machine) →
    NothingDone g arr room log m × StopsBefore g arr room log m × FullBefore g arr room log m × FoldOfStep g arr room log m

-- from a sound state every run returns a sound state, whatever is wrong with the rest
abbrev pub ReturnsSound : Type 0
ReturnsSound =
    (g : Geometry) (room : ℕ) (log : List ℕ) → Bytes log → (m : Machine) → SoundState g m.state →
    SoundState g (run_of g (unitwise g) room log m).machine.state

-- a log read to its end and another behind it: running both is running the one and then the other from what came back
abbrev pub InParts : Type 0
InParts =
    (g : Geometry) (room : ℕ) (a b : List ℕ) → Bytes a → (m : Machine) → (run_of g (unitwise g) room a m).refusal ≡ Done →
    run_of g (unitwise g) room (a ++ b) m
    ≡ and_then (run_of g (unitwise g) room a m)
    (run_of g (unitwise g) (room - length (run_of g (unitwise g) room a m).output) b (run_of g (unitwise g) room a m).machine)
