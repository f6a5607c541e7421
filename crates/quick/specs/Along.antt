-- A run that stands so far, and one taken along a stream of shifts.
use Rattle.std.specs.Prelude.{ℕ, ◌+◌, ◌*◌}
use Rattle.device.specs.declared.State.{State}
use Rattle.walk.specs.declared.Walk.{Walk}

-- where a run stands: the state, the place, the records done, the bytes written
abbrev pub walk_at : State → ℕ → ℕ → ℕ → Walk
walk_at s at records written = record { state = s; at = at; records = records; written = written }

-- behind k shifts, each a record of two bytes that puts out one
abbrev pub shifts_on : Walk → State → ℕ → Walk
shifts_on w s k = walk_at s (w.at + 2 * k) (w.records + k) (w.written + k)
