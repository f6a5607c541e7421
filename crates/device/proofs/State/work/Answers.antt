-- n units: the array does them, and the state says where it has come to.
use mathlib.Core.Path.{sym}
use Rattle.array.specs.Jobs.{store}
use Rattle.device.specs.Machine.{on_store}
use Rattle.device.proofs.Units.{units_idle, units_done}
use Rattle.device.proofs.State.work.Goals as goal

pub returns-in-Idle : goal.returns-in-Idle
returns-in-Idle c = λ m. sym (units_idle c.args.g c.args.n (on_store c.args.self c.args.cells.now c.args.cache.now m) c.in-Idle.is)

pub returns-in-Busy : goal.returns-in-Busy
returns-in-Busy c =
    λ m.
    let a = c.args in
    let w = c.in-Busy in
    let m₁ = on_store a.self a.cells.now a.cache.now m in
    let ready = rw w.is at c.requires in
    rw c.worked.ensures
    (units_done a.g w.job a.n w.done m₁ c.advance-next.result (store c.advance-next.new.cells c.advance-next.new.cache) ready.going.unit_left w.is c.advance-next.ensures.0 c.advance-next.ensures.1)
