-- A whole transfer: the checks, chip select, the bytes that have room, and chip select again if those are all.
use mathlib.Core.Path.{refl, ap}
use Prim.Native.Nat.{◌-◌}
use native.Mathlib.Omega.{arith}
use lib.ListN.{length}
use Rattle.buslog.specs.Log.{written}
use Rattle.device.specs.Machine.{machine}
use Rattle.device.specs.Work.{unitwise}
use Rattle.refusals.proofs.Checked.{sound_as, refused_as, refused_no, done_as}
use Rattle.model.proofs.Single.{run_refused}
use Rattle.exchange.specs.Exchange.{transfer_of, unlogged}
use Rattle.exchange.proofs.Records.{transfer_stops, transfer_ends, selected_sound}
use Rattle.exchange.proofs.transfer.Goals as goal

pub returns-in-Err : goal.returns-in-Err
returns-in-Err c =
    rw (c.so_far.ensures, c.start.ensures)
    (ap unlogged (run_refused c.args.g (unitwise c.args.g) c.args.out.now (machine c.args.state c.args.cells.now c.args.cache.now c.args.counts.now) (length c.args.out.now) (written (transfer_of c.args.di.now)) _ (refused_as _ _ c.check.ensures c.in-Err.is) (refused_no _ _ c.check.ensures c.in-Err.is)))

pub returns-then-n-di : goal.returns-then-n-di
returns-then-n-di c =
    transfer_stops c.args.g (unitwise c.args.g) (machine c.args.state c.args.cells.now c.args.cache.now c.args.counts.now) c.args.di.now c.args.out.now _ (done_as _ _ c.check.ensures c.in_default.is) refl c.min-n.result c.min-n.ensures c.exchanged-s.result c.exchanged-s.new.cache c.exchanged-s.new.out
    (rw c.select-on.ensures at c.exchanged-s.ensures) (omega (arith, c.if-n-di.true))

pub turn-t-requires : goal.turn-t-requires
turn-t-requires c =
    let h = (sound_as c.args.g (machine c.args.state c.args.cells.now c.args.cache.now c.args.counts.now) _ (done_as _ _ c.check.ensures c.in_default.is) refl) in (
      h.0,
      selected_sound c.args.g h.0 (machine c.args.state c.args.cells.now c.args.cache.now c.args.counts.now) (c.min-n.result - 0) c.args.di.now c.args.out.now (λ i. omega (arith, c.shared_slice_known-1.given i)) _ _ _ h.1 (rw c.select-on.ensures at c.exchanged-s.ensures),
      omega (arith, c.min-n.ensures, c.exchanged-s.auto.out),
    )

pub returns : goal.returns
returns c =
    transfer_ends c.args.g (unitwise c.args.g) (machine c.args.state c.args.cells.now c.args.cache.now c.args.counts.now) c.args.di.now c.args.out.now _ (done_as _ _ c.check.ensures c.in_default.is) refl c.min-n.result c.min-n.ensures c.exchanged-s.result c.exchanged-s.new.cache c.exchanged-s.new.out
    (rw c.select-on.ensures at c.exchanged-s.ensures) (omega (arith, c.if-n-di.false)) _ _ c.turn-t.ensures.0 c.turn-t.ensures.1
