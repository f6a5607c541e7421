-- A piece of a transfer: the checks, the bytes that have room, and whether those are all.
use mathlib.Core.Path.{refl, ap}
use native.Mathlib.Omega.{arith}
use lib.ListN.{length}
use Rattle.buslog.specs.Log.{written}
use Rattle.device.specs.Machine.{machine}
use Rattle.device.specs.Work.{unitwise}
use Rattle.refusals.proofs.Checked.{refused_as, refused_no, done_as}
use Rattle.model.proofs.Single.{run_refused}
use Rattle.exchange.specs.Exchange.{shifts_of, unlogged}
use Rattle.exchange.proofs.Records.{piece_stops, piece_ends}
use Rattle.exchange.proofs.shifts.Goals as goal

pub returns-in-Err : goal.returns-in-Err
returns-in-Err c =
    rw (c.so_far.ensures, c.start.ensures)
    (ap unlogged (run_refused c.args.g (unitwise c.args.g) c.args.out.now (machine c.args.state c.args.cells.now c.args.cache.now c.args.counts.now) (length c.args.out.now) (written (shifts_of c.args.di.now)) _ (refused_as _ _ c.check.ensures c.in-Err.is) (refused_no _ _ c.check.ensures c.in-Err.is)))

pub returns-then-n-di : goal.returns-then-n-di
returns-then-n-di c =
    piece_stops c.args.g (unitwise c.args.g) (machine c.args.state c.args.cells.now c.args.cache.now c.args.counts.now) c.args.di.now c.args.out.now _ (done_as _ _ c.check.ensures c.in_default.is) refl c.min-n.result c.min-n.ensures c.exchanged-s.result c.exchanged-s.new.cache c.exchanged-s.new.out
    c.exchanged-s.ensures (omega (arith, c.if-n-di.true))

pub returns : goal.returns
returns c =
    piece_ends c.args.g (unitwise c.args.g) (machine c.args.state c.args.cells.now c.args.cache.now c.args.counts.now) c.args.di.now c.args.out.now _ (done_as _ _ c.check.ensures c.in_default.is) refl c.min-n.result c.min-n.ensures c.exchanged-s.result c.exchanged-s.new.cache c.exchanged-s.new.out
    c.exchanged-s.ensures (omega (arith, c.if-n-di.false))
