-- `loads`: after i shifts they are done, the column moved on.
use native.Mathlib.Omega.{arith}
use lib.ListN.{length-set}
use Rattle.stream.proofs.Shifting.{Any, before_first, moved, load_moves}
use Rattle.stream.proofs.loads.Goals as goal

pub loop-i-init : goal.loop-i-init
loop-i-init c = before_first Any c.args.s c.args.log.now c.args.at c.args.written c.most-n.result c.args.cache.now c.args.out.now (record { inside = c.requires.2; before = c.requires.3; most = c.most-n.ensures })

pub loop-i-preserved : goal.loop-i-preserved
loop-i-preserved c =
    rw (c.next_column-c.ensures, c.store_at.ensures)
    (moved c.loop-i.invariant c.loop-i-test.true (omega (arith, c.if-log-place-ne2.false)) (simp length-set)
    (λ g o. load_moves g c.args.s c.requires.0 c.loop-i.c c.loop-i.cache _ c.requires.1))
