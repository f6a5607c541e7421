-- `reads_on`: after i shifts they are done, the column moved on.
use mathlib.Core.Path.{refl}
use native.Mathlib.Omega.{arith}
use Rattle.stream.proofs.Shifting.{before_first, moved, read_moves}
use Rattle.stream.proofs.reads_on.Invariants.{On}
use Rattle.stream.proofs.reads_on.Goals as goal

pub loop-i-init : goal.loop-i-init
loop-i-init c = before_first (On c.page-page.result) c.args.s c.args.log.now c.args.at c.args.written c.most-n.result c.args.cache.now c.args.out.now (record { inside = c.requires.2; before = c.requires.3; most = c.most-n.ensures })

pub loop-i-preserved : goal.loop-i-preserved
loop-i-preserved c =
    rw (c.next_read-c.ensures, c.byte_at.ensures)
    (moved c.loop-i.invariant c.loop-i-test.true (omega arith) refl
    (λ g o. rw (← o) (read_moves g c.args.s c.requires.0 c.loop-i.c c.args.cache.now _ c.requires.1)))
