-- `reads_round`: after k shifts they are done, the column moved on, and still in the page.
use mathlib.Core.Path.{refl}
use native.Mathlib.Omega.{arith}
use Rattle.stream.proofs.Shifting.{before_first, moved, round_moves, next_inside}
use Rattle.stream.proofs.reads_round.Invariants.{On}
use Rattle.stream.proofs.reads_round.Goals as goal

pub loop-k-init : goal.loop-k-init
loop-k-init c =
    let p = c.requires.4 in
    (before_first (On c.args.cache.now) c.args.s c.args.log.now c.args.at c.args.written c.most-n.result c.args.cache.now c.args.out.now (record { inside = c.requires.2; before = c.requires.3; most = c.most-n.ensures }), omega (arith, p.below, p.long), omega (arith, p.long, p.small))

pub loop-k-preserved : goal.loop-k-preserved
loop-k-preserved c =
    rw (c.next_in_page-c.ensures, c.from.ensures) (
      moved c.loop-k.invariant.0 c.loop-k-test.true (omega arith) refl
          (λ g o. round_moves g c.args.s c.requires.0 c.loop-k.c c.args.cache.now _ c.requires.1 o c.loop-k.invariant.1),
      next_inside _ _ c.loop-k.invariant.1,
      c.loop-k.invariant.2,
    )
