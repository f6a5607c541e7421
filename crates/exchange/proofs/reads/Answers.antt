-- `reads`: after i bytes they are fed, the column moved on.
use mathlib.Core.Path.{refl, sym}
use native.Mathlib.Omega.{arith}
use Rattle.stream.proofs.Shifting.{read_moves}
use Rattle.exchange.proofs.Feeding.{along_moves, along_all}
use Rattle.exchange.proofs.reads.Goals as goal

pub loop-i-preserved : goal.loop-i-preserved
loop-i-preserved c =
    rw (c.next_read-c.ensures, c.byte_at.ensures)
    (λ g o. along_moves (c.loop-i.invariant g o) refl c.loop-i-test.true refl
    (rw (← o) (read_moves g c.args.s c.requires.0 c.loop-i.c c.args.cache.now _ c.requires.1)))

pub returns : goal.returns
returns c = rw c.at_column.ensures (along_all (c.loop-i.invariant c.args.g (sym c.page-page.ensures)) (omega arith))
