-- `loads`: after i bytes they are fed, the column moved on.
use mathlib.Core.Path.{refl}
use native.Mathlib.Omega.{arith}
use lib.ListN.{length-set}
use Rattle.stream.proofs.Shifting.{load_moves}
use Rattle.exchange.proofs.Feeding.{along_moves, along_all}
use Rattle.exchange.proofs.loads.Goals as goal

pub loop-i-preserved : goal.loop-i-preserved
loop-i-preserved c =
    rw (c.next_column-c.ensures, c.store_at.ensures)
    (λ g. along_moves (c.loop-i.invariant g) refl c.loop-i-test.true (simp length-set)
    (load_moves g c.args.s c.requires.0 c.loop-i.c c.loop-i.cache _ c.requires.1))

pub returns : goal.returns
returns c = rw c.at_column.ensures (along_all (c.loop-i.invariant c.args.g) (omega arith))
