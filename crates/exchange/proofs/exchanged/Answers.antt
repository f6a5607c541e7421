-- Bytes one after another: after i of them they are fed; a stream takes the rest.
use native.Mathlib.Omega.{arith}
use Rattle.std.proofs.Common.{rules}
use Rattle.exchange.proofs.Feeding.{along_bus, along_unheard, along_part, along_all}
use Rattle.exchange.proofs.exchanged.Goals as goal

pub loop-i-preserved : goal.loop-i-preserved
loop-i-preserved c =
    along_bus c.loop-i.invariant c.oip-busy.result _ _ _ c.loop-i-test.true c.caches.auto.cache c.oip-busy.ensures c.shifted_in-x.ensures c.caches.ensures c.byte_out.ensures

pub returns : goal.returns
returns c = along_all c.loop-i.invariant (omega arith)

pub loop-i-preserved-then-not-heard : goal.loop-i-preserved-then-not-heard
loop-i-preserved-then-not-heard c = along_unheard c.loop-i.invariant (search rules) c.loop-i-test.true

pub returns-then-streams : goal.returns-then-streams
returns-then-streams c = along_part c.loop-i.invariant _ _ _ c.streamed.ensures
