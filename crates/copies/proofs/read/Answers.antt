-- The copy that is looked at holds, or none does.
use native.Mathlib.Omega.{arith}
use Rattle.std.proofs.Common.{below_more}
use mathlib.Core.Bool.{true}
use mathlib.Core.Path.{◌≡◌, sym, ◌∙◌}
use Rattle.copies.specs.Copies.{copy_at, holds}
use Rattle.copies.proofs.Reader.{read_found, read_none}
use Rattle.copies.proofs.read.Goals as goal

pub returns-then-holds : goal.returns-then-holds
returns-then-holds c =
    let held : holds (copy_at c.loop-copy.copy c.args.memory.now) ≡ true = rw (← c.copy_at-page.ensures.0) (sym c.holds.ensures ∙ c.if-holds.true) in
    rw (c.sizes_in.ensures, c.copy_at-page.ensures.0) (read_found c.args.memory.now c.loop-copy.copy (omega arith) (omega arith) held c.loop-copy.invariant)

pub returns : goal.returns
returns c = read_none c.args.memory.now (omega arith) (λ j h. c.loop-copy.invariant j (omega arith))

pub loop-copy-preserved : goal.loop-copy-preserved
loop-copy-preserved c = below_more _ _ c.loop-copy.invariant (rw (← c.copy_at-page.ensures.0) (sym c.holds.ensures ∙ c.if-holds.false))
