-- The room, and then the number and the fields, one behind the other.
use native.Mathlib.Omega.{arith}
use mathlib.Core.Path.{◌∙◌}
use Rattle.lines.specs.Lines.{do_of, line_of}
use Rattle.lines.proofs.Laid.{places_most, length_line, short, line_laid}
use Rattle.lines.proofs.record_line.Goals as goal

pub overflow_add-k : goal.overflow_add-k
overflow_add-k c = omega (arith, c.places_of-k.ensures, places_most c.args.number)

pub overflow_add-n : goal.overflow_add-n
overflow_add-n c = omega (arith, c.places_of-k.ensures, places_most c.args.number)

pub returns-then-out-n : goal.returns-then-out-n
returns-then-out-n c =
    let a = c.args in
    let o = do_of a.e a.d in
    short (line_of a.number a.e o a.status) a.out.now _ (length_line a.number a.e o a.status ∙ rw c.places_of-k.ensures) c.if-out-n.true

pub returns : goal.returns
returns c =
    let a = c.args in
    line_laid a.out.now _ _ c.places_of-k.result a.number a.e (do_of a.e a.d) a.status c.places_of-k.ensures c.if-out-n.false c.store_number.ensures c.store_fields.ensures
