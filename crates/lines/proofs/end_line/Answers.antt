-- The room, and then the word and the two numbers, one behind the other.
use native.Mathlib.Omega.{arith}
use mathlib.Core.Path.{◌≡◌, ◌∙◌, ap}
use Rattle.lines.specs.Lines.{places, end_of}
use Rattle.lines.proofs.Laid.{places_most, length_end, short, end_laid}
use Rattle.lines.proofs.end_line.Goals as goal

pub overflow_add-k : goal.overflow_add-k
overflow_add-k c = omega (arith, c.places_of.ensures, places_most c.from-r.result)

pub overflow_add-k-2 : goal.overflow_add-k-2
overflow_add-k-2 c = omega (arith, c.places_of.ensures, places_most c.from-r.result)

pub overflow_add-n : goal.overflow_add-n
overflow_add-n c = omega (arith, c.places_of.ensures, places_most c.from-r.result, c.places_of-2.ensures, places_most c.args.records)

pub overflow_add-n-2 : goal.overflow_add-n-2
overflow_add-n-2 c = omega (arith, c.places_of.ensures, places_most c.from-r.result, c.places_of-2.ensures, places_most c.args.records)

pub returns-then-out-n : goal.returns-then-out-n
returns-then-out-n c =
    let a = c.args in
    let e : c.places_of.result ≡ places c.args.refusal = c.places_of.ensures ∙ ap places c.from-r.ensures in
    short (end_of a.refusal a.records) a.out.now _ (length_end a.refusal a.records ∙ rw (e, c.places_of-2.ensures)) c.if-out-n.true

pub returns : goal.returns
returns c =
    let a = c.args in
    let e : c.places_of.result ≡ places c.args.refusal = c.places_of.ensures ∙ ap places c.from-r.ensures in
    end_laid a.out.now _ _ _ c.places_of.result c.places_of-2.result a.refusal a.records e c.places_of-2.ensures c.if-out-n.false c.store_word.ensures (rw c.from-r.ensures at c.store_number.ensures) c.store_number-2.ensures
