-- The next byte: a part that is not sound, what the checks refuse, and else the byte on DO.
use native.Mathlib.Omega.{arith}
use native.Mathlib.Nat.{mul-le-mul}
use Rattle.std.proofs.lemmas.Result.{err_from_is_err_and}
use Rattle.part.specs.Part.{sound_part, Sound}
use Rattle.beside.proofs.Asked.{part_sound, asked_no, asked_yes}
use Rattle.beside.proofs.Next.{peek_unsound, peek_refused, peek_told}
use Rattle.beside.proofs.peek.Goals as goal

pub returns-then-not-sound : goal.returns-then-not-sound
returns-then-not-sound c = peek_unsound _ _ _ (asked_no (sound_part c.args.g) c.sound.result c.sound.ensures c.if-not-sound.true-raw)

pub overflow_mul-rows : goal.overflow_mul-rows
overflow_mul-rows c =
    let s : Sound c.args.g = part_sound _ (asked_yes (sound_part c.args.g) c.sound.result c.sound.ensures c.if-not-sound.false-raw) in
    rw (c.rows.ensures, c.page.ensures) (omega (arith, mul-le-mul s.few_rows s.small_page))

pub returns-in_err-check : goal.returns-in_err-check
returns-in_err-check c =
    let e = err_from_is_err_and c.from_residual.result c.from_residual.ensures.1 in
    rw (e.1, e.2) (peek_refused _ _ _ _ _ (rw (c.rows.ensures, c.page.ensures, c.rows-2.ensures) at c.check.ensures) c.in_err-check.was)

pub returns : goal.returns
returns c = peek_told _ _ _ _ _ (rw (c.rows.ensures, c.page.ensures, c.rows-2.ensures) at c.check.ensures) c.in_ok-check.was c.byte_out.ensures
