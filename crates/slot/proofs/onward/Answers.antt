-- One turn: no record, or the record done. (One whose answer has no room needs no answer here.)
use mathlib.Core.Path.{sym, ◌∙◌}
use native.Mathlib.Omega.{arith}
use Rattle.std.proofs.lemmas.Result.{err_from_is_err_and}
use Rattle.slot.proofs.Turns.{turn_stops, turn_goes}
use Rattle.slot.proofs.onward.Goals as goal

pub returns-in_err-e : goal.returns-in_err-e
returns-in_err-e c =
    let p = err_from_is_err_and c.from_residual.result c.from_residual.ensures.1 in
    rw p.1 (turn_stops _ _ _ _ _ _ (sym c.next_at.ensures ∙ c.in_err-e.was) p.2)

pub returns : goal.returns
returns c = turn_goes _ _ _ _ _ _ _ _ _ (sym c.next_at.ensures ∙ c.in_ok-e.was) c.room_of-room.ensures (omega (arith, c.if-out-w.false)) c.turn-stage.ensures.0 c.turn-stage.ensures.1
