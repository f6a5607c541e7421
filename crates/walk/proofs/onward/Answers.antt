-- One turn: no record, or one without room, or the record done.
use mathlib.Core.Path.{sym, ◌∙◌}
use native.Mathlib.Omega.{arith}
use Rattle.std.proofs.lemmas.Result.{err_from_is_err_and}
use Rattle.walk.proofs.Turns.{turn_stops, turn_full, turn_goes}
use Rattle.walk.proofs.onward.Goals as goal

pub returns-in_err-e : goal.returns-in_err-e
returns-in_err-e c =
    let e = err_from_is_err_and c.from_residual.result c.from_residual.ensures.1 in
    rw e.1 (turn_stops _ _ _ _ _ _ _ e.0 (sym c.next_at.ensures ∙ c.in_err-e.was) e.2)

pub returns-then-out-w : goal.returns-then-out-w
returns-then-out-w c = turn_full _ _ _ _ _ _ _ _ (sym c.next_at.ensures ∙ c.in_ok-e.was) (omega (arith, c.if-out-w.true, c.room_of-room.ensures))

pub returns : goal.returns
returns c = turn_goes _ _ _ _ _ _ _ _ _ _ _ (sym c.next_at.ensures ∙ c.in_ok-e.was) c.room_of-room.ensures (omega (arith, c.if-out-w.false)) c.turn-state.ensures.0 c.turn-state.ensures.1
