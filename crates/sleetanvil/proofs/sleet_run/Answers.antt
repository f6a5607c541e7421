-- A run: the run of the model, put right.
use Rattle.sleetanvil.proofs.Refused.{as_ran}
use Rattle.sleetanvil.proofs.sleet_run.Goals as goal

pub returns : goal.returns
returns c =
    rw c.answer_of.ensures
    (as_ran _ _ _ _ _ _ _ c.state_of-x.ensures c.part_of-g.ensures c.stand_in.ensures c.run-a.ensures)
