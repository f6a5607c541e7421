-- A run judged: the judgement of the model's run, put right.
use Rattle.sleetanvil.proofs.Refused.{as_judged}
use Rattle.sleetanvil.proofs.sleet_judge.Goals as goal

pub returns : goal.returns
returns c =
    rw (c.judged_of.ensures.0, c.judged_of.ensures.1)
    (as_judged _ _ _ _ _ _ _ c.state_of-x.ensures c.part_of-g.ensures c.stand_in.ensures c.judge-j.ensures)
