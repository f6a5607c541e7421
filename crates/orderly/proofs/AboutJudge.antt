-- Where `judge` says that a log was orderly, its end is that of the whole run.
use mathlib.Core.Bool.{true}
use mathlib.Core.Path.{◌≡◌, ap, sym, subst, ◌∙◌}
use lib.Dec.{T}
use borrow.Fn.Kinds.{Dens, res_t, ended_of}
use contract.Lifetimes.{Lfts}
use denote.Triple.Clauses.{AtExit}
use Rattle.part.proofs.Choice.{true_T}
use Rattle.model.specs.Runs.{End, seen}
use Rattle.whole.specs.Demand.{Given, given, end_of, supposed}
use Rattle.whole.proofs.Demand3.{demand_3}
use Rattle.orderly.specs.Judge.{Judgement, AboutJudge}
use Rattle.orderly.proofs.judge.Reads as judge-reads
use Rattle.orderly.proofs.judge.Kinds as judge-kinds

module _ (κs : Lfts 5) (a : Dens κs judge-kinds.ps) (x : (res_t judge-kinds.r κs).Denot) (s : AtExit (ended_of 5 judge-kinds.ps judge-kinds.r) κs) where
  -- the arguments, and what came back
  abbrev handed : Given
  handed =
      given a.0 a.1.0 a.1.1.0.now a.1.1.1.0.now a.1.1.1.1.0.now a.1.1.1.1.1.0.now a.1.1.1.1.1.1.0.now

  abbrev returned : End
  returned = seen x.answer s.1.1.1.0.now s.1.1.1.1.0.now s.1.1.1.1.1.0.now s.1.1.1.1.1.1.0.now

  pub about_judge : AboutJudge (judge-reads.Post κs a x s) handed returned x.orderly
  about_judge p h e =
      let r : returned ≡ end_of handed = ap (λ (j : Judgement). j.end) p in
      let t : supposed handed (end_of handed) ≡ true = sym (ap (λ (j : Judgement). j.orderly) p) ∙ e in
      demand_3 handed h returned r (subst (λ (z : End). T (supposed handed z)) (sym r) (true_T (supposed handed (end_of handed)) t))
