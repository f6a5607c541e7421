-- Demand 3 as a theorem about `model::run` and `quick::run` themselves: whatever result and exit contents their contract allows.
use borrow.Fn.Kinds.{Dens, res_t, ended_of}
use contract.Lifetimes.{Lfts}
use denote.Triple.Clauses.{AtExit}
use Rattle.model.specs.Runs.{seen}
use Rattle.model.proofs.run.Reads as run-reads
use Rattle.model.proofs.run.Kinds as run-kinds
use Rattle.quick.proofs.run.Reads as quick-reads
use Rattle.quick.proofs.run.Kinds as quick-kinds
use Rattle.whole.specs.Demand.{given, AboutRun}
use Rattle.whole.proofs.Demand3.{demand_3}

module _ (κs : Lfts 5) (a : Dens κs run-kinds.ps) (x : (res_t run-kinds.r κs).Denot) (s : AtExit (ended_of 5 run-kinds.ps run-kinds.r) κs) where
  -- the arguments, and what came back
  pub about_run : AboutRun (run-reads.Post κs a x s)
      (given a.0 a.1.0 a.1.1.0.now a.1.1.1.0.now a.1.1.1.1.0.now a.1.1.1.1.1.0.now a.1.1.1.1.1.1.0.now)
      (seen x s.1.1.1.0.now s.1.1.1.1.0.now s.1.1.1.1.1.0.now s.1.1.1.1.1.1.0.now)
  about_run p h t = demand_3 _ h _ p t

module _ (κs : Lfts 5) (a : Dens κs quick-kinds.ps) (x : (res_t quick-kinds.r κs).Denot) (s : AtExit (ended_of 5 quick-kinds.ps quick-kinds.r) κs) where
  -- the same of the quick run, by the same contract
  pub about_quick : AboutRun (quick-reads.Post κs a x s)
      (given a.0 a.1.0 a.1.1.0.now a.1.1.1.0.now a.1.1.1.1.0.now a.1.1.1.1.1.0.now a.1.1.1.1.1.1.0.now)
      (seen x s.1.1.1.0.now s.1.1.1.1.0.now s.1.1.1.1.1.0.now s.1.1.1.1.1.1.0.now)
  about_quick p h t = demand_3 _ h _ p t
