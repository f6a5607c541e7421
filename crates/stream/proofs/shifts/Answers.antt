-- The shifts of a stream: none where there is no stream, or no room for one.
use Rattle.std.proofs.Common.{rules}
use Rattle.stream.proofs.Shifting.{still_none, outside_none, full_none}
use Rattle.stream.proofs.shifts.Goals as goal
use Rattle.stream.proofs.shifts.Goals.{then-not-streams-via-then-not-streams, then-not-streams-via-else-not-streams+then-log-at, then-not-streams-via-else-not-streams+else-log-at+then-out-written}

pub returns-then-not-streams : goal.returns-then-not-streams
returns-then-not-streams c =
    elim c.then-not-streams.branch [
      | then-not-streams-via-then-not-streams w ↦ still_none c.args.g c.args.s c.args.log.now c.args.at c.args.written c.args.cache.now c.args.out.now (search rules)
      | then-not-streams-via-else-not-streams+then-log-at w ↦ outside_none c.args.g c.args.s c.args.log.now c.args.at c.args.written c.args.cache.now c.args.out.now w.if-log-at.true
      | then-not-streams-via-else-not-streams+else-log-at+then-out-written w ↦ full_none c.args.g c.args.s c.args.log.now c.args.at c.args.written c.args.cache.now c.args.out.now w.if-out-written.true
    ]
