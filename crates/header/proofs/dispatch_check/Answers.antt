use Rattle.std.proofs.Common.{arith}
use Rattle.header.proofs.Entries.{dispatching-more, dispatching-over, dispatching-none}
use Rattle.header.proofs.dispatch_check.Goals as goal

pub returns-then-sum-limit : goal.returns-then-sum-limit
returns-then-sum-limit c = dispatching-over _ _ _ _ c.loop-entry.invariant c.loop-entry-test.true _ c.nth_entry.ensures _ (omega arith) c.if-sum-limit.true

pub loop-entry-preserved : goal.loop-entry-preserved
loop-entry-preserved c = dispatching-more _ _ _ _ c.loop-entry.invariant c.loop-entry-test.true _ c.nth_entry.ensures _ (omega arith) c.if-sum-limit.false

pub returns : goal.returns
returns c = dispatching-none _ _ _ _ c.loop-entry.invariant c.loop-entry-test.false
