use Rattle.std.proofs.Common.{arith, get_or, [], length, ◌/◌}
use Rattle.sums.proofs.Summing.{chunk-fits, too_long, odd_count, even-count, past-greatest, summing-none, summing-accepted, summing-refused, all-summed}
use Rattle.sums.proofs.sums.Goals as goal
use Rattle.sums.proofs.sums.Goals.{then-sitting-gt-MAX_SITTING-via-then-sitting-gt-MAX_SITTING, then-sitting-gt-MAX_SITTING-via-else-sitting-gt-MAX_SITTING+then-not-is_empty}
use Rattle.sums.proofs.sums.Goals.{then-number-eq0, else-number-eq0}

pub returns-then-sitting-gt-MAX_SITTING : goal.returns-then-sitting-gt-MAX_SITTING
returns-then-sitting-gt-MAX_SITTING c =
    elim c.then-sitting-gt-MAX_SITTING.branch [
      | then-sitting-gt-MAX_SITTING-via-then-sitting-gt-MAX_SITTING w ↦ too_long _ w.if-sitting-gt-MAX_SITTING.true
      | then-sitting-gt-MAX_SITTING-via-else-sitting-gt-MAX_SITTING+then-not-is_empty w ↦ odd_count _ _ c.as_chunks.ensures.back_len _ w.is_empty.ensures w.if-not-is_empty.true
    ]

pub loop-number-init : goal.loop-number-init
loop-number-init c = summing-none _

pub returns-then-number-gt-GREATEST_NUMBER : goal.returns-then-number-gt-GREATEST_NUMBER
returns-then-number-gt-GREATEST_NUMBER c =
    past-greatest _ (even-count _ _ c.as_chunks.ensures.back_len _ c.is_empty.ensures c.if-not-is_empty.false) _ c.as_chunks.ensures.front _ _ _ c.loop-number.invariant c.loop-number-test.true c.if-number-gt-GREATEST_NUMBER.true

pub overflow_add-counts : goal.overflow_add-counts
overflow_add-counts c = omega (arith, c.loop-number.invariant.few (get_or (get_or c.as_chunks.result.0.now c.loop-number.number-index []) 0 0) c.if-number-gt-GREATEST_NUMBER.false)

pub loop-number-preserved : goal.loop-number-preserved
loop-number-preserved c =
    elim c.if-number-eq0.branch [
      | then-number-eq0 w ↦ summing-accepted _ _ _ _ c.loop-number.invariant c.loop-number-test.true w.if-number-eq0.true
          (rw c.as_chunks.ensures.front (chunk-fits (length c.args.sitting.now / 2) c.loop-number.number-index 1 c.args.sitting.now (λ j. omega (arith, c.type_inv.sitting j)))) _ _ w.from-sum.ensures w.sum-is
      | else-number-eq0 w ↦ summing-refused _ _ _ _ c.loop-number.invariant c.loop-number-test.true c.if-number-gt-GREATEST_NUMBER.false w.if-number-eq0.false _ w.sum-is
    ]

pub returns : goal.returns
returns c = all-summed _ (even-count _ _ c.as_chunks.ensures.back_len _ c.is_empty.ensures c.if-not-is_empty.false) _ c.as_chunks.ensures.front _ _ _ c.loop-number.invariant c.if-sitting-gt-MAX_SITTING.false c.loop-number-test.false
