use native.Mathlib.Omega.{arith}
use Rattle.number_form.proofs.Numbers.{value-zero, value-exact, value-unknown}
use Rattle.number_form.proofs.number_value.Goals as goal

pub returns-in-0 : goal.returns-in-0
returns-in-0 c = search (value-zero)

pub returns-in-0-to-127 : goal.returns-in-0-to-127
returns-in-0-to-127 c = value-exact 0 _ (omega arith) (omega arith)

pub returns-in-0-to-32767 : goal.returns-in-0-to-32767
returns-in-0-to-32767 c = value-exact 1 _ (omega arith) (omega arith)

pub returns-in-0-to-8388607 : goal.returns-in-0-to-8388607
returns-in-0-to-8388607 c = value-exact 2 _ (omega arith) (omega arith)

pub returns-in-0-to-2147483647 : goal.returns-in-0-to-2147483647
returns-in-0-to-2147483647 c = value-exact 3 _ (omega arith) (omega arith)

pub returns-in-0-to-549755813887 : goal.returns-in-0-to-549755813887
returns-in-0-to-549755813887 c = value-exact 4 _ (omega arith) (omega arith)

pub returns-in-0-to-140737488355327 : goal.returns-in-0-to-140737488355327
returns-in-0-to-140737488355327 c = value-exact 5 _ (omega arith) (omega arith)

pub returns-in-0-to-36028797018963967 : goal.returns-in-0-to-36028797018963967
returns-in-0-to-36028797018963967 c = value-exact 6 _ (omega arith) (omega arith)

pub returns-in-0-to-9223372036854775807 : goal.returns-in-0-to-9223372036854775807
returns-in-0-to-9223372036854775807 c = value-exact 7 _ (omega arith) (omega arith)

pub returns-in_default : goal.returns-in_default
returns-in_default c = value-unknown _ (omega arith)
