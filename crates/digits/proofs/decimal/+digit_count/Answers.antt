-- One count for each size up to five digits; above, four more than a number four digits shorter has.
use Prim.Native.Nat.{◌/◌}
use mathlib.Core.Path.{sym}
use native.Mathlib.Omega.{arith}
use Rattle.digits.proofs.DecimalLaws.{count_small, count_2, count_3, count_4, count_5, count_fours, count-within}
use Rattle.digits.proofs.decimal.+digit_count.Goals as goal

pub returns-then-n-lt10 : goal.returns-then-n-lt10
returns-then-n-lt10 t c = sym (count_small _ (omega arith))

pub returns-then-n-lt100 : goal.returns-then-n-lt100
returns-then-n-lt100 t c = sym (count_2 _ (omega arith) (omega arith))

pub returns-then-n-lt1000 : goal.returns-then-n-lt1000
returns-then-n-lt1000 t c = sym (count_3 _ (omega arith) (omega arith))

pub returns-then-n-lt10000 : goal.returns-then-n-lt10000
returns-then-n-lt10000 t c = sym (count_4 _ (omega arith) (omega arith))

pub returns-then-n-lt100000 : goal.returns-then-n-lt100000
returns-then-n-lt100000 t c = sym (count_5 _ (omega arith) (omega arith))

pub overflow_add-result : goal.overflow_add-result
overflow_add-result t c = omega (arith, c.digit_count.ensures, count-within 19 (c.args.n / 10000) (omega arith))

pub returns : goal.returns
returns t c = omega (arith, c.digit_count.ensures, count_fours c.args.n (omega arith))
