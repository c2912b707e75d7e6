-- The digits in front by the same function, then four; the measure is the number.
use mathlib.Core.Path.{refl}
use native.Mathlib.Omega.{arith}
use Rattle.digits.proofs.DecimalLaws.{count_fours}
use Rattle.digits.proofs.Puts.{put-kept}
use Rattle.digits.proofs.DecimalPuts.{put-more}
use Rattle.digits.proofs.decimal.+write_long.Goals as goal

pub write_long-to-requires : goal.write_long-to-requires
write_long-to-requires t c = (omega arith, omega (arith, c.requires, count_fours c.args.n (omega arith)))

pub put_four-requires : goal.put_four-requires
put_four-requires t c = (
  omega arith,
  omega (
    arith,
    c.requires,
    c.write_long-to.ensures.value,
    put-kept c.args.out.now c.write_long-to.new.out c.args.at _ c.write_long-to.ensures.out_after,
    count_fours c.args.n (omega arith),
  ),
)

pub overflow_add-result : goal.overflow_add-result
overflow_add-result t c = omega (
  arith,
  c.requires,
  c.well_formed,
  c.write_long-to.ensures.value,
  count_fours c.args.n
      (omega arith),
)

pub returns : goal.returns
returns t c = record {
  value = omega (arith, c.write_long-to.ensures.value, count_fours c.args.n (omega arith));
  out_after = put-more _ _ _ _ c.args.n _ _ (omega arith) refl c.write_long-to.ensures.value
      c.write_long-to.ensures.out_after
      c.put_four.ensures;
}
