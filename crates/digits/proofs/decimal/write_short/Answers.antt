-- One to five digits, each case by its law.
use mathlib.Core.Path.{refl}
use native.Mathlib.Omega.{arith}
use lib.ListN.{length-set}
use Rattle.digits.proofs.DecimalLaws.{count_small, count_2, count_3, count_4, count_5, count-some}
use Rattle.digits.proofs.DecimalPuts.{put_1, put_2, put_3, put_4, put_5}
use Rattle.digits.proofs.decimal.write_short.Goals as goal

pub bounds-out-at : goal.bounds-out-at
bounds-out-at c = omega (arith, c.requires.n_in_bounds, count-some c.args.n)

pub returns-then-n-lt10 : goal.returns-then-n-lt10
returns-then-n-lt10 c = record {
  value = omega (arith, count_small c.args.n (omega arith));
  out_after = put_1 _ _ _ (omega arith);
}

pub put_two-requires : goal.put_two-requires
put_two-requires c = omega (arith, c.requires.n_in_bounds, count_2 c.args.n (omega arith) (omega arith))

pub returns-then-n-lt100 : goal.returns-then-n-lt100
returns-then-n-lt100 c = record {
  value = omega (
    arith,
    count_2 c.args.n (omega arith) (omega arith),
  );
  out_after = put_2 _ _ _ _ (omega arith) (omega arith) c.put_two.ensures;
}

pub bounds-out-at-then-n-lt1000 : goal.bounds-out-at-then-n-lt1000
bounds-out-at-then-n-lt1000 c = omega (arith, c.requires.n_in_bounds, count_3 c.args.n (omega arith) (omega arith))

pub put_two-requires-then-n-lt1000 : goal.put_two-requires-then-n-lt1000
put_two-requires-then-n-lt1000 c = simp length-set (omega
    (arith, c.requires.n_in_bounds, count_3 c.args.n (omega arith) (omega arith)))

pub returns-then-n-lt1000 : goal.returns-then-n-lt1000
returns-then-n-lt1000 c = record {
  value = omega (
    arith,
    count_3 c.args.n (omega arith) (omega arith),
  );
  out_after = put_3 _ _ _ _ (omega arith) (omega arith) c.put_two-then-n-lt1000.ensures;
}

pub put_four-requires : goal.put_four-requires
put_four-requires c = omega (arith, c.requires.n_in_bounds, count_4 c.args.n (omega arith) (omega arith))

pub returns-then-n-lt10000 : goal.returns-then-n-lt10000
returns-then-n-lt10000 c = record {
  value = omega (
    arith,
    count_4 c.args.n (omega arith)
        (omega arith),
  );
  out_after = put_4 _ _ _ _ (omega arith) (omega arith) c.put_four.ensures;
}

pub bounds-out-at-2 : goal.bounds-out-at-2
bounds-out-at-2 c = omega (
  arith,
  c.requires.n_in_bounds,
  count_5 c.args.n (omega arith)
      (omega (arith, c.requires.n_bound)),
)

pub put_four-requires-2 : goal.put_four-requires-2
put_four-requires-2 c = simp length-set (omega
    (arith, c.requires.n_in_bounds, count_5 c.args.n (omega arith) (omega (arith, c.requires.n_bound))))

pub returns : goal.returns
returns c = record {
  value = omega (arith, count_5 c.args.n (omega arith) (omega (arith, c.requires.n_bound)));
  out_after = put_5 _ _ _ c.args.n _ (omega arith) (omega (arith, c.requires.n_bound)) refl c.put_four-2.ensures;
}
