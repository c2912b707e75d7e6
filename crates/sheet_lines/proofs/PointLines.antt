-- The lines of a point, from what they share.
use Prim.Native.Nat.{ℕ, ◌+◌, ◌-◌, ◌*◌, ◌/◌, ◌%◌, ◌≤◌, ◌<◌}
use mathlib.Core.Path.{◌≡◌, refl, sym, ◌∙◌, ap}
use mathlib.Core.Bool.{Bool, true, false, cond}
use native.Mathlib.Omega.{arith}
use mathlib.Core.List.{List}
use lib.ListN.{length}
use native.Mathlib.Nat.{mod-one}
use lib.Dec.{eqb}
use borrow.Author.Tests.{le-ltb, eqb-true}
use Rattle.hml.specs.System.{steps}
use Rattle.labels.specs.Refusals.{first_of}
use Rattle.machines.specs.Cases.{Case, with_run}
use Rattle.machines.specs.Joints.{joint_of}
use Rattle.formulas.specs.Working.{backs_of}
use Rattle.splitting.specs.Splittings.{splitting_limit, check_count, count_of}
use Rattle.splitting.proofs.LogRuns.{sound_log}
use Rattle.quotient.specs.Working.{window_of, rest_of}
use Rattle.quotient.proofs.Windows.{Windowed, windowed}
use Rattle.sheet_lines.specs.Sheets.{line_of, listed}
use Rattle.sheet_lines.specs.Working.{ways_of, count_in, letter_at, Splits, Asked, counted_as, after_of, between}
use Rattle.sheet_lines.specs.Working.{line_in, line_by, Halved, Shared}
use Rattle.sheet_lines.specs.declared.kept.Kept.{Kept}
use Rattle.sheet_lines.specs.declared.point.Point.{Point}
use Rattle.sheet_lines.proofs.CaseLaws.{between_end}
use Rattle.sheet_lines.proofs.Filling.{listed-agree}
use Rattle.sheet_lines.proofs.WindowTexts.{line_windowed}

-- the count of a log that can be numbered
pub counted-log : (c : Case) → Splits c → counted_as (count_in c) ≡ ways_of c
unfolding counted_as count_of check_count first_of splitting_limit
counted-log c h = rw (h.log, le-ltb 65535 (ways_of c) h.few)

-- the window as a part of the run
window_part : (c : Case) (p b : ℕ) → between c (p - b) p ≡ with_run c (window_of c.run p b)
unfolding between window_of
window_part c p b = refl

module _ (c : Case) (asked : Asked c) (p : ℕ) (within : p ≤ steps (joint_of c.run)) where
  -- the log has bytes up to the point, which is one of its points
  pub point_bytes : (3 * p + 2 ≤ length c.run) × (length c.run ≤ 602) × (p ≤ length c.run / 3)
      × (3 * (length c.run / 3) + 2 ≤ length c.run)
  point_bytes = let a = (sound_log _ _ _ _ asked.log).run in omega (arith, within, a.counted, a.whole, a.few)

  module _ (few : ways_of c ≤ splitting_limit) (b : ℕ) (back : b ≡ backs_of c.question) (first points : ℕ)
      (begins : first ≡ p - b) (all : points ≡ length c.run / 3) (w v : Case) (until : w ≡ between c first p)
      (behind : v ≡ between c p points) where
    -- w is the window, which reaches as far back as the question does; v is what follows the point
    window : w ≡ with_run c (window_of c.run p b)
    window = until ∙ ap (λ i. between c i p) begins ∙ window_part c p b

    follows : v ≡ with_run c (rest_of c.run p)
    unfolding rest_of
    follows = behind ∙ ap (between c p) all ∙ between_end c asked.log p

    parts : Windowed c.labels c.left c.right c.run p b
    parts = windowed _ _ _ _ p b asked.log within

    -- how many splittings each has
    ways_are : counted_as (count_in w) ≡ ways_of (with_run c (window_of c.run p b))
    unfolding splitting_limit
    ways_are =
        ap (λ x. counted_as (count_in x)) window
        ∙ counted-log (with_run c (window_of c.run p b)) (record {
          log = parts.window;
          few = omega (arith, parts.few_window, few);
        })

    after_are : counted_as (count_in v) ≡ ways_of (with_run c (rest_of c.run p))
    unfolding splitting_limit
    after_are =
        ap (λ x. counted_as (count_in x)) follows
        ∙ counted-log (with_run c (rest_of c.run p)) (record {
          log = parts.rest;
          few = omega (arith, parts.few_rest, few);
        })

    ways-few : ways_of w ≤ splitting_limit
    ways-few = rw window (omega (arith, parts.few_window, few))

    -- no check refuses the window
    window_asked : Asked w
    window_asked = rw window (record { log = parts.window; question = asked.question })

    pub window_splits : Splits w
    window_splits = record { log = window_asked.log; few = ways-few }

    module _ (letter ways after : ℕ) (a : letter ≡ letter_at c p) (x : ways ≡ counted_as (count_in w))
        (y : after ≡ after_of ways (counted_as (count_in v))) where
      ways-counted : ways ≡ ways_of w
      ways-counted = x ∙ ways_are ∙ ap ways_of (sym window)

      -- numbers are divided by how many splittings follow, unless the window has one splitting
      pub point_numbers : (0 < after) × (0 < ways) × (after ≤ 65536)
      unfolding splitting_limit after_of
      point_numbers = ((go (eqb ways 1) y).0, omega (arith, x, ways_are, parts.some_window), (go (eqb ways 1) y).1)
        where
          go : (b : Bool) → after ≡ cond b 65536 (counted_as (count_in v)) → (0 < after) × (after ≤ 65536)
          go true e = omega (arith, e)
          go false e = omega (arith, e, after_are, parts.some_rest, parts.few_rest, few)

      same_turn : (n : ℕ) → n / after % ways ≡ n / ways_of (with_run c (rest_of c.run p)) % ways
      unfolding after_of
      same_turn n = go (eqb ways 1) refl y
        where
          go : (b : Bool) → eqb ways 1 ≡ b → after ≡ cond b 65536 (counted_as (count_in v))
              → n / after % ways ≡ n / ways_of (with_run c (rest_of c.run p)) % ways
          go true q e =
              let z : ways ≡ 1 = eqb-true ways 1 q in
              rw z (mod-one (n / after) ∙ sym (mod-one (n / ways_of (with_run c (rest_of c.run p)))))
          go false q e = ap (λ m. n / m % ways) (e ∙ after_are)

      module _ (kept : Kept) where
        abbrev shared : Point
        shared = record { number = p; letter = letter; ways = ways; after = after; kept = kept }

        -- what they share
        pub point_shared : (halves : List ℕ) → Halved w kept halves → Shared w shared halves
        point_shared halves h = record {
          asked = window_asked;
          counted = ways-counted;
          few = ways-few;
          halved = h;
        }

        -- one of the lines
        point_line : (n : ℕ) → n < ways_of c → line_by w shared n ≡ line_of c p n
        unfolding line_by
        point_line n below =
            ap (line_in w letter p n) (same_turn n)
            ∙ rw (a, x ∙ ways_are, window) (sym (line_windowed c asked p within n below few b back))

        -- some of them
        pub point_lines : (n m : ℕ) → n + m ≤ ways_of c → listed (line_by w shared) n m ≡ listed (line_of c p) n m
        point_lines n m h =
            listed-agree (line_by w shared) (line_of c p) n n m (λ i j. point_line (n + i) (omega (arith, h, j)))

-- numbers of splittings are few
pub numbers_few : (u n : ℕ) → u ≤ n → n ≤ splitting_limit → u ≤ 65536
unfolding splitting_limit
numbers_few u n h l = omega (arith, h, l)
