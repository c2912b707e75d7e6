-- Filling an output point by point: which lines of a sheet are those of a point.
use Prim.Native.Nat.{ℕ, suc, ◌+◌, ◌-◌, ◌*◌, ◌/◌, ◌%◌, ◌≤◌, ◌<◌, min}
use mathlib.Core.Path.{◌≡◌, refl, sym, ◌∙◌, ap, ap₂}
use mathlib.Core.Bool.{Bool, true, false}
use mathlib.Core.List.{List, [], ◌∷◌}
use native.Mathlib.Omega.{arith}
use native.Mathlib.Nat.{mul-le-mul_right, mod-lt, div-lt_iff_lt-mul, div-add-mod', mul-add-div_right}
use native.Mathlib.Nat.{mul-add-mod_self_right, div-eq_of_lt, mod-eq_of_lt}
use lib.ListN.{length}
use lib.Dec.{leb}
use Rattle.hml.specs.System.{steps}
use Rattle.machines.specs.Cases.{Case}
use Rattle.machines.specs.Joints.{joint_of}
use Rattle.splitting.specs.Splittings.{splitting_limit}
use Rattle.splitting.proofs.LogRuns.{sound_log}
use Rattle.sheet_lines.specs.Sheets.{line_of, listed, fitting}
use Rattle.sheet_lines.specs.Working.{ways_of, Numbered, numbered_line, Filled, Full}
use Rattle.sheet_lines.proofs.Filling.{length-listed, filled_point, full_point, filled_end}

-- what fits is no more than what is due
pub fitting-few : (room : ℕ) (xs : List (List ℕ)) → length (fitting room xs) ≤ length xs
unfolding fitting
fitting-few room [] = omega arith
fitting-few room (x ∷ xs) = go (leb (length x) room) refl (fitting-few (room - length x) xs)
  where
    go : (b : Bool) → leb (length x) room ≡ b → length (fitting (room - length x) xs) ≤ length xs
        → length (fitting room (x ∷ xs)) ≤ suc (length xs)
    go true e h = rw e (omega (arith, h))
    go false e h = rw e (omega arith)

module _ (c : Case) (ways : ℕ) (numbered : Numbered c ways) (first due : ℕ)
    (bound : first + due ≤ suc (steps (joint_of c.run)) * ways) where
  abbrev g : ℕ → List ℕ
  g = numbered_line c ways

  abbrev end : ℕ
  end = first + due

  -- all that fits is written, as the call says it
  all_filled : (xs ys : List ℕ) (at j : ℕ)
      → Full (fitting (length xs - 0) (listed g first (end - first))) xs 0 first ys at j
      → Full (fitting (length xs) (listed g first due)) xs 0 first ys at j
  all_filled xs ys at j full =
      let z : length xs - 0 ≡ length xs = omega arith in
      let w : first + due - first ≡ due = omega arith in
      rw (z, w) at full

  -- a line that is due, with its point and its splitting
  module _ (i : ℕ) (h : i < end) where
    some : 0 < ways
    some = omega (arith, numbered.some)

    number-below : i % ways < ways
    number-below = mod-lt i some

    pub point_within : i / ways ≤ steps (joint_of c.run)
    point_within =
        omega (
          arith,
          (div-lt_iff_lt-mul {k = ways} {x = i} {y = suc (steps (joint_of c.run))} some).1
              (omega (arith, h, bound)),
        )

    -- the lines of the point that are due, up to the splitting u
    module _ (u : ℕ) (e : u ≡ min ways (i % ways + (end - i))) where
      pub until_within : (i % ways ≤ u) × (u ≤ ways_of c)
      until_within = omega (arith, e, number-below, numbered.counted)

      pub lines-within : (i + (u - i % ways) ≤ end) × (i % ways < u)
      lines-within = omega (arith, e, number-below, h)

      pub same_lines : (x : ℕ) → x < u - i % ways → line_of c (i / ways) (i % ways + x) ≡ g (i + x)
      unfolding numbered_line
      same_lines x j =
          let b : i % ways + x < ways = omega (arith, j, e) in
          let z : i + x ≡ i / ways * ways + (i % ways + x) = omega (arith, div-add-mod' i ways) in
          let q : (i + x) / ways ≡ i / ways = ap (◌/ ways) z ∙ mul-add-div_right some (i / ways) (i % ways + x)
          ∙ ap (i / ways +◌) (div-eq_of_lt b) ∙ omega arith in
          let m : (i + x) % ways ≡ i % ways + x = ap (◌% ways) z ∙ mul-add-mod_self_right (i / ways) ways (i % ways + x)
          ∙ mod-eq_of_lt b in
          ap₂ (line_of c) (sym q) (sym m)

      -- what is written of them
      module _ (xs ys zs : List ℕ) (at to n : ℕ) (filled : Filled g xs 0 first end ys at i)
          (full : Full (fitting (length ys - at) (listed (line_of c (i / ways)) (i % ways) (u - i % ways))) ys at
          (i % ways)
          zs to n) where
        pub reached : (i % ways ≤ n) × (n ≤ u)
        reached =
            let d = listed (line_of c (i / ways)) (i % ways) (u - i % ways) in
            omega (
              arith,
              full.counted,
              fitting-few (length ys - at) d,
              length-listed (line_of c (i / ways)) (i % ways) (u - i % ways),
              until_within,
            )

        pub next-within : i + (n - i % ways) ≤ end
        next-within = omega (arith, reached, lines-within)

        pub point_full : n < u → Full (fitting (length xs) (listed g first due)) xs 0 first zs to (i + (n - i % ways))
        point_full b =
            all_filled xs zs to (i + (n - i % ways))
            (full_point g xs 0 first end ys at i filled (line_of c (i / ways)) (i % ways) (u - i % ways) same_lines
            lines-within.0 zs to n full (omega (arith, b, until_within)))

        pub point_done : u ≤ n → Filled g xs 0 first end zs to (i + (n - i % ways))
        point_done b =
            let z : u - i % ways ≡ n - i % ways = omega (arith, b, reached) in
            rw z at (filled_point g xs 0 first end ys at i filled (line_of c (i / ways)) (i % ways) (u - i % ways)
            same_lines lines-within.0 zs to n full (omega (arith, b, reached, until_within)))

  pub sheet_full : (xs ys : List ℕ) (at j : ℕ) → Filled g xs 0 first end ys at j → end ≤ j
      → Full (fitting (length xs) (listed g first due)) xs 0 first ys at j
  sheet_full xs ys at j filled h =
      all_filled xs ys at j (filled_end g xs 0 first end ys at j filled (omega (arith, h, filled.due)))

-- a sheet has few lines: 201 points at most, and 65,535 splittings
pub sheet_small : (c : Case) (ways : ℕ) → Numbered c ways → suc (steps (joint_of c.run)) * ways ≤ 13172535
unfolding splitting_limit
sheet_small c ways n =
    let a = (sound_log _ _ _ _ n.asked.log).run.few in
    let m : suc (steps (joint_of c.run)) * ways ≤ 201 * ways = mul-le-mul_right ways (omega (arith, a)) in
    omega (arith, m, n.few)
