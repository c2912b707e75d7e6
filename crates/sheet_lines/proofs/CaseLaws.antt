-- The case that a casebook's bytes show, and parts of a case's run as cases of their own.
use Prim.Native.Nat.{ℕ, ◌+◌, ◌-◌, ◌*◌, ◌/◌, ◌≤◌}
use mathlib.Core.Path.{◌≡◌, sym, ◌∙◌, ap}
use mathlib.Core.List.{List}
use native.Mathlib.Omega.{arith}
use lib.ListN.{length, take, drop, length-take, length-drop}
use lib.Seq.{take_all, take-take, drop-drop}
use Rattle.labels.specs.declared.label.Labels.{Labels}
use Rattle.machines.specs.Cases.{Case, with_run}
use Rattle.records.specs.Records.{body_of}
use Rattle.records.specs.declared.record.Record.{Record}
use Rattle.splitting.proofs.LogRuns.{sound_log}
use Rattle.sheet_lines.specs.Working.{log_check, between}
use Rattle.sheet_lines.proofs.Puts.{part-front}
use Rattle.std.specs.Prelude.{Ok}

-- what is made of its labels and of its parts is made of the case
module _ (c : Case) {A : Type 0} (x : Labels) (l r j : List ℕ) (p : x ≡ c.labels) (u : l ≡ c.left) (v : r ≡ c.right)
    (w : j ≡ c.run) where
  pub log_shown : (g : Labels → List ℕ → List ℕ → List ℕ → A) → g x l r j ≡ g c.labels c.left c.right c.run
  log_shown g = rw (p, u, v, w)

  pub case_shown : (q : List ℕ) → q ≡ c.question → (g : Labels → List ℕ → List ℕ → List ℕ → List ℕ → A)
      → g x l r j q ≡ g c.labels c.left c.right c.run c.question
  case_shown q e g = rw (p, u, v, w, e)

-- the record of a part of a run: it lies in the bytes, and its body is that part of the run's
module _ (s : List ℕ) (r : Record) (from to : ℕ) (order : from ≤ to) (within : 3 * to + 2 ≤ length (body_of s r)) where
  pub part-within : (r.start + 3 * to + 2 ≤ length s) × (3 * to + 2 ≤ r.len)
  unfolding body_of
  part-within = omega (arith, within, length-take r.len (drop r.start s), length-drop r.start s)

  pub part_body : body_of s (record {
    kind = r.kind;
    start = r.start + 3 * from;
    len = 3 * (to - from) + 2;
  })
      ≡ take (3 * (to - from) + 2) (drop (3 * from) (body_of s r))
  unfolding body_of
  part_body =
      let n = 3 * (to - from) + 2 in
      let b = drop r.start s in
      let z : 3 * from + n ≤ r.len = omega (arith, order, part-within) in
      ap (take n) (sym (drop-drop (3 * from) r.start s))
      ∙ part-front b (3 * from) n
      ∙ ap (drop (3 * from)) (sym (take-take (3 * from + n) r.len b z))
      ∙ sym (part-front (take r.len b) (3 * from) n)

-- the run up to a point, and from a point on
pub between_start : (c : Case) (m : ℕ) → between c 0 m ≡ with_run c (take (3 * m + 2) c.run)
unfolding between
between_start c m = let z : m - 0 ≡ m = omega arith in ap (λ n. with_run c (take (3 * n + 2) c.run)) z

pub between_end : (c : Case) → log_check c ≡ Ok tt
    → (p : ℕ) → between c p (length c.run / 3) ≡ with_run c (drop (3 * p) c.run)
unfolding between
between_end c sound p =
    let whole = (sound_log _ _ _ _ sound).run.whole in
    ap (with_run c) (take_all (3 * (length c.run / 3 - p) + 2) (drop (3 * p) c.run)
    (omega (arith, whole, length-drop (3 * p) c.run)))
