-- How the code works: what functions ask for and promise that serve others. No call's promise cites this file.
use Rattle.std.specs.Prelude.{ℕ, ◌/◌, ◌+◌, ◌-◌, ◌*◌, List, [], ◌∷◌, length, take, drop, ltb, Err, Ok}
use Rattle.labels.specs.Refusals.{then_of, refused_if, first_of, Check}
use Rattle.labels.specs.declared.refusal.Refusal.TheVariants.{PointBeyond}
use Rattle.labels.specs.declared.label.Labels.{Labels}
use Rattle.halves.specs.Cuts.{known_of, known_part, beyond}
use Rattle.halves.specs.declared.side.Side.{Side}
use Rattle.formulas.specs.Formulas.{question_limit, check_formula}
use Rattle.splitting.specs.Splittings.{check_log}

-- the window of a point: the last b steps before it, or all where they are fewer, as a log of their own
unfoldable pub window_of : List ℕ → ℕ → ℕ → List ℕ
window_of s p b = take (3 * (p - (p - b)) + 2) (drop (3 * (p - b)) s)

-- what follows a point, as a log of its own
unfoldable pub rest_of : List ℕ → ℕ → List ℕ
rest_of s p = drop (3 * p) s

-- what is asked, of two halves: the question, then the point on the known half alone
unfoldable pub check_asked : Labels → List ℕ → List ℕ → List ℕ → Side → ℕ → Check
check_asked k a b f side point =
    first_of (check_formula k question_limit f ∷ refused_if (beyond (known_part a b (known_of side)) point) PointBeyond ∷ [])

-- what is asked, of a joint run of fit length: the question, then the point
unfoldable pub check_asked_run : Labels → List ℕ → List ℕ → ℕ → Check
check_asked_run k s f point =
    first_of (check_formula k question_limit f ∷ refused_if (ltb (length s / 3) point) PointBeyond ∷ [])

-- a log is judged before what is asked of it is refused; where nothing of that is refused the log is left to the
-- splitting
abbrev pub log_first : Check → Check → Check
log_first log (Ok _) = Ok tt
log_first log (Err x) = then_of log (Err x)

unfoldable pub check_asked_log : Labels → List ℕ → List ℕ → List ℕ → List ℕ → ℕ → Check
check_asked_log k l r s f point = log_first (check_log k l r s) (check_asked_run k s f point)
