-- Labels of a call: document 01, "Machines and labels", which names them by k, their number of handshake pairs. The
-- pairing itself is the theory's (`hml`, Labels).
use Rattle.std.specs.Prelude.{ℕ, ltb, None, Option, Some}
use Rattle.hml.specs.Labels.{highest, partner_among, pairs}
use Rattle.labels.specs.Refusals.{refused_if, Check}
use Rattle.labels.specs.declared.refusal.Refusal.TheVariants.{TooManyPairs}
use Rattle.hml.specs.System.{Pairing}
use Rattle.labels.specs.declared.label.Labels.{Labels}
use Rattle.labels.specs.declared.label.Label.{Label}

-- the labels of k pairs
abbrev pub of_pairs : ℕ → Labels
of_pairs k = record { pairs = k }

-- the highest label of a call: 2k
unfoldable pub count : Labels → ℕ
count labels = highest labels.pairs

-- who shakes hands with whom
unfoldable pub pairing : Labels → Pairing
pairing labels = pairs labels.pairs

-- 4: k over 15
unfoldable pub check_labels : Labels → Check
check_labels labels = refused_if (ltb 15 labels.pairs) TooManyPairs

-- the partner of a label as such, whatever the call: among all labels that a byte can hold, which are those of 127
-- pairs
unfoldable pub any_partner : ℕ → Option ℕ
any_partner a = partner_among 127 a

-- a partner as the lookup answers it
unfoldable pub partner_found : Option ℕ → Option Label
partner_found None = None
partner_found (Some b) = Some (record { 0 = b })
