-- Five bytes, each behind the one before.
use Rattle.aldebaran_form.proofs.LineReading.{des_places}
use Rattle.aldebaran_form.proofs.line.past_des.Goals as goal

pub returns : goal.returns
returns c = des_places _ _ _ _ _ _ c.past-d.ensures
    c.past-e.ensures c.past-s.ensures c.past-blank.ensures
    c.past.ensures
