-- Each record goes into the rest of the output behind those before it.
use Rattle.casebook.proofs.Writing.{all-put}
use Rattle.casebook.proofs.write.put_casebook.Goals as goal

pub returns : goal.returns
returns c = all-put c.args.labels c.args.left.now c.args.right.now c.args.run.now c.args.question.now
    c.args.out.now _ _ _ _ c.put_record.ensures c.put_record-2.ensures c.put_record-3.ensures
    c.put_record-4.ensures _ c.put_record-5.ensures
