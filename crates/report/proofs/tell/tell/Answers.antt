use Rattle.report.proofs.tell.tell.Goals as goal

pub returns-clause-truth : goal.returns-clause-truth
returns-clause-truth c = rw c.make_bank-made.ensures.bank at c.tell_after.ensures.truth
