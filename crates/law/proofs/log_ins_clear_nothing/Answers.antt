-- Proved in proofs/ShutOut.antt.
use Rattle.law.proofs.ShutOut.{log_ins_clear_nothing}
use Rattle.law.proofs.log_ins_clear_nothing.Goals as goal

pub returns : goal.returns
returns c = log_ins_clear_nothing
