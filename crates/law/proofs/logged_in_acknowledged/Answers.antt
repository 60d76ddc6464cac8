-- Proved in proofs/ShutOut.antt.
use Rattle.law.proofs.ShutOut.{logged_in_acknowledged}
use Rattle.law.proofs.logged_in_acknowledged.Goals as goal

pub returns : goal.returns
returns c = logged_in_acknowledged
