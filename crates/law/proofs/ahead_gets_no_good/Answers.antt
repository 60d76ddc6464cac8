-- Proved in proofs/ShutOut.antt.
use Rattle.law.proofs.ShutOut.{ahead_gets_no_good}
use Rattle.law.proofs.ahead_gets_no_good.Goals as goal

pub returns : goal.returns
returns c = ahead_gets_no_good
