-- The law, proved in proofs/Runs.antt.
use Rattle.law.proofs.Runs.{runs_faithful, calls_lead_on}
use Rattle.law.proofs.runs_are_faithful.Goals as goal

pub returns : goal.returns
returns c = record { runs = runs_faithful; calls = calls_lead_on }
