-- Each example computes.
use Rattle.std.proofs.Common.{refl}
use Rattle.block.specs.Form.{sealed}
use Rattle.block.specs.Reading.{read_block}
use Rattle.wire.specs.Form.{inner, scanned}
use Rattle.rules.specs.Frames.{replies}
use Rattle.rules.specs.LogIns.{negotiated}
use Rattle.rules.specs.Records.{after, repeats, clears, judged}
use Rattle.rules.specs.Ends.{hears}
use Rattle.rules.specs.Calls.{opens, sends_record, times_out, receives, polls}
use Rattle.rules.specs.Links.{spoils, acts, stepped, journal, run}
use Rattle.examples.specs.Examples.{Hold}
use Rattle.examples.specs.Links.{LinksHold}
use Rattle.examples.proofs.examples_hold.Goals as goal

blocks : Hold
unfolding sealed inner scanned
blocks = record { acknowledgement = refl; log_in = refl; written = refl; read = refl }

links : LinksHold
unfolding sealed read_block replies negotiated after repeats clears judged hears opens sends_record times_out receives polls spoils acts stepped journal run
links = record {
  first = refl;
  controller = refl;
  sled = refl;
  least = refl;
  less = refl;
  cleared = refl;
  repeat = refl;
  out_of_turn = refl;
  script = refl;
}

pub returns : goal.returns
returns c = record { blocks = blocks; links = links }
