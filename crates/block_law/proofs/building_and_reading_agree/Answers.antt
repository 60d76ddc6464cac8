-- The two theorems of proofs/Laws.antt.
use Rattle.block_law.proofs.Laws.{read_built, built_read}
use Rattle.block_law.proofs.building_and_reading_agree.Goals as goal

pub returns : goal.returns
returns c = record { read_built = read_built; built_read = built_read }
