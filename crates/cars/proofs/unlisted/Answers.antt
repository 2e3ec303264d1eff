use Rattle.cars.proofs.Places.{no_slots}
use Rattle.cars.proofs.unlisted.Goals as goal

pub returns : goal.returns
returns c = no_slots 32
