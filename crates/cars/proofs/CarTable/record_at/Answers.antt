use Rattle.std.proofs.Common.{refl, rules}
use Rattle.cars.proofs.Moves.{unmoved_at, still_at}
use Rattle.cars.proofs.CarTable.record_at.Goals as goal

pub returns : goal.returns
returns c = record {
  there = search rules;
  others = search rules;
  count_same = refl;
  refused = unmoved_at c.args.self.now.slots c.args.self.now.count c.args.at c.args.letter c.record.new.self c.record.result c.record.ensures;
  inputs = still_at c.args.self.now.slots c.args.self.now.count c.args.at c.args.letter c.record.new.self c.record.result c.record.ensures;
}
