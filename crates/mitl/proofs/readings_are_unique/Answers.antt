use Rattle.std.proofs.Common.{refl}
use Rattle.mitl.specs.Rows.{read}
use Rattle.mitl.proofs.Rows.{formulas_at, read_reads, one_reading}
use Rattle.mitl.proofs.readings_are_unique.Goals as goal

pub returns : goal.returns
returns c = (
  refl,
  record {
    built = formulas_at;
    reads = read_reads;
    only = λ rows h chained x reads. one_reading rows h chained x (read rows h) reads (read_reads rows h chained);
  },
)
