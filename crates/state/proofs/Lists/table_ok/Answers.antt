-- `state::Lists::table_ok` meets its contract: the sums begin with no place.
use Rattle.state.specs.Summing.{sums_none}
use Rattle.state.proofs.Lists.table_ok.Goals as goal

pub tally-requires : goal.tally-requires
tally-requires c = sums_none _ c.args.self.listed.counts.few_groups
