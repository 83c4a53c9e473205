-- `chains::link_row` meets its contract: the row's slot has one number more.
use Rattle.std.proofs.Common.{length, ap, ◌∙◌}
use Rattle.chains.specs.Chain.{slot_of, chain_more}
use Rattle.chains.specs.Words.{hash_row, row_small, part_hash}
use Rattle.chains.proofs.chaining.link_row.Goals as goal

pub returns : goal.returns
unfolding hash_row
returns c = chain_more (row_small _ _ _ _ _) (c.slot_of-s.ensures.slot ∙ ap (slot_of (length c.args.head.now)) (c.hash.ensures.value ∙ part_hash _ _ _ c.row.ensures.within c.row.ensures.words)) c.requires.chained c.requires.j_in_bounds
