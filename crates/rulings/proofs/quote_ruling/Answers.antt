-- `rulings::quote_ruling` meets its contract: 8 where the symbol is not among those listed.
use Rattle.rulings.specs.Granting.{quote_held, quote_granted}
use Rattle.rulings.proofs.quote_ruling.Goals as goal

pub returns-then-symbol-table : goal.returns-then-symbol-table
returns-then-symbol-table c = quote_held c.args.table.mem.now _ c.args.sym c.args.bid c.args.offer c.find_symbol-symbol.ensures c.if-symbol-table.true

pub returns : goal.returns
returns c = quote_granted c.args.table.mem.now _ c.args.sym c.args.bid c.args.offer c.find_symbol-symbol.ensures c.if-symbol-table.false
