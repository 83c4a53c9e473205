-- `calls::record` meets its contract: a line alone, judged as a block of one, is a record.
use Rattle.std.specs.Prelude.{Ok, Err}
use Rattle.std.proofs.lemmas.Result.{err_from_is_err_and}
use Rattle.calls.specs.Taking.{recorded_by}
use Rattle.calls.proofs.record.Goals as goal

pub returns-in_err-judge_checked : goal.returns-in_err-judge_checked
returns-in_err-judge_checked c = let p = err_from_is_err_and c.from_residual.result c.from_residual.ensures.1 in rw (p.1, p.2) (recorded_by _ _ _ (Err _) c.in_err-judge_checked.ensures)

pub returns : goal.returns
returns c = recorded_by _ _ _ (Ok _) c.in_ok-judge_checked.ensures
