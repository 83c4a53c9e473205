-- `judge::judge` meets its contract: a refusal is answered by the rulebook's reply.
use mathlib.Core.Path.{refl, sym, ap, ◌∙◌}
use Prim.Native.Nat.{ℕ}
use Rattle.rulebook.specs.Judging.{reply}
use Rattle.books.specs.View.{rows_of}
use Rattle.judge.specs.Verdicts.{verdict_in_rows, refused}
use Rattle.judge.proofs.judge.Goals as goal

pub returns-in-Err : goal.returns-in-Err
returns-in-Err c = let S = rows_of c.args.table.mem.now in c.reply.ensures S ∙ ap (λ (n : ℕ). verdict_in_rows S (reply n)) c.from.ensures ∙ sym (refused S c.in-Err.refusal refl) ∙ c.in-Err.ensures
