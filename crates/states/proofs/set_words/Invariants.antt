-- `states::set_words` ends: each turn passes one byte of the text or more.
use Rattle.std.proofs.Common.{length}
use Rattle.states.proofs.set_words.Given as goal

abbrev pub decreases-loop-rest : goal.decreases-loop-rest
decreases-loop-rest l = length l.rest
