use Rattle.std.proofs.Common.{◌≡◌}
use Rattle.chains.specs.Words.{blend}
use Rattle.chains.proofs.hash.Given as goal

abbrev pub invariant-loop-word : goal.invariant-loop-word
invariant-loop-word l = l.h ≡ blend l.words 0 l.word-index
