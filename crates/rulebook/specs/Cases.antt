-- What a verdict is where every check is clear, and where a record passes
use Rattle.rulebook.specs.Judging.{Deed, Edit, Ruling, Verdict, verdict}

abbrev pub grant : Deed → Ruling
grant d = record { number = 0; deed = d }

abbrev pub pass : Edit → Verdict
pass e = verdict "P" "R" 0 0 e
