-- What the program knows of a block: how far it is judged, which memory its lines leave, and how much of it is held.
use Rattle.std.specs.Prelude.{◌≡◌, List, [], map, ℕ, ◌≤◌, length, drop, replicate, Option, Some, None, Result, Ok, Err}
use Rattle.lines.specs.Splitting.{whole, rest, lent}
use Rattle.calls.specs.Calling.{recorded}
use Rattle.promises.specs.Day.{Call, left}
use Rattle.gate.specs.declared.Stopped.{Stopped}

-- a line is lent to the record call with a buffer of 32 bytes
abbrev pub call_for : List ℕ → Call
call_for l = record { line = l; buffer = replicate 32 0 }

-- the calls for the lines that end in a text, in their order
abbrev pub calls_for : List ℕ → List Call
calls_for text = map (λ l. call_for (lent l)) (whole [] text)

-- a text is judged up to the end of its last line: what is left is what no LF has followed, and memory is what its calls leave
abbrev pub LinesPassed : List ℕ → List ℕ → Result ℕ Stopped → List ℕ → Type 0
LinesPassed text m (Ok at) n = (at ≤ length text) × (rest [] text ≡ drop at text) × (n ≡ left recorded m (calls_for text))
LinesPassed text m (Err stopped) n = Unit {0}

-- no more is held than is lent of a line
abbrev pub HeldFew : Result (Option ℕ) Stopped → Type 0
HeldFew (Ok (Some count)) = count ≤ 161
HeldFew (Ok None) = Unit {0}
HeldFew (Err stopped) = Unit {0}
