-- Document 01, "Outcomes": the numbers of refusals. Where nothing is refused the number is 0.
use Rattle.std.specs.Prelude.{ℕ, Result, Ok, Err}
use Rattle.checks.specs.declared.Refusal.{Refusal}

abbrev pub number_of : Refusal → ℕ
number_of Refusal.NotARecord = 1
number_of Refusal.NotNow = 2
number_of Refusal.AlreadyListed = 3
number_of Refusal.ListFull = 4
number_of Refusal.NoDesk = 5
number_of Refusal.OtherInstruction = 6
number_of Refusal.TableFull = 7
number_of Refusal.NoSymbol = 8
number_of Refusal.NotOpen = 9
number_of Refusal.Blocked = 10
number_of Refusal.ShortSale = 11
number_of Refusal.TooLarge = 12
number_of Refusal.BadPrice = 13
number_of Refusal.OffMarket = 14
number_of Refusal.NotAboveDone = 16
number_of Refusal.CancelAsked = 17
number_of Refusal.TooEarly = 18
number_of Refusal.AboveRemaining = 19
number_of Refusal.AboveCeiling = 20
number_of Refusal.GrossTrade = 31
number_of Refusal.NetTrade = 32
number_of Refusal.GrossOpen = 33
number_of Refusal.NetOpen = 34
number_of Refusal.GrossBoth = 35
number_of Refusal.NetBoth = 36

abbrev pub number_said : {A : Type 0} → Result A Refusal → ℕ
number_said (Ok x) = 0
number_said (Err r) = number_of r
