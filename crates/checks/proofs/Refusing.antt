-- Document 01, "Outcomes": the numbers tell refusals apart, and none of them is 0. So a number says one result.
use Rattle.std.specs.Prelude.{◌≡◌, refl, List, [], ◌∷◌, ℕ, Result, Ok, Err, get_or}
use Rattle.std.proofs.Common.{sym, ap, ◌∙◌, arith}
use Rattle.checks.specs.Refusing.{number_of, number_said}
use Rattle.checks.specs.declared.Refusal.{Refusal}

-- the refusals, each at its number; the entries at 0 and 15 and at 21 to 30 are nobody's
abbrev table : List Refusal
table =
    Refusal.NotARecord ∷ Refusal.NotARecord ∷ Refusal.NotNow ∷ Refusal.AlreadyListed ∷ Refusal.ListFull ∷ Refusal.NoDesk
    ∷ Refusal.OtherInstruction ∷ Refusal.TableFull ∷ Refusal.NoSymbol ∷ Refusal.NotOpen ∷ Refusal.Blocked ∷ Refusal.ShortSale
    ∷ Refusal.TooLarge ∷ Refusal.BadPrice ∷ Refusal.OffMarket ∷ Refusal.NotARecord ∷ Refusal.NotAboveDone ∷ Refusal.CancelAsked
    ∷ Refusal.TooEarly ∷ Refusal.AboveRemaining ∷ Refusal.AboveCeiling
    ∷ Refusal.NotARecord ∷ Refusal.NotARecord ∷ Refusal.NotARecord ∷ Refusal.NotARecord ∷ Refusal.NotARecord
    ∷ Refusal.NotARecord ∷ Refusal.NotARecord ∷ Refusal.NotARecord ∷ Refusal.NotARecord ∷ Refusal.NotARecord
    ∷ Refusal.GrossTrade ∷ Refusal.NetTrade ∷ Refusal.GrossOpen ∷ Refusal.NetOpen ∷ Refusal.GrossBoth ∷ Refusal.NetBoth ∷ []

abbrev refusal_at : ℕ → Refusal
refusal_at n = get_or table n Refusal.NotARecord

at_its_number : (r : Refusal) → refusal_at (number_of r) ≡ r
at_its_number Refusal.NotARecord = refl
at_its_number Refusal.NotNow = refl
at_its_number Refusal.AlreadyListed = refl
at_its_number Refusal.ListFull = refl
at_its_number Refusal.NoDesk = refl
at_its_number Refusal.OtherInstruction = refl
at_its_number Refusal.TableFull = refl
at_its_number Refusal.NoSymbol = refl
at_its_number Refusal.NotOpen = refl
at_its_number Refusal.Blocked = refl
at_its_number Refusal.ShortSale = refl
at_its_number Refusal.TooLarge = refl
at_its_number Refusal.BadPrice = refl
at_its_number Refusal.OffMarket = refl
at_its_number Refusal.NotAboveDone = refl
at_its_number Refusal.CancelAsked = refl
at_its_number Refusal.TooEarly = refl
at_its_number Refusal.AboveRemaining = refl
at_its_number Refusal.AboveCeiling = refl
at_its_number Refusal.GrossTrade = refl
at_its_number Refusal.NetTrade = refl
at_its_number Refusal.GrossOpen = refl
at_its_number Refusal.NetOpen = refl
at_its_number Refusal.GrossBoth = refl
at_its_number Refusal.NetBoth = refl

-- THEOREM. Refusals with one number are one
pub told_apart : (r s : Refusal) → number_of r ≡ number_of s → r ≡ s
told_apart r s e = sym (at_its_number r) ∙ ap refusal_at e ∙ at_its_number s

-- THEOREM. No refusal has the number 0
pub never_0 : (r : Refusal) → number_of r ≡ 0 → ⊥
never_0 Refusal.NotARecord e = absurd (omega arith)
never_0 Refusal.NotNow e = absurd (omega arith)
never_0 Refusal.AlreadyListed e = absurd (omega arith)
never_0 Refusal.ListFull e = absurd (omega arith)
never_0 Refusal.NoDesk e = absurd (omega arith)
never_0 Refusal.OtherInstruction e = absurd (omega arith)
never_0 Refusal.TableFull e = absurd (omega arith)
never_0 Refusal.NoSymbol e = absurd (omega arith)
never_0 Refusal.NotOpen e = absurd (omega arith)
never_0 Refusal.Blocked e = absurd (omega arith)
never_0 Refusal.ShortSale e = absurd (omega arith)
never_0 Refusal.TooLarge e = absurd (omega arith)
never_0 Refusal.BadPrice e = absurd (omega arith)
never_0 Refusal.OffMarket e = absurd (omega arith)
never_0 Refusal.NotAboveDone e = absurd (omega arith)
never_0 Refusal.CancelAsked e = absurd (omega arith)
never_0 Refusal.TooEarly e = absurd (omega arith)
never_0 Refusal.AboveRemaining e = absurd (omega arith)
never_0 Refusal.AboveCeiling e = absurd (omega arith)
never_0 Refusal.GrossTrade e = absurd (omega arith)
never_0 Refusal.NetTrade e = absurd (omega arith)
never_0 Refusal.GrossOpen e = absurd (omega arith)
never_0 Refusal.NetOpen e = absurd (omega arith)
never_0 Refusal.GrossBoth e = absurd (omega arith)
never_0 Refusal.NetBoth e = absurd (omega arith)

-- THEOREM. Results with one number are one: what a `try_` function ensures says its result
pub said_once : (x y : Result (Unit {0}) Refusal) → number_said x ≡ number_said y → x ≡ y
said_once (Ok x) (Ok y) e = refl
said_once (Ok x) (Err s) e = absurd (never_0 s (sym e))
said_once (Err r) (Ok y) e = absurd (never_0 r e)
said_once (Err r) (Err s) e = ap Err (told_apart r s e)
