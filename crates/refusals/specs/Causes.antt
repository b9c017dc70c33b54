-- The causes of refusals, and document 01's number of each ("When a sheet is turned away", and the tables of the calls behind it).
use Rattle.std.specs.Prelude.{ℕ, List, [], ◌∷◌, eqb, cond, Result, Ok, Err}
use Rattle.std.proofs.Math.Option.{Option, none, some}
use Rattle.refusals.specs.declared.Cause.{Cause}
use Rattle.refusals.specs.declared.Cause.TheVariants.{Length, Check, Edition, Counts, Variable, Node, Sort, Range, Room, Cases, Reply, Value, Holds, Text, Word}
use Rattle.refusals.specs.declared.Refused.{Refused}
use Rattle.refusals.specs.declared.Refusal.{Refusal}

abbrev pub number_of : Cause → ℕ
number_of Length = 1
number_of Check = 2
number_of Edition = 3
number_of Counts = 4
number_of Variable = 5
number_of Node = 6
number_of Sort = 7
number_of Range = 8
number_of Room = 9
number_of Cases = 10
number_of Reply = 11
number_of Value = 12
number_of Holds = 13
number_of Text = 18
number_of Word = 19

-- an error, as document 01 tells it
abbrev pub refusal_of : Refused → Refusal
refusal_of e = record { number = number_of e.cause; place = e.place }

-- the cause with a number, where one has it
abbrev pub with_number : List Cause → ℕ → Option Cause
with_number [] n = none
with_number (c ∷ cs) n = cond (eqb (number_of c) n) (some c) (with_number cs n)

abbrev pub caused_by : ℕ → Option Cause
caused_by = with_number (Length ∷ Check ∷ Edition ∷ Counts ∷ Variable ∷ Node ∷ Sort ∷ Range ∷ Room ∷ Cases ∷ Reply ∷ Value ∷ Holds ∷ Text ∷ Word ∷ [])

-- what a conversion gives
abbrev pub cause_of : Result Cause Unit → Option Cause
cause_of (Ok c) = some c
cause_of (Err e) = none
