-- What an answer says in document 01's numbers: nothing where the sheet is accepted, else the refusal's number and its place.
use Rattle.std.specs.Prelude.{ℕ, Bool, true, false, Result, Ok, Err}
use Rattle.std.proofs.Math.Option.{Option, none, some}
use Rattle.refusals.specs.declared.Refused.{Refused}
use Rattle.refusals.specs.declared.Refusal.{Refusal}
use Rattle.refusals.specs.Causes.{refusal_of}

abbrev pub said_of : Result Unit Refused → Option Refusal
said_of (Ok u) = none
said_of (Err e) = some (refusal_of e)

-- a row of the table "When a sheet is turned away": refusal n at place p, exactly where the demand is not met
abbrev pub unless : Bool → ℕ → ℕ → Option Refusal
unless true n p = none
unless false n p = some (record { number = n; place = p })
