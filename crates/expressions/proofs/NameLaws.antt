-- The names of an accepted sheet's variables are short. Assumes nothing.
use Prim.Native.Nat.{ℕ, ◌+◌, ◌≤◌, ◌<◌, min}
use mathlib.Core.Path.{◌≡◌}
use mathlib.Core.List.{List}
use mathlib.Core.Option.{none}
use native.Mathlib.Omega.{arith}
use lib.ListN.{length, drop, length-take}
use Rattle.layout.specs.Limits.{name_start, most_name_bytes, most_nodes, variable_place}
use Rattle.layout.specs.Parts.{variable_count, variable_at, name_size, name_in}
use Rattle.records.specs.Names.{VariableKept}
use Rattle.reading.specs.Cascade.{refusal_of}
use Rattle.reading.proofs.RuleLaws.{accepted-kept}

pub kept-short : (s : List ℕ) (i : ℕ) → VariableKept s i → length (variable_at s i).name ≤ most_name_bytes
kept-short s i kept =
    let k = kept.0.short in
    let m : length (name_in s (variable_place i)) ≡ min (name_size s (variable_place i)) (length (drop (variable_place i + name_start) s)) = length-take _ _ in
    omega arith

pub name-short : (s : List ℕ) (i : ℕ) → refusal_of most_nodes s ≡ none → i < variable_count s → length (variable_at s i).name ≤ most_name_bytes
name-short s i e l = kept-short s i (accepted-kept s e i l)
