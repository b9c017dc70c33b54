-- The rule that a sheet shows is well formed where the sheet is laid out right. Assumes nothing.
use Prim.Native.Nat.{ℕ, ◌+◌, ◌-◌, ◌<◌}
use mathlib.Core.List.{List}
use native.Mathlib.Omega.{arith}
use lib.ListN.{drop, length-take}
use Rattle.numbers.proofs.Bytes16.{i16-narrow, dec16-narrow}
use Rattle.kinds.specs.declared.Record.{Record}
use Rattle.kinds.specs.declared.Shape.{Shape}
use Rattle.kinds.specs.declared.Shape.TheVariants.{Wrong, Bare, Valued, Named, One, Two, Three}
use Rattle.layout.specs.Limits.{max_offset, name_start, variable_place}
use Rattle.layout.specs.Starts.{shape_at, VariableBelow}
use Rattle.layout.specs.Goal.{args_of, tree_at, goal_of}
use Rattle.layout.specs.Parts.{variable_count, name_size, variable_at, rule_in}
use Rattle.layout.specs.LaidOut.{Sound, LaidOut}
use Rattle.layout.specs.WellFormed.{FineVariable, Fine, WellFormed}
use Rattle.layout.proofs.Made.{found_made, found-make, leaf_by, leaf_step, FineLeaf, FineHere, throughout-fine}
use Rattle.layout.proofs.StartLaws.{lower}
use Rattle.layout.proofs.GoalLaws.{tree_is}
use Rattle.layout.proofs.ThroughoutLaws.{goal-throughout}
use Rattle.layout.proofs.Forward.{goal-size}
use Rattle.layout.proofs.PartLaws.{words, variable-total, variable-is}
use Rattle.layout.proofs.Written.{bytes_take, bytes_drop}

-- ---- the trees of a table
module _ {f : ℕ → Record} {v N : ℕ} (words : (j : ℕ) → (f j).value < 65536) (sound : Sound f v N) where
  leaf : (h : Shape) (n : ℕ) → VariableBelow h (f n) v → FineLeaf v (leaf_by h (found_made leaf_step h (args_of h (f n) (tree_at f))))
  leaf Wrong n l = tt
  leaf Bare n l = tt
  leaf Valued n l = dec16-narrow (words n)
  leaf Named n l = l
  leaf (One s) n l = tt
  leaf (Two s t) n l = tt
  leaf (Three s t u) n l = tt

  node-leaf : (n : ℕ) → n < N → FineHere v (tree_at f n).0 (tree_at f n).1
  node-leaf n l =
      let p = sound.placed n l in
      rw (tree_is f n (lower p), found-make (f n).kind p.known (args_of (shape_at (f n)) (f n) (tree_at f)) leaf_step) (leaf (shape_at (f n)) n p.listed)

  pub goal-fine : Fine v (goal_of f N)
  goal-fine = throughout-fine v (goal_of f N) (goal-throughout (FineHere v) sound node-leaf)

-- ---- the whole rule
module _ (s : List ℕ) (r : LaidOut s) where
  variable-fine : (j : ℕ) → j < variable_count s → FineVariable (variable_at s j)
  variable-fine j h =
      let i : ℕ = variable_place j in
      record {
        ends = record { low = i16-narrow s r.bytes i; high = i16-narrow s r.bytes (i + max_offset) };
        short = rw length-take (omega (arith, (r.variables j h).short));
        bytes = bytes_take (name_size s i) (drop (i + name_start) s) (bytes_drop (i + name_start) s r.bytes);
      }

  pub rule-well : WellFormed (rule_in s)
  rule-well = record {
    few = rw (variable-total s) r.few;
    most = rw (goal-size (words s r.bytes) r.nodes) r.most;
    variables = λ j l. let h : j < variable_count s = rw (← variable-total s) l in rw (variable-is s j h) (variable-fine j h);
    goal = rw (variable-total s) (goal-fine (words s r.bytes) r.nodes);
  }
