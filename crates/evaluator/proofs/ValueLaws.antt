-- A node's number from those of its operands, which stand before it, by the shape of its record. Assumes nothing.
use Prim.Native.Nat.{ℕ, ◌<◌}
use mathlib.Core.Path.{◌≡◌, refl, sym, ap, ap₂, ◌∙◌}
use mathlib.Core.List.{List}
use native.Mathlib.Omega.{arith}
use lib.IntN.{ℤ, pos}
use Rattle.numbers.specs.Ranges.{Narrow}
use Rattle.numbers.specs.Two.{dec}
use Rattle.meaning.specs.declared.Sort.{Sort}
use Rattle.meaning.specs.Rule.{value_in}
use Rattle.kinds.specs.declared.Record.{Record}
use Rattle.kinds.specs.declared.Shape.{Shape}
use Rattle.kinds.specs.declared.Shape.TheVariants.{Wrong, Bare, Valued, Named, One, Two, Three}
use Rattle.kinds.specs.Kinds.{row}
use Rattle.layout.specs.Limits.{most_variables}
use Rattle.layout.specs.Starts.{operands_of, VariableBelow}
use Rattle.layout.specs.Goal.{tree_at}
use Rattle.layout.specs.Parts.{node_count, variable_count, table}
use Rattle.layout.specs.LaidOut.{Placed}
use Rattle.layout.specs.Fold.{Found, found_by, of_node}
use Rattle.layout.proofs.StartLaws.{Before, lower}
use Rattle.layout.proofs.FoldLaws.{node-is, found-is}
use Rattle.reading.proofs.RuleLaws.{accepted-sound}
use Rattle.evaluator.specs.Numbers.{applied_of, number_by, number_step}
use Rattle.evaluator.specs.Standing.{Standing}
use Rattle.evaluator.proofs.NumberLaws.{numbers-are}
use Rattle.evaluator.proofs.StandingLaws.{number_at, word, word-is, counted, narrow}

-- the number that is found of node n by the steps of the code is its number
abbrev found : List ℕ → List ℤ → ℕ → ℤ
found s numbers n = of_node (number_step (value_in numbers)) (pos 0) (table s) n

found_number : {s : List ℕ} {numbers : List ℤ} → Standing s numbers → {n : ℕ} → n < node_count s → found s numbers n ≡ number_at s numbers n
found_number {s} {numbers} ok {n} l =
    let sound = accepted-sound s ok.accepted in
    found-is (number_step (value_in numbers)) (pos 0) (table s) sound.placed sound.typed n l ∙ numbers-are (value_in numbers) (tree_at (table s) n).1

-- node n was read in a standing row: its record is r, of the shape h
pub record Reached (s : List ℕ) (numbers : List ℤ) (n : ℕ) (r : Record) (h : Shape) : Type 0 where
  pub standing : Standing s numbers
  pub inside : n < node_count s
  pub record_is : r ≡ table s n
  pub shape_is : h ≡ (row r.kind).shape

pub reached : {s : List ℕ} {numbers : List ℤ} {n : ℕ} {r : Record} {g h : Shape} → Standing s numbers → n < node_count s → r ≡ table s n → g ≡ (row r.kind).shape → g ≡ h → Reached s numbers n r h
reached ok l e f g = record { standing = ok; inside = l; record_is = e; shape_is = sym g ∙ f }

module _ {s : List ℕ} {numbers : List ℤ} {n : ℕ} {r : Record} {h : Shape} (at : Reached s numbers n r h) where
  placed : Placed (table s) (variable_count s) n
  placed = (accepted-sound s at.standing.accepted).placed n at.inside

  -- its operands stand before it, and its variable is one of the sheet's
  pub operands : Before n (operands_of h r)
  operands = rw (at.shape_is, at.record_is) (lower placed)

  pub listed : VariableBelow h r (variable_count s)
  listed = rw (at.shape_is, at.record_is) placed.listed

  -- what is asked of an operand
  pub down : {t a : ℕ} → n ≡ t → a < n → (a < t) × (Standing s numbers × (a < node_count s))
  down e l = (omega arith, (at.standing, omega (arith, at.inside)))

  -- an operand's number, as the code has it
  pub operand-narrow : {a : ℕ} {x : ℤ} → a < n → x ≡ number_at s numbers a → Narrow (word x)
  operand-narrow l e = narrow at.standing (omega (arith, at.inside)) (word-is at.standing (omega (arith, at.inside)) e)

  operand : {a : ℕ} {x : ℤ} → a < n → x ≡ number_at s numbers a → word x ≡ found s numbers a
  operand {a} l e =
      let below : a < node_count s = omega (arith, at.inside) in
      word-is at.standing below e ∙ sym (found_number at.standing below)

  node-step : number_by (value_in numbers) h r.kind (found_by h r (found s numbers)) ≡ number_at s numbers n
  unfolding number_step
  node-step = rw (at.shape_is, at.record_is) (sym (node-is (number_step (value_in numbers)) (pos 0) (table s) n (lower placed)) ∙ found_number at.standing at.inside)

  -- the node's number, worked out from what was found of its operands
  result : (x : Found ℤ h) → x ≡ found_by h r (found s numbers) → {y : ℤ} → y ≡ number_by (value_in numbers) h r.kind x → word y ≡ number_at s numbers n
  result x e d = word-is at.standing at.inside (d ∙ ap (number_by (value_in numbers) h r.kind) e ∙ node-step)

module _ {s : List ℕ} {numbers : List ℤ} {n : ℕ} {r : Record} where
  pub few : Reached s numbers n r Named → r.a < most_variables
  few at = omega (arith, listed at, (counted at.standing).few)

  pub wrong : Reached s numbers n r Wrong → pos 0 ≡ number_at s numbers n
  wrong at = node-step at

  pub bare : Reached s numbers n r Bare → {y : ℤ} → y ≡ applied_of r.kind (pos 0) (pos 0) (pos 0) → word y ≡ number_at s numbers n
  bare at = result at tt refl

  pub valued : Reached s numbers n r Valued → {y : ℤ} → y ≡ dec 16 r.value → word y ≡ number_at s numbers n
  valued at = result at _ refl

  pub named : Reached s numbers n r Named → {y : ℤ} → y ≡ value_in numbers r.a → word y ≡ number_at s numbers n
  named at = result at _ refl

  pub one : {p : Sort} → Reached s numbers n r (One p) → {x y : ℤ} → x ≡ number_at s numbers r.a → y ≡ applied_of r.kind (word x) (pos 0) (pos 0) → word y ≡ number_at s numbers n
  one at e = result at _ (operand at (operands at).0 e)

  pub two : {p q : Sort} → Reached s numbers n r (Two p q) → {x y z : ℤ} → x ≡ number_at s numbers r.a → y ≡ number_at s numbers r.b → z ≡ applied_of r.kind (word x) (word y) (pos 0) → word z ≡ number_at s numbers n
  two at e d = result at _ (ap₂ (λ (x y : ℤ). (x, y)) (operand at (operands at).1.0 e) (operand at (operands at).0 d))

  pub three : {p q o : Sort} → Reached s numbers n r (Three p q o) → {x y z w : ℤ} → x ≡ number_at s numbers r.a → y ≡ number_at s numbers r.b → z ≡ number_at s numbers r.c → w ≡ applied_of r.kind (word x) (word y) (word z) → word w ≡ number_at s numbers n
  three at e d f =
      let a = operand at (operands at).1.1.0 e in
      let b = operand at (operands at).1.0 d in
      let c = operand at (operands at).0 f in
      result at _ (λ i. (a i, b i, c i))
