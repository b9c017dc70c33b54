-- The value of a tree where each variable has a value: RISCAL manual, sections B.4 (types), B.5.1 (names), B.5.2 (formulas), B.5.3 (equalities
-- and inequalities), B.5.4 (integers) and B.5.12 (conditionals). It knows nothing of sheets, of bits or of any solver.
use Rattle.std.specs.Prelude.{Bool, true, false, not, ◌&&◌, ◌||◌, ℕ, eqb, ℤ, pos, negsuc, neg_ℤ, ◌+ℤ◌, ◌-ℤ◌, ◌*ℤ◌}
use Rattle.std.specs.Int.Signed.{lt_z, le_z}
use Rattle.meaning.specs.declared.Sort.{Sort}
use Rattle.meaning.specs.declared.Sort.TheVariants.{Truth, Integer}
use Rattle.meaning.specs.Tree.{Tree, tru, fls, neg, conj, disj, implies, iff, equal, less, at_most, const, var, minus, sum, difference, product, ite}

-- B.4: a truth value is one of Bool's two values, an integer one of ℤ
abbrev pub Of : Sort → Type 0
Of Truth = Bool
Of Integer = ℤ

-- B.5.2: implication is false only where the first is true and the second false; equivalence is true where both are the same
abbrev pub implied : Bool → Bool → Bool
implied true b = b
implied false b = true

abbrev pub equivalent : Bool → Bool → Bool
equivalent true b = b
equivalent false b = not b

-- B.5.3: two integers are equal
abbrev pub equals : ℤ → ℤ → Bool
equals (pos a) (pos b) = eqb a b
equals (pos a) (negsuc b) = false
equals (negsuc a) (pos b) = false
equals (negsuc a) (negsuc b) = eqb a b

-- B.5.12: the first value where the formula is true, else the second
abbrev pub chosen : {A : Type 0} → Bool → A → A → A
chosen true a b = a
chosen false a b = b

-- the value of a tree, where variable i has the value ρ i
unfoldable pub value : (ℕ → ℤ) → {s : Sort} → Tree s → Of s
-- B.5.2
value ρ tru = true
value ρ fls = false
value ρ (neg a) = not (value ρ a)
value ρ (conj a b) = value ρ a && value ρ b
value ρ (disj a b) = value ρ a || value ρ b
value ρ (implies a b) = implied (value ρ a) (value ρ b)
value ρ (iff a b) = equivalent (value ρ a) (value ρ b)
-- B.5.3
value ρ (equal a b) = equals (value ρ a) (value ρ b)
value ρ (less a b) = lt_z (value ρ a) (value ρ b)
value ρ (at_most a b) = le_z (value ρ a) (value ρ b)
-- B.5.1: a name has the value that it was given
value ρ (var i) = ρ i
-- B.5.4
value ρ (const z) = z
value ρ (minus a) = neg_ℤ (value ρ a)
value ρ (sum a b) = value ρ a +ℤ value ρ b
value ρ (difference a b) = value ρ a -ℤ value ρ b
value ρ (product a b) = value ρ a *ℤ value ρ b
-- B.5.12
value ρ (ite c a b) = chosen (value ρ c) (value ρ a) (value ρ b)
