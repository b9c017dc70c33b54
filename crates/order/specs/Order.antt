-- Follows the code: refusal 6 at a node as a test; `Placed` of layout says the same in propositions.
use Rattle.std.specs.Prelude.{ℕ, ◌+◌, ◌≤◌, ◌<◌, Bool, true, false, ◌&&◌, List, [], ◌∷◌, eqb, ltb, get_or}
use Rattle.kinds.specs.declared.Record.{Record}
use Rattle.kinds.specs.declared.Shape.{Shape}
use Rattle.kinds.specs.declared.Shape.TheVariants.{Wrong, Bare, Valued, Named, One, Two, Three}
use Rattle.layout.specs.Starts.{shape_at, operands_of}
use Rattle.layout.specs.LaidOut.{unused_of}

-- the shape is that of a known kind
abbrev pub is_known : Shape → Bool
is_known Wrong = false
is_known Bare = true
is_known Valued = true
is_known Named = true
is_known (One s) = true
is_known (Two s t) = true
is_known (Three s t u) = true

-- the operands, the last first, stand where the order puts them before number e
abbrev pub in_order : (ℕ → ℕ) → ℕ → List ℕ → Bool
in_order st e [] = true
in_order st e (x ∷ xs) = eqb (x + 1) e && in_order st (st x) xs

-- the number of a variable is below v
abbrev pub is_listed : Shape → Record → ℕ → Bool
is_listed Wrong r v = true
is_listed Bare r v = true
is_listed Valued r v = true
is_listed Named r v = ltb r.a v
is_listed (One s) r v = true
is_listed (Two s t) r v = true
is_listed (Three s t u) r v = true

-- the record r of node n keeps all of it, where st has the subtrees' starts
unfoldable pub rightly_placed : Record → ℕ → ℕ → (ℕ → ℕ) → Bool
rightly_placed r v n st = is_known (shape_at r) && eqb (unused_of (shape_at r) r + r.spare) 0 && in_order st n (operands_of (shape_at r) r) && is_listed (shape_at r) r v

-- each subtree of the nodes before n starts at or before its root
abbrev pub Falling : ℕ → List ℕ → Type 0
Falling n l = (j : ℕ) → j < n → get_or l j 0 ≤ j
