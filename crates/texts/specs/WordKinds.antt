-- Follows the code: which kind a plain word is of, as a test.
use Rattle.std.specs.Prelude.{ℕ, Bool, true, false, cond, List, [], ◌∷◌}
use Rattle.std.proofs.Math.Option.{Option, none, some}
use Rattle.lists.specs.Names.{same_bytes}
use Rattle.kinds.specs.declared.Kind.{Kind}
use Rattle.kinds.specs.Kinds.{row}
use Rattle.texts.specs.Plain.{plain_of}
use Rattle.texts.specs.Texts.{operands_behind}

-- the kinds that have a plain word
abbrev pub worded : List Kind
worded = Kind.True ∷ Kind.False ∷ Kind.Not ∷ Kind.And ∷ Kind.Or ∷ Kind.Implies ∷ Kind.Iff ∷ Kind.Equal ∷ Kind.Less ∷ Kind.AtMost ∷ Kind.Minus ∷ Kind.Sum ∷ Kind.Difference ∷ Kind.Product ∷ Kind.If ∷ []

-- the first of these kinds that has this word, and Unknown where none has
unfoldable pub kind_in : List Kind → List ℕ → Kind
kind_in [] w = Kind.Unknown
kind_in (k ∷ ks) w = cond (same_bytes (plain_of k) w) k (kind_in ks w)

unfoldable pub kind_named : List ℕ → Kind
kind_named w = kind_in worded w

-- how many operands stand behind it, where it is a kind's word
abbrev pub behind_word : List ℕ → Option ℕ
behind_word w = operands_behind (row (kind_named w)).shape

abbrev pub is_none : Option ℕ → Bool
is_none none = true
is_none (some n) = false
