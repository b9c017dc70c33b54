-- What the reader answers (document 02, item 1): the bytes are a reply, or the place of the first byte that fits none (the length where they stop short).
use Rattle.std.specs.Prelude.{ℕ, Bool, true, false, List, [], ◌∷◌, eqb, Result, Ok, Err}
use Rattle.smtlib.specs.Characters.{white_space}
use Rattle.grammar.specs.Begins.{Leaves}
use Rattle.replies.specs.Replies.{Reply}

abbrev pub Answers : ℕ → List ℕ → Result Unit ℕ → Type 0
Answers v s (Ok _) = Reply v s
Answers v s (Err p) = Leaves (Reply v) s p

-- which of the two a reply is: its first byte that is no blank is that of `sat`
unfoldable pub sat_first : List ℕ → Bool
sat_first [] = false
sat_first (c ∷ s) = elim (white_space c) [ true ↦ sat_first s | false ↦ eqb 115 c ]
