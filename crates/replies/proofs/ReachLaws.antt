-- What the reader answers, from where its reading stops. Assumes nothing.
use Prim.Native.Nat.{ℕ}
use mathlib.Core.Path.{◌≡◌, sym, ◌∙◌}
use mathlib.Core.List.{List}
use native.Mathlib.Omega.{arith}
use lib.ListN.{get_or, drop, replicate}
use Rattle.std.specs.Prelude.{Result, Ok, Err}
use Rattle.lists.specs.Ascii.{ascii}
use Rattle.grammar.specs.Patterns.{exact}
use Rattle.grammar.specs.Stops.{derive, may_end, stops}
use Rattle.grammar.proofs.MachineLaws.{accepts-exactly, stops-exactly}
use Rattle.grammar.proofs.PatternLaws.{pattern-reads}
use Rattle.replies.specs.Replies.{blanks, any_value, listed, claim, reply_for}
use Rattle.replies.specs.Answers.{Answers}
use Rattle.replies.specs.Here.{Passes, place_of}
use Rattle.replies.proofs.DefiniteLaws.{definite-for}
use Rattle.replies.proofs.PassLaws.{fork-first, fork-second}

answers : (v : ℕ) (s : List ℕ) (r : Result Unit ℕ) → place_of r ≡ stops (reply_for v) 0 s → Answers v s r
answers v s (Ok _) e = (accepts-exactly derive may_end pattern-reads (definite-for v) s).0 (sym e)
answers v s (Err p) e = (stops-exactly derive may_end pattern-reads (definite-for v) s p).0 (sym e)

module _ (v : ℕ) (r : Result Unit ℕ) {s : List ℕ} {k : ℕ} (x : Passes blanks s 0 (Ok k)) where
  pub reach-unsat : get_or s k 0 ≡ 117 → place_of r ≡ stops (exact (ascii "unsat") claim) k (drop k s) → Answers v s r
  reach-unsat e f = answers v s r (f ∙ sym (x.same _ ∙ fork-first s k 117 _ _ (λ z. omega arith) e))

  pub reach-sat : (get_or s k 0 ≡ 117 → ⊥) → place_of r ≡ stops (exact (ascii "sat") (listed (replicate v any_value))) k (drop k s) → Answers v s r
  reach-sat n f = answers v s r (f ∙ sym (x.same _ ∙ fork-second s k 117 _ _ n))
