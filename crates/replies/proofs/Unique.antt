-- No second answer fits what is promised of the reader, and no reply says two things. Assumes nothing.
use Prim.Native.Nat.{ℕ}
use mathlib.Core.Path.{◌≡◌, refl, sym, ap, ◌∙◌}
use mathlib.Core.List.{List, map}
use lib.IntN.{ℤ}
use Rattle.std.specs.Prelude.{Result, Ok, Err}
use Rattle.numbers.specs.Two.{dec}
use Rattle.grammar.proofs.BeginLaws.{no_member, one_place}
use Rattle.replies.specs.Replies.{value_bits, Reply}
use Rattle.replies.specs.Says.{SpellsCase}
use Rattle.replies.specs.Answers.{Answers}
use Rattle.replies.proofs.OnceLaws.{one-setting}

pub reach-once : (v : ℕ) (s : List ℕ) (r t : Result Unit ℕ) → Answers v s r → Answers v s t → r ≡ t
reach-once v s (Ok _) (Ok _) a b = refl
reach-once v s (Ok _) (Err q) a b = absurd (no_member (Reply v) b a)
reach-once v s (Err p) (Ok _) a b = absurd (no_member (Reply v) a b)
reach-once v s (Err p) (Err q) a b = ap Err (one_place (Reply v) a b)

pub one-case : {v : ℕ} {s : List ℕ} {c d : List ℤ} → SpellsCase v s c → SpellsCase v s d → c ≡ d
one-case x y = sym x.case ∙ ap (map (dec value_bits)) (one-setting x.spelled y.spelled) ∙ y.case
