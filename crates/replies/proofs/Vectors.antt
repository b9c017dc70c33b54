-- Worked replies, computed: the number of variables, the reply, and the place of the first byte that fits none; none where it is a reply. Assumes nothing.
use Prim.Native.Nat.{ℕ}
use Prim.Native.String.{String}
use mathlib.Core.Path.{◌≡◌, refl}
use mathlib.Core.Option.{Option, none, some}
use mathlib.Core.List.{List, [], ◌∷◌}
use Rattle.lists.specs.Ascii.{ascii}
use Rattle.smtlib.specs.Characters.{white_space, digit_char}
use Rattle.smtlib.specs.Tokens.{digit_value}
use Rattle.wording.specs.Sixteen.{symbol_text}
use Rattle.grammar.specs.Stops.{stop, derive, may_end, stops}
use Rattle.replies.specs.Replies.{reply_for}

record Vector : Type 0 where
  variables : ℕ
  reply : List ℕ
  place : Option ℕ

abbrev given : ℕ → String → Option ℕ → Vector
given v s o = record { variables = v; reply = ascii s; place = o }

abbrev placed : List Vector → List (Option ℕ)
placed [] = []
placed (v ∷ vs) = stops (reply_for v.variables) 0 v.reply ∷ placed vs

abbrev wanted : List Vector → List (Option ℕ)
wanted [] = []
wanted (v ∷ vs) = v.place ∷ wanted vs

abbrev vectors : List Vector
vectors =
    given 2 "sat ((v0 #x0000) (v1 #x0001))" none
    ∷ given 2 "sat((v0 #x0000)(v1 #x0001))" none
    ∷ given 2 " \n sat\t( ( v0 #xAbCd )(v1\r#b0000000000000001 ) ) \n" none
    ∷ given 1 "sat\r\n((v0 #xFFFF))\r\n" none
    ∷ given 11 "sat((v0 #x0000)(v1 #x0000)(v2 #x0000)(v3 #x0000)(v4 #x0000)(v5 #x0000)(v6 #x0000)(v7 #x0000)(v8 #x0000)(v9 #x0000)(v10 #x0000))" none
    ∷ given 11 "sat((v0 #x0000)(v1 #x0000)(v2 #x0000)(v3 #x0000)(v4 #x0000)(v5 #x0000)(v6 #x0000)(v7 #x0000)(v8 #x0000)(v9 #x0000)(v1 #x0000))" (some 117)
    ∷ given 0 "sat" none
    ∷ given 0 "\t\r\n sat \r\n\t" none
    ∷ given 1 "unsat" none
    ∷ given 2 "unsat\nfoo(" none
    ∷ given 1 "unsat\n(error \"line 9: no model\")\n" none
    -- what fits no reply, and where it stops fitting
    ∷ given 1 "unsatx" (some 5)
    ∷ given 1 "unsat)" (some 5)
    ∷ given 1 "unknown\n" (some 2)
    ∷ given 1 "(sat" (some 0)
    ∷ given 0 "satt" (some 3)
    ∷ given 0 "sat ()" (some 4)
    ∷ given 1 "sat()" (some 4)
    ∷ given 1 "sat ((v1 #x0000))" (some 7)
    ∷ given 1 "sat ((v0#x0000))" (some 8)
    ∷ given 1 "sat ((v0 #x00g0))" (some 13)
    ∷ given 1 "sat ((v0 #x00000))" (some 15)
    ∷ given 1 "sat ((v0 #b0000000000000002))" (some 26)
    ∷ given 1 "sat ((v0 #b00000000000000001))" (some 27)
    ∷ given 1 "sat ((v0 #X0000))" (some 10)
    ∷ given 1 "sat ((v0 #x0000)(v1 #x0000))" (some 16)
    ∷ given 2 "sat ((v0 #x0000))" (some 16)
    ∷ given 1 "sat ((v0 #x0000)) ; x" (some 18)
    ∷ given 1 "sat ; x\n((v0 #x0000))" (some 4)
    -- what stops short
    ∷ given 1 "" (some 0)
    ∷ given 1 "  " (some 2)
    ∷ given 1 "unsa" (some 4)
    ∷ given 1 "sat" (some 3)
    ∷ given 1 "sat ((v0 #x0000)" (some 16)
    ∷ []

pub computed : placed vectors ≡ wanted vectors
unfolding stop derive may_end white_space digit_value digit_char symbol_text
computed = refl
