-- Worked examples, computed: the place of the first byte that fits no text. Assumes nothing.
use Prim.Native.Nat.{ℕ}
use Prim.Native.String.{String}
use mathlib.Core.Path.{◌≡◌, refl}
use mathlib.Core.Option.{Option, none, some}
use mathlib.Core.List.{List, [], ◌∷◌}
use Rattle.lists.specs.Ascii.{ascii}
use Rattle.lists.specs.Names.{same_bytes}
use Rattle.records.specs.Variables.{is_letter, is_name_byte, all_name_bytes, name_right}
use Rattle.grammar.specs.Stops.{stop}
use Rattle.grammar.proofs.WordLaws.{step, behind, accepts, empty}
use Rattle.texts.specs.Numbers.{is_digit, all_digits, is_decimal, is_number}
use Rattle.texts.specs.WordKinds.{kind_in, kind_named}
use Rattle.texts.specs.Places.{separates, is_plain_name, index_in, is_declared, operands_of, allowed, final, beginning, begins_any, begins_number, begins_name, begins}
use Rattle.texts.proofs.PlaceExactly.{place_of}

-- each text, with its place; none where it is a text
record Vector : Type 0 where
  text : List ℕ
  place : Option ℕ

abbrev given : String → Option ℕ → Vector
given s o = record { text = ascii s; place = o }

abbrev placed : List Vector → List (Option ℕ)
placed [] = []
placed (v ∷ vs) = place_of v.text ∷ placed vs

abbrev wanted : List Vector → List (Option ℕ)
wanted [] = []
wanted (v ∷ vs) = v.place ∷ wanted vs

abbrev vectors : List Vector
vectors =
    given "var not 0 1\ngoal true\n" (some 7)
    ∷ given "var a 0 32768\n" (some 12)
    ∷ given "var a 0 -32769\n" (some 13)
    ∷ given "goal -0\n" (some 6)
    ∷ given "goal 01\n" (some 6)
    ∷ given "goal +1\n" (some 5)
    ∷ given "goal true" (some 9)
    ∷ given "" (some 0)
    ∷ given "var x 0 1\n" (some 10)
    ∷ given "var nota 0 1\ngoal not nob\n" (some 24)
    ∷ given "var nota 0 1\ngoal not not\n" (some 25)
    ∷ given "var abcdefghijklmnopq 0 1\n" (some 20)
    ∷ given "var abcdefghijklmnop 0 1\ngoal abcdefghijklmnop\n" none
    ∷ given "var 1 0 1\n" (some 4)
    ∷ given "goal no\n" (some 7)
    ∷ given "var abc 0 1\ngoal eq abd abc\n" (some 22)
    ∷ given "var abc 0 1\ngoal eq ab abc\n" (some 22)
    ∷ given "var abc 0 1\ngoal eq abcd abc\n" (some 23)
    ∷ given "goal x\n" (some 5)
    ∷ given "goal add 1\n" (some 10)
    ∷ given "goal true \n" (some 9)
    ∷ given "goal  true\n" (some 5)
    ∷ given "goal true\n\n" (some 10)
    ∷ given "var x 0 1\r\n" (some 9)
    ∷ given "vara\n" (some 3)
    ∷ given "goal if true\n" (some 12)
    ∷ given "goal add 1 2\n" none
    ∷ given "var x 5 1\ngoal x\n" none
    ∷ given "var var 0 1\nvar goal -32768 32767\ngoal if lt var goal true eq neg goal 0\n" none
    ∷ given "var x 0 1\nvar x 0 1\ngoal x\n" none
    ∷ given "var a 0 0\nvar b 0 0\nvar c 0 0\nvar d 0 0\nvar e 0 0\nvar f 0 0\nvar g 0 0\nvar h 0 0\nvar i 0 0\nvar j 0 0\nvar k 0 0\nvar l 0 0\nvar m 0 0\nvar n 0 0\nvar o 0 0\nvar p 0 0\nvar q 0 0\ngoal eq q 0\n" none
    ∷ []

pub computed : placed vectors ≡ wanted vectors
unfolding stop step behind accepts empty same_bytes is_letter is_name_byte all_name_bytes name_right is_digit all_digits is_decimal is_number separates kind_in kind_named is_plain_name index_in is_declared operands_of allowed final beginning begins_any begins_number begins_name begins
computed = refl
