-- The reading of texts, opened so that it computes.
use Prim.Native.Nat.{ℕ}
use Prim.Native.String.{String}
use mathlib.Core.Bool.{Bool, true, false}
use mathlib.Core.List.{List, [], ◌∷◌, ◌++◌, map}
use mathlib.Core.Option.{Option, none, some}
use Rattle.lists.specs.Places.{from}
use Rattle.lists.specs.Ascii.{ascii}
use Rattle.lists.specs.Names.{same_bytes}
use Rattle.lists.specs.Few.{exactly1}
use Rattle.smtlib.specs.Characters.{every, digit_char, letter_char, symbol_char, word_char, line_break, white_space, character, quotable, class_of}
use Rattle.smtlib.specs.Tokens.{reserved_words, digit_value, digits, token_of, step, tokens}
use Rattle.smtlib.specs.Sexps.{Sexp, items, parse, sexps_of}
use Rattle.smtlib.specs.BitVectors.{bit, from_bits, bvnot, bvand, bvor, bvneg, bvadd, bvmul, bvsub, bvult, bvule, bvugt, bvuge, negative, bvslt, bvsle, bvsgt, bvsge}
use Rattle.smtlib.specs.Values.{Value, rejected}
use Rattle.smtlib.specs.Theory.{functions, other_names, function, theory_name}
use Rattle.smtlib.specs.Terms.{atom_value, value, values}
use Rattle.smtlib.specs.Commands.{Declaration, sort_in, commands, command_of}
use Rattle.smtlib.specs.Settings.{sort_size, environment}
use Rattle.smtlib.specs.Scripts.{Script, declarable, formula, well_sorted, gather, sets_logic, start, script_in}
use Rattle.smtlib.specs.Satisfaction.{script_of, all_true}
use Rattle.smtlib.proofs.Tests.{meeting}

-- a list of one term, which has no symbol
abbrev pub closed_term : Option Sexp → Value
closed_term none = rejected
closed_term (some s) = exactly1 rejected (value (λ n. rejected)) (items s)

unfoldable pub term_value : String → Value
unfolding same_bytes every digit_char letter_char symbol_char word_char line_break white_space character quotable class_of reserved_words digit_value digits token_of step tokens parse sexps_of bit from_bits bvnot bvand bvor bvneg bvadd bvmul bvsub bvult bvule bvugt bvuge negative bvslt bvsle bvsgt bvsge functions function atom_value value values
term_value text = closed_term (sexps_of (ascii text))

unfoldable pub script_read : String → Option Script
unfolding term_value other_names theory_name sort_in commands command_of environment declarable formula well_sorted gather sets_logic start script_in script_of all_true
script_read text = script_of (ascii text)

-- every setting, the first symbol's number slowest
abbrev pub each_first : List (List ℕ) → List ℕ → List (List ℕ)
each_first rest [] = []
each_first rest (n ∷ ns) = map (λ s. n ∷ s) rest ++ each_first rest ns

abbrev pub settings : List Declaration → List (List ℕ)
settings [] = [] ∷ []
settings (d ∷ ds) = each_first (settings ds) (from (λ n. n) 0 (sort_size d.sort))

abbrev pub those : (List ℕ → Bool) → List (List ℕ) → List (List ℕ)
those p [] = []
those p (s ∷ l) = elim (p s) [ true ↦ s ∷ those p l | false ↦ those p l ]

-- the settings that satisfy a script; none where it is rejected
abbrev pub answers : Option Script → Option (List (List ℕ))
answers none = none
answers (some p) = some (those (meeting p) (settings p.declares))
