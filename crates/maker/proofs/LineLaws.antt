-- A variable's line by its words: where they end, and that they give the variable. Assumes nothing.
use Prim.Native.Nat.{ℕ, ◌+◌, ◌≤◌, ◌<◌}
use mathlib.Core.Path.{◌≡◌, refl, ap, subst, ◌∙◌}
use mathlib.Core.Bool.{true}
use mathlib.Core.List.{List, ◌++◌}
use native.Mathlib.Omega.{arith}
use lib.IntN.{ℤ}
use lib.ListN.{length, drop, length-append}
use mir.Syntax.{w16}
use mir.Val.{to_z, of_z}
use mir.Facts.{to_z-of_z}
use Rattle.lists.specs.Ascii.{ascii}
use Rattle.numbers.specs.Decimal.{signed}
use Rattle.numbers.specs.Ranges.{◌⋯◌}
use Rattle.numbers.proofs.Fit.{i16-of-narrow}
use Rattle.meaning.specs.Rule.{Variable}
use Rattle.layout.specs.Limits.{block_bytes, most_variables}
use Rattle.grammar.specs.Words.{word_length}
use Rattle.texts.specs.Texts.{Declarable}
use Rattle.texts.specs.Numbers.{is_number, number_of}
use Rattle.texts.specs.Places.{separates}
use Rattle.texts.proofs.NumberLaws.{number_is, number-of, is-number}
use Rattle.texts.proofs.SpellingLaws.{number-unbroken, name-unbroken}
use Rattle.sheets.specs.Laying.{with_variable}
use Rattle.building.specs.Building.{WordsAt}
use Rattle.building.proofs.WordLaws.{inside, ends, word-is, words-first, words-next}
use Rattle.maker.specs.Lays.{between, variable_between, BetweenReady, line_words, LineLaid}

-- a number passes through the machine as it is
kept : (w : List ℕ) → is_number w ≡ true → to_z w16 (of_z w16 (number_of w)) ≡ number_of w
kept w h = to_z-of_z (i16-of-narrow (is-number w h).0)

pub numbers-kept : {text : List ℕ} {at p q r i size : ℕ} → BetweenReady text at p q r i size → {x y : ℤ} → x ≡ number_of (between text (p + 1) q) → y ≡ number_of (between text (q + 1) r) → (before : List ℕ) {after : List ℕ}
    → after ≡ with_variable i (record { name = between text at p; domain = to_z w16 (of_z w16 x) ⋯ to_z w16 (of_z w16 y) }) before → after ≡ with_variable i (variable_between text at p q r) before
numbers-kept h e d before w = w ∙ rw (e, d, kept _ h.low-number, kept _ h.high-number)

module _ {text : List ℕ} {at : ℕ} (v : Variable) (d : Declarable v) (h : WordsAt text at (line_words v)) where
  abbrev low : List ℕ
  low = signed v.domain.low

  abbrev high : List ℕ
  high = signed v.domain.high

  -- the name, and what stands behind it
  at_name : WordsAt text (at + 4) (v.name ++ (ascii " " ++ (low ++ (ascii " " ++ high))))
  at_name = let e : at + 3 + 1 ≡ at + 4 = omega arith in subst (λ (n : ℕ). WordsAt text n (v.name ++ (ascii " " ++ (low ++ (ascii " " ++ high))))) e (words-next (ascii "var") _ h refl)

  pub name-inside : at + 4 < length text
  name-inside = omega (arith, inside at_name)

  module _ {p : ℕ} (ep : p ≡ at + 4 + word_length separates (drop (at + 4) text)) where
    first-name : WordsAt text (at + 4) v.name
    first-name = words-first v.name _ at_name

    name-ends : p ≡ at + 4 + length v.name
    name-ends = ends first-name (name-unbroken d.name) ep

    name-is : between text (at + 4) p ≡ v.name
    name-is = word-is first-name (name-unbroken d.name) ep

    at_low : WordsAt text (p + 1) (low ++ (ascii " " ++ high))
    at_low = words-next v.name _ at_name name-ends

    pub low-inside : p + 1 < length text
    low-inside = omega (arith, inside at_low)

    module _ {q : ℕ} (eq : q ≡ p + 1 + word_length separates (drop (p + 1) text)) where
      first-low : WordsAt text (p + 1) low
      first-low = words-first low high at_low

      low-ends : q ≡ p + 1 + length low
      low-ends = ends first-low (number-unbroken v.domain.low) eq

      low-is : between text (p + 1) q ≡ low
      low-is = word-is first-low (number-unbroken v.domain.low) eq

      at_high : WordsAt text (q + 1) high
      at_high = words-next low high at_low low-ends

      pub high-inside : q + 1 < length text
      high-inside = omega (arith, inside at_high)

      module _ {r : ℕ} (er : r ≡ q + 1 + word_length separates (drop (q + 1) text)) where
        high-ends : r ≡ q + 1 + length high
        high-ends = ends at_high (number-unbroken v.domain.high) er

        high_is : between text (q + 1) r ≡ high
        high_is = word-is at_high (number-unbroken v.domain.high) er

        pub end-inside : r < length text
        end-inside = omega (arith, high-ends, inside at_high)

        pub between-ready : {i size : ℕ} → i < most_variables → block_bytes ≤ size → BetweenReady text (at + 4) p q r i size
        between-ready f g = record {
          name = omega (arith, name-ends);
          low = omega (arith, low-ends);
          high = omega (arith, high-ends);
          inside = omega (arith, end-inside);
          short = omega (arith, name-ends, d.name.short);
          low-number = ap is_number low-is ∙ number_is d.ends.low;
          high-number = ap is_number high_is ∙ number_is d.ends.high;
          few = f;
          room = g;
        }

        variable-is : variable_between text (at + 4) p q r ≡ v
        variable-is = rw (name-is, low-is, high_is, number-of d.ends.low, number-of d.ends.high)

        pub line-laid : {i : ℕ} {before after : List ℕ} → after ≡ with_variable i (variable_between text (at + 4) p q r) before → LineLaid v at i before (r + 1) after
        line-laid {i} {before} e = record {
          place = omega (arith, name-ends, low-ends, high-ends, length-append v.name (ascii " " ++ (low ++ (ascii " " ++ high))), length-append low (ascii " " ++ high));
          sheet = e ∙ ap (λ (u : Variable). with_variable i u before) variable-is;
        }
