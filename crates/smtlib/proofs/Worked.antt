-- One script by way of the laws: its lines are printed and read back, and its settings are known. Assumes nothing.
use Prim.Native.Nat.{ℕ, ◌<◌}
use mathlib.Core.Path.{◌≡◌, refl, sym, ap, ◌∙◌}
use mathlib.Core.Bool.{Bool, true, false, ◌&&◌, false≢true}
use mathlib.Core.List.{List, [], ◌∷◌}
use mathlib.Core.Option.{some}
use lib.Dec.{lit<, lit≤}
use Rattle.lists.proofs.TestLaws.{both}
use Rattle.lists.specs.Ascii.{ascii}
use Rattle.lists.specs.Names.{same_bytes}
use Rattle.lists.specs.First.{and_then}
use Rattle.smtlib.specs.Characters.{every, letter_char, digit_char, symbol_char}
use Rattle.smtlib.specs.Tokens.{symbol, reserved, numeral, hexadecimal, reserved_words}
use Rattle.smtlib.specs.Sexps.{Sexp, atom, nil, cons, sexps_of}
use Rattle.smtlib.specs.BitVectors.{bvslt}
use Rattle.smtlib.specs.Values.{bool, bit_vec, truth, sort_of}
use Rattle.smtlib.specs.Theory.{functions, other_names, function, theory_name}
use Rattle.smtlib.specs.Terms.{value}
use Rattle.smtlib.specs.Settings.{environment}
use Rattle.smtlib.specs.Scripts.{Script, well_sorted, gather, sets_logic, start, script_in}
use Rattle.smtlib.specs.Satisfaction.{script_of, declared, is_true, all_true, Satisfies}
use Rattle.smtlib.proofs.Tests.{well_formed, satisfied_by}
use Rattle.smtlib.specs.Spelling.{digit_byte, Spelled}
use Rattle.smtlib.proofs.Printing.{lines, Listing, lines-sexps}
use Rattle.smtlib.proofs.Spelling.{spelled-symbol, spelled-reserved, spelled-hexadecimal, spelled-numeral}
use Rattle.smtlib.proofs.TermLaws.{value-symbol, value-hexadecimal, value-order}
use Rattle.smtlib.proofs.SortLaws.{sort-term, sort-formula}
use Rattle.smtlib.proofs.CommandLaws.{models_option, declare-read, assert-read, check-read, values-read, exit_read, vector-read, logic-next, models-on, declares-next, asserts-next, asks-next, values-next, exits, sorted-next, fresh-name}
use Rattle.smtlib.proofs.Acceptance.{accepted-sorted}
use Rattle.smtlib.proofs.DigitLaws.{Good, read-good}
use Rattle.smtlib.proofs.Bounds.{Proper, setting-proper}
use Rattle.smtlib.proofs.SatisfactionLaws.{satisfies-read, satisfies-test, rejected-never}
use Rattle.smtlib.proofs.Running.{script_read}

abbrev sym1 : List ℕ → Sexp
sym1 n = atom (symbol n)

abbrev word1 : List ℕ → Sexp
word1 n = atom (reserved n)

-- (bvslt x #xa)
abbrev claim : Sexp
claim = cons (sym1 (ascii "bvslt")) (cons (sym1 (ascii "x")) (cons (atom (hexadecimal (10 ∷ []))) nil))

-- from set-logic to check-sat, and what stands behind it
abbrev asking : Sexp → Sexp
asking s =
    cons (cons (word1 (ascii "set-logic")) (cons (sym1 (ascii "QF_BV")) nil))
    (cons (cons (word1 (ascii "declare-fun")) (cons (sym1 (ascii "x")) (cons nil (cons (cons (word1 (ascii "_")) (cons (sym1 (ascii "BitVec")) (cons (atom (numeral (4 ∷ []))) nil))) nil))))
    (cons (cons (word1 (ascii "assert")) (cons claim nil))
    (cons (cons (word1 (ascii "check-sat")) nil) s)))

abbrev leaving : Sexp
leaving = cons (cons (word1 (ascii "exit")) nil) nil

abbrev sexps : Sexp
sexps = asking leaving

abbrev text : List ℕ
text = ascii "(set-logic QF_BV)\n(declare-fun x () (_ BitVec 4))\n(assert (bvslt x #xa))\n(check-sat)\n(exit)\n"

-- the lines are the bytes
text-lines : text ≡ lines sexps
unfolding digit_byte
text-lines = refl

spelled-x : Spelled (symbol (ascii "x"))
unfolding same_bytes every letter_char digit_char symbol_char reserved_words
spelled-x = spelled-symbol (ascii "x") refl refl

sexps-listing : Listing sexps
unfolding same_bytes every letter_char digit_char symbol_char reserved_words
sexps-listing = (
  (spelled-reserved _ refl refl, (spelled-symbol _ refl refl, tt)),
  (
    (spelled-reserved _ refl refl, (spelled-x, (tt, ((spelled-reserved _ refl refl, (spelled-symbol _ refl refl, (spelled-numeral 4 [] (lit≤ tt) (lit< tt, tt), tt))), tt)))),
    (
      (spelled-reserved _ refl refl, ((spelled-symbol _ refl refl, (spelled-x, (spelled-hexadecimal 10 [] (lit< tt, tt), tt))), tt)),
      ((spelled-reserved _ refl refl, tt), ((spelled-reserved _ refl refl, tt), tt)),
    ),
  ),
)

-- they are read back
text-sexps : sexps_of text ≡ some sexps
text-sexps = ap sexps_of text-lines ∙ lines-sexps sexps sexps-listing

abbrev script : Script
script = record { declares = record { name = ascii "x"; sort = bit_vec 4 } ∷ []; asserts = claim ∷ [] }

-- its term, in every setting
claim-value : (k : ℕ) → value (environment script.declares (k ∷ [])) claim ≡ truth (bvslt 4 k 10)
unfolding same_bytes environment function functions
claim-value k =
    value-order (environment script.declares (k ∷ [])) (ascii "bvslt") (atom (symbol (ascii "x"))) (atom (hexadecimal (10 ∷ []))) refl
    (value-symbol (environment script.declares (k ∷ [])) (ascii "x") refl) (value-hexadecimal (environment script.declares (k ∷ [])) (10 ∷ []))

-- its commands, one by one
asking-read : (models : Bool) (s : Sexp) → start models (asking s) ≡ gather models script.declares (claim ∷ []) true true s
unfolding same_bytes sets_logic theory_name function functions other_names environment
asking-read models s =
    logic-next models _ _ refl
    ∙ declares-next models [] [] false false _ _ (declare-read (ascii "x") _ (vector-read (4 ∷ []) (lit≤ tt))) (fresh-name [] (ascii "x") refl refl refl)
    ∙ asserts-next models script.declares [] false false _ _ (assert-read claim) (sort-formula script.declares claim (0 ∷ []) (lit< tt, tt) (ap sort_of (claim-value 0)))
    ∙ asks-next models script.declares (claim ∷ []) false false _ _ check-read

commands-read : script_in sexps ≡ some script
unfolding script_in
commands-read = asking-read false leaving ∙ exits false script.declares (claim ∷ []) true _ exit_read

-- with its values asked for it is the same script
values-asked : script_in (cons models_option (asking (cons (cons (word1 (ascii "get-value")) (cons (cons (sym1 (ascii "x")) nil) nil)) leaving))) ≡ some script
unfolding same_bytes environment function functions well_sorted
values-asked =
    let x-sort = sort-term script.declares (sym1 (ascii "x")) (0 ∷ []) (lit< tt, tt) (ap sort_of (value-symbol (environment script.declares (0 ∷ [])) (ascii "x") refl)) in
    models-on _
    ∙ asking-read true _
    ∙ values-next script.declares (claim ∷ []) true _ _ (values-read (sym1 (ascii "x")) nil) (sorted-next script.declares (sym1 (ascii "x")) [] x-sort refl)
    ∙ exits true script.declares (claim ∷ []) true _ exit_read

text-script : script_of text ≡ some script
unfolding script_of
text-script = ap (λ o. and_then o script_in) text-sexps ∙ commands-read

-- so its settings are known: the numbers of 4 bits that stand for less than -6
text-settings : (k : ℕ) → k < 16 → bvslt 4 k 10 ≡ true → Satisfies text (k ∷ [])
unfolding all_true
text-settings k h e = (satisfies-read text (k ∷ []) text-script).1 (record { assigns = (h, tt); holds = rw (claim-value k, e) })

settings-text : (k : ℕ) → Satisfies text (k ∷ []) → (k < 16) × (bvslt 4 k 10 ≡ true)
unfolding all_true
settings-text k m =
    let w = (satisfies-read text (k ∷ []) text-script).0 m in
    let t : is_true (value (environment script.declares (k ∷ [])) claim) && true ≡ true = w.holds in
    (w.assigns.0, ap is_true (sym (claim-value k)) ∙ (both (is_true (value (environment script.declares (k ∷ [])) claim)) true t).0)

-- its assertion has sort Bool in each of them
text-sorted : (k : ℕ) → k < 16 → sort_of (value (environment script.declares (k ∷ [])) claim) ≡ some bool
text-sorted k h = (accepted-sorted text text-script (k ∷ []) (h, tt)).0

-- the bit vectors in it have numbers below 2 ^ 4
x-proper : (k : ℕ) → k < 16 → Proper (value (environment script.declares (k ∷ [])) (atom (hexadecimal (10 ∷ []))))
x-proper k h = setting-proper script.declares (k ∷ []) (h, tt) (atom (hexadecimal (10 ∷ []))) text-good.1.1.0.1.0.1.1.0
  where
    text-good : Good sexps
    text-good = read-good text text-sexps

text-declared : declared text ≡ some (record { name = ascii "x"; sort = bit_vec 4 } ∷ [])
unfolding declared script_read
text-declared = refl

-- by the test: 9 stands for -7, and 7 for itself
met : Satisfies text (9 ∷ [])
unfolding satisfied_by script_read
met = (satisfies-test text (9 ∷ [])).1 refl

unmet : Satisfies text (7 ∷ []) → ⊥
unfolding satisfied_by script_read
unmet k = false≢true ((satisfies-test text (7 ∷ [])).0 k)

-- without exit it is rejected, so that no setting satisfies it
abbrev cut : List ℕ
cut = ascii "(set-logic QF_BV)(assert true)(check-sat)"

never : (s : List ℕ) → Satisfies cut s → ⊥
unfolding well_formed script_read
never s = rejected-never cut s refl
