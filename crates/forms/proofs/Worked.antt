-- Each theorem of the readings at sheet A, whose scripts are document 01's and item 1's. Assumes nothing.
use Prim.Native.Nat.{ℕ, ◌<◌}
use mathlib.Core.Path.{◌≡◌, refl, ap, ◌∙◌}
use mathlib.Core.Bool.{Bool, true, false, false≢true}
use mathlib.Core.Logic.{◌↔◌}
use mathlib.Core.List.{List, [], ◌∷◌, map}
use mathlib.Core.Option.{some}
use native.Mathlib.Omega.{arith}
use lib.Dec.{lit<, lit≤}
use lib.IntN.{ℤ}
use Rattle.lists.specs.Ascii.{ascii}
use Rattle.numbers.specs.Two.{enc, Within}
use Rattle.numbers.specs.Decimal.{decimal_in, decimal}
use Rattle.numbers.proofs.Bytes16.{narrow_within}
use Rattle.numbers.proofs.NarrowLaws.{in-narrow}
use Rattle.meaning.specs.declared.Sort.TheVariants.{Truth, Integer}
use Rattle.meaning.specs.Tree.{tru, fls, iff, equal, var}
use Rattle.meaning.specs.Value.{value as meant}
use Rattle.meaning.specs.Rule.{Case, value_in}
use Rattle.meaning.specs.Cases.{Failing}
use Rattle.kinds.proofs.RowLaws.{by_rows}
use Rattle.kinds.proofs.ClaimLaws.{Throughout, throughout-parts}
use Rattle.layout.specs.Fold.{of_tree}
use Rattle.layout.specs.Goal.{of_sort}
use Rattle.layout.proofs.Agree.{Alike}
use Rattle.layout.proofs.Example.{rule_a, well_a}
use Rattle.smtlib.specs.Tokens.{Atom, symbol, hexadecimal, binary}
use Rattle.smtlib.specs.Sexps.{Sexp, atom}
use Rattle.smtlib.specs.Values.{bool, bit_vec, bits}
use Rattle.smtlib.specs.Terms.{value}
use Rattle.smtlib.specs.Settings.{environment}
use Rattle.smtlib.specs.Scripts.{Script}
use Rattle.smtlib.specs.Satisfaction.{script_of, Satisfies}
use Rattle.smtlib.proofs.Printing.{print, Printable}
use Rattle.smtlib.proofs.TermLaws.{call1, call2}
use Rattle.smtlib.proofs.SatisfactionLaws.{meets-test}
use Rattle.smtlib.proofs.Running.{script_read}
use Rattle.wording.specs.Sixteen.{hex_digit, hex_text, literal, symbol_text}
use Rattle.wording.specs.Form.{sixteen}
use Rattle.wording.specs.Binary.{in_bits}
use Rattle.wording.specs.Script.{script}
use Rattle.wording.proofs.Worked.{text16}
use Rattle.forms.specs.Width.{WidthHolds}
use Rattle.forms.proofs.Sexps.{term, variable_sexp, asked}
use Rattle.forms.proofs.Spelt.{text-printed, printable}
use Rattle.forms.proofs.Read.{Has, symbol-stands, setting-sorted}
use Rattle.forms.proofs.Forms.{form-read, form-satisfied}
use Rattle.forms.proofs.Sixteen.{constant16, form16}
use Rattle.forms.proofs.Bits.{form-bits}
use Rattle.forms.proofs.MeansTrees.{NoWrap}
use Rattle.forms.proofs.MeansScript.{form-means, held16}
use Rattle.forms.proofs.Back.{term-injective}
use Rattle.forms.proofs.Injective.{script-injective}

-- ---- what SMT-LIB reads, given the width and the constants 0 and 1
abbrev range_in : Atom → Atom → List ℕ → Sexp
range_in low high n = call2 (ascii "and") (call2 (ascii "bvsle") (atom low) (atom (symbol n))) (call2 (ascii "bvsle") (atom (symbol n)) (atom high))

abbrev read_in : ℕ → Atom → Atom → Script
read_in w low high = record {
  declares = record { name = ascii "v0"; sort = bit_vec w } ∷ record { name = ascii "v1"; sort = bit_vec w } ∷ [];
  asserts = range_in low high (ascii "v0") ∷ range_in low high (ascii "v1") ∷ call1 (ascii "not") (call2 (ascii "=") (atom (symbol (ascii "v0"))) (atom (symbol (ascii "v1")))) ∷ [];
}

-- document 01's script and the one that asks for values are read alike; in binary it is so at any width, as at 2
abbrev read_a : Script
read_a = read_in 16 (hexadecimal (0 ∷ 0 ∷ 0 ∷ 0 ∷ [])) (hexadecimal (0 ∷ 0 ∷ 0 ∷ 1 ∷ []))

abbrev read_bits : Script
read_bits = read_in 2 (binary (0 ∷ 0 ∷ [])) (binary (0 ∷ 1 ∷ []))

asked_a : (models : Bool) → asked (form16 models) rule_a ≡ read_a
unfolding form16 of_tree constant16 symbol_text enc
asked_a models = refl

-- by the theorem, and by computation
read-by-law : (models : Bool) → script_of (script (sixteen models) rule_a) ≡ some read_a
read-by-law models = form-read (form16 models) rule_a (lit≤ tt) well_a ∙ ap some (asked_a models)

read-computed : (models : Bool) → script_of (script (sixteen models) rule_a) ≡ some read_a
unfolding script_read script decimal decimal_in of_tree symbol_text literal hex_text hex_digit enc
read-computed true = refl
read-computed false = refl

bits-computed : (models : Bool) → script_of (script (in_bits models 2) rule_a) ≡ some read_bits
unfolding script_read script decimal decimal_in of_tree symbol_text enc
bits-computed true = refl
bits-computed false = refl

bits-by-law : (models : Bool) → script_of (script (in_bits models 2) rule_a) ≡ some (asked (form-bits models 2 (lit≤ tt)) rule_a)
bits-by-law models = form-read (form-bits models 2 (lit≤ tt)) rule_a (lit≤ tt) well_a

module _ (models : Bool) where
  -- (0, 1) satisfies it, and (1, 1) does not
  met_a : Satisfies (script (sixteen models) rule_a) (0 ∷ 1 ∷ [])
  unfolding script_read form16 of_tree constant16 symbol_text enc
  met_a = (form-satisfied (form16 models) rule_a (lit≤ tt) well_a (0 ∷ 1 ∷ [])).1 ((meets-test (asked (form16 models) rule_a) (0 ∷ 1 ∷ [])).1 refl)

  unmet_a : Satisfies (script (sixteen models) rule_a) (1 ∷ 1 ∷ []) → ⊥
  unfolding script_read form16 of_tree constant16 symbol_text enc
  unmet_a k = false≢true ((meets-test (asked (form16 models) rule_a) (1 ∷ 1 ∷ [])).0 ((form-satisfied (form16 models) rule_a (lit≤ tt) well_a (1 ∷ 1 ∷ [])).0 k))

  -- in any setting v1 stands for the second number, and the goal's term has sort Bool
  v1-stands : (m n : ℕ) → value (environment (asked (form16 models) rule_a).declares (m ∷ n ∷ [])) (variable_sexp (form16 models) 1) ≡ bits 16 n
  v1-stands m n = symbol-stands (form16 models) rule_a.variables (lit≤ tt) (m ∷ n ∷ []) refl 1 (lit< tt)

  goal-sorted : (m n : ℕ) → Has (environment (asked (form16 models) rule_a).declares (m ∷ n ∷ [])) bool (term (form16 models) rule_a.goal)
  goal-sorted m n = setting-sorted (form16 models) rule_a.variables (lit≤ tt) (m ∷ n ∷ []) refl rule_a.goal well_a.goal

  -- ---- the other theorems at it
  goal-printed : text16 rule_a.goal ≡ print (term (form16 models) rule_a.goal)
  goal-printed = text-printed (form16 models) rule_a.goal

  goal-printable : Printable (term (form16 models) rule_a.goal)
  goal-printable = printable (form16 models) rule_a.goal

  -- (= A B) of truth values is no (= A B) of integers
  goal-apart : term (form16 models) (iff tru fls) ≡ term (form16 models) rule_a.goal → ⊥
  unfolding Throughout by_rows of_tree
  goal-apart e =
      let d : iff tru fls ≡ equal (var 0) (var 1) = ap (of_sort Truth) (term-injective (form16 models) {t = iff tru fls} {u = rule_a.goal} (tt, ((tt, tt), (tt, tt))) (tt, ((lit< tt, tt), (lit< tt, tt))) e) in
      let z : ◌≡◌ {A = ℕ} 0 1 = cc d in
      omega arith

-- ---- 16 bits hold it, so its script means it and tells it but for its names
value-within : {c : List ℤ} → Case rule_a c → (i : ℕ) → i < 2 → Within 16 (value_in c i)
value-within k i l = narrow_within (in-narrow (well_a.variables i l).ends (k.each i (rw k.all l)))

no_wrap : {c : List ℤ} → Case rule_a c → Throughout (NoWrap 16 (value_in c)) rule_a.goal
unfolding Throughout by_rows meant
no_wrap k = (tt, ((value-within k 0 (lit< tt), tt), (value-within k 1 (lit< tt), tt)))

held_a : WidthHolds 16 rule_a
held_a = held16 well_a (λ c k t p. (throughout-parts (NoWrap 16 (value_in c)) rule_a.goal).0 (no_wrap k) Integer t p)

module _ (models : Bool) where
  means_a : (t : List ℕ) → Satisfies (script (sixteen models) rule_a) t ↔ ((c : List ℤ) × Failing rule_a c × (map (enc 16) c ≡ t))
  means_a t = form-means (form16 models) rule_a (lit≤ tt) well_a held_a t

  alike : Alike rule_a rule_a
  alike = script-injective (form16 models) rule_a rule_a (lit≤ tt) (lit≤ tt) well_a well_a held_a held_a refl
