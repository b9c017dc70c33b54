-- Sheet A's script is document 01's 234 bytes, and what it is with models; the text of every kind. Each fact is computed. Assumes nothing.
use Prim.Native.Nat.{ℕ}
use Prim.Native.String.{String}
use mathlib.Core.Path.{◌≡◌, refl, ap}
use mathlib.Core.Bool.{true, false}
use mathlib.Core.List.{List, [], ◌∷◌, ◌++◌, map}
use lib.IntN.{pos, negsuc}
use lib.ListN.{length}
use Rattle.lists.specs.Ascii.{ascii}
use Rattle.numbers.specs.Two.{enc}
use Rattle.numbers.specs.Decimal.{decimal_in, decimal}
use Rattle.meaning.specs.declared.Sort.{Sort}
use Rattle.meaning.specs.declared.Sort.TheVariants.{Truth, Integer}
use Rattle.meaning.specs.Tree.{Tree, tru, fls, neg, conj, disj, implies, iff, equal, less, at_most, const, var, minus, sum, difference, product, ite}
use Rattle.layout.specs.Fold.{of_tree}
use Rattle.layout.proofs.Example.{rule_a}
use Rattle.wording.specs.Text.{text}
use Rattle.wording.specs.Sixteen.{hex_digit, hex_text, literal, symbol_text}
use Rattle.wording.specs.Form.{sixteen}
use Rattle.wording.specs.Script.{script}

-- ---- document 01's column "text": each kind, with numbers and variables at their edges
abbrev pub text16 : {s : Sort} → Tree s → List ℕ
text16 t = text literal symbol_text t

abbrev truths : List (Tree Truth × String)
truths =
    (tru, "true")
    ∷ (fls, "false")
    ∷ (neg tru, "(not true)")
    ∷ (conj tru fls, "(and true false)")
    ∷ (disj tru fls, "(or true false)")
    ∷ (implies tru fls, "(=> true false)")
    ∷ (iff tru fls, "(= true false)")
    ∷ (equal (var 0) (var 1), "(= v0 v1)")
    ∷ (less (var 0) (var 1), "(bvslt v0 v1)")
    ∷ (at_most (var 0) (var 1), "(bvsle v0 v1)")
    ∷ []

abbrev integers : List (Tree Integer × String)
integers =
    (const (pos 0), "#x0000")
    ∷ (const (pos 1), "#x0001")
    ∷ (const (pos 32767), "#x7fff")
    ∷ (const (negsuc 21554), "#xabcd")
    ∷ (var 0, "v0")
    ∷ (var 9, "v9")
    ∷ (var 10, "v10")
    ∷ (var 15, "v15")
    ∷ (minus (var 0), "(bvneg v0)")
    ∷ (sum (var 0) (var 1), "(bvadd v0 v1)")
    ∷ (difference (var 0) (var 1), "(bvsub v0 v1)")
    ∷ (product (var 0) (var 1), "(bvmul v0 v1)")
    ∷ (ite tru (var 0) (var 1), "(ite true v0 v1)")
    ∷ []

truth-texts : map (λ r. text16 r.0) truths ≡ map (λ r. ascii r.1) truths
unfolding of_tree symbol_text
truth-texts = refl

integer-texts : map (λ r. text16 r.0) integers ≡ map (λ r. ascii r.1) integers
unfolding of_tree symbol_text literal hex_text hex_digit enc
integer-texts = refl

-- -1 and -32,768
pub minus_one : text literal symbol_text (const (negsuc 0)) ≡ ascii "#xffff"
unfolding of_tree literal hex_text hex_digit enc
minus_one = refl

pub least : text literal symbol_text (const (negsuc 32767)) ≡ ascii "#x8000"
unfolding of_tree literal hex_text hex_digit enc
least = refl

-- ---- sheet A, without models and with them
abbrev middle_a : List ℕ
middle_a =
    ascii "(set-logic QF_UFBV)\n"
    ++ (ascii "(declare-fun v0 () (_ BitVec 16))\n"
    ++ (ascii "(declare-fun v1 () (_ BitVec 16))\n"
    ++ (ascii "(assert (and (bvsle #x0000 v0) (bvsle v0 #x0001)))\n"
    ++ (ascii "(assert (and (bvsle #x0000 v1) (bvsle v1 #x0001)))\n"
    ++ (ascii "(assert (not (= v0 v1)))\n"
    ++ ascii "(check-sat)\n")))))

pub script_a : script (sixteen false) rule_a ≡ middle_a ++ ascii "(exit)\n"
unfolding script decimal decimal_in of_tree symbol_text literal hex_text hex_digit enc
script_a = refl

pub length_a : length (script (sixteen false) rule_a) ≡ 234
length_a = ap length script_a

pub ask_a : script (sixteen true) rule_a ≡ ascii "(set-option :produce-models true)\n" ++ (middle_a ++ ascii "(get-value (v0 v1))\n(exit)\n")
unfolding script decimal decimal_in of_tree symbol_text literal hex_text hex_digit enc
ask_a = refl

-- ---- no variables: no values are asked for
pub ask-none : script (sixteen true) (record { variables = []; goal = fls }) ≡ ascii "(set-option :produce-models true)\n(set-logic QF_UFBV)\n(assert (not false))\n(check-sat)\n(exit)\n"
unfolding script of_tree
ask-none = refl
