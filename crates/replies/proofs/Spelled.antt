-- Every setting of numbers below 2 ^ 16, and every case of integers of 16 bits, is spelled by some reply: its values as the script writes constants, a blank only between two words. Assumes nothing.
use Prim.Native.Nat.{ℕ, suc, ◌/◌, ◌%◌, ◌<◌}
use mathlib.Core.Path.{◌≡◌, refl, ap₂, subst}
use mathlib.Core.Logic.{◌↔◌}
use mathlib.Core.Bool.{true}
use mathlib.Core.List.{List, [], ◌∷◌, ◌++◌, map}
use native.Mathlib.Omega.{arith}
use lib.Dec.{ltb}
use lib.IntN.{ℤ}
use lib.ListN.{length, length-map}
use borrow.Author.Tests.{ltb-true, lt-ltb}
use Rattle.lists.specs.Ascii.{ascii}
use Rattle.lists.specs.Places.{all_below}
use Rattle.lists.proofs.TestLaws.{all_true}
use Rattle.numbers.specs.Two.{enc, Within}
use Rattle.numbers.proofs.Coding.{enc-lt, decs-encs}
use Rattle.meaning.specs.Rule.{value_in}
use Rattle.smtlib.specs.Characters.{white_space, digit_char}
use Rattle.smtlib.specs.Tokens.{digit_value}
use Rattle.smtlib.proofs.TermLaws.{four_digits, four-number}
use Rattle.wording.specs.Sixteen.{hex_digit, hex_text, symbol_text}
use Rattle.grammar.specs.Patterns.{Pattern, end, one, Fits}
use Rattle.grammar.proofs.FitLaws.{Fit, fit-one, fit_none, fit-exact}
use Rattle.replies.specs.Replies.{value_bits, blanks, mark, pairs, listed}
use Rattle.replies.specs.Says.{Numeral, hexadecimal, number_in, AllSixteen, valued, written, SpellsSetting, SpellsCase}
use Rattle.replies.proofs.ByteLaws.{space}
use Rattle.replies.proofs.NumberLaws.{Small, setting-small, setting-length}

-- ---- the text

-- the pairs from variable i on, and the rest
abbrev pairs_text : ℕ → List ℕ → List ℕ → List ℕ
pairs_text i [] rest = rest
pairs_text i (x ∷ t) rest = 40 ∷ (symbol_text i ++ (32 ∷ (hex_text x ++ (41 ∷ pairs_text (suc i) t rest))))

abbrev list_text : List ℕ → List ℕ
list_text [] = []
list_text (x ∷ t) = 40 ∷ pairs_text 0 (x ∷ t) (41 ∷ [])

abbrev pub reply_text : List ℕ → List ℕ
reply_text t = ascii "sat" ++ list_text t

-- ---- the numerals

abbrev numeral_of : ℕ → Numeral
numeral_of x = hexadecimal (four_digits x)

numbers_of : (t : List ℕ) → Small t → map number_in (map numeral_of t) ≡ t
numbers_of [] a = refl
numbers_of (x ∷ t) a = ap₂ ◌∷◌ (four-number x (ltb-true _ _ a.0)) (numbers_of t a.1)

digit_low : (x : ℕ) → x % 16 < 16
digit_low x = omega arith

digit-is : (x : ℕ) → ltb (x % 16) 16 ≡ true
digit-is x = lt-ltb (x % 16) 16 (digit_low x)

sixteen-all : (t : List ℕ) → AllSixteen (map numeral_of t)
sixteen-all [] = tt
sixteen-all (x ∷ t) = ((refl, (digit-is (x / 4096), (digit-is (x / 256), (digit-is (x / 16), (digit-is x, tt))))), sixteen-all t)

-- ---- the text fits

fit-mark : (c : ℕ) {p : Pattern} {s : List ℕ} → Fit p s → Fit (mark c p) (c ∷ s)
fit-mark c f = fit_none white_space (fit-exact (c ∷ []) f)

fit-end : Fit (blanks end) []
unfolding Fits
fit-end = fit_none white_space (record { fit = refl })

fit-digit : (d : ℕ) {p : Pattern} {s : List ℕ} → d < 16 → Fit p s → Fit (one (valued d) p) (hex_digit d ∷ s)
unfolding digit_value hex_digit digit_char all_below
fit-digit d h f = fit-one (valued d) (hex_digit d) (all_true (λ j. valued j (hex_digit j)) 16 refl d h) f

fit-value : (x : ℕ) {p : Pattern} {s : List ℕ} → Fit p s → Fit (written (numeral_of x) p) (hex_text x ++ s)
unfolding hex_text
fit-value x f = fit-exact (ascii "#x") (fit-digit _ (digit_low (x / 4096)) (fit-digit _ (digit_low (x / 256)) (fit-digit _ (digit_low (x / 16)) (fit-digit _ (digit_low x) f))))

fit-pairs : (i : ℕ) (t : List ℕ) {p : Pattern} {s : List ℕ} → Fit p s → Fit (pairs i (map written (map numeral_of t)) p) (pairs_text i t s)
fit-pairs i [] f = f
fit-pairs i (x ∷ t) f = fit-mark 40 (fit_none white_space (fit-exact (symbol_text i) (fit-one white_space 32 space (fit_none white_space (fit-value x (fit-mark 41 (fit-pairs (suc i) t f)))))))

fit-listed : (t : List ℕ) → Fit (listed (map written (map numeral_of t))) (list_text t)
fit-listed [] = fit-end
fit-listed (x ∷ t) = fit-mark 40 (fit-pairs 0 (x ∷ t) (fit-mark 41 fit-end))

pub spells-setting : (t : List ℕ) → Small t → SpellsSetting (length t) (reply_text t) t
spells-setting t h = record {
  numerals = map numeral_of t;
  each = length-map t numeral_of;
  sixteen = sixteen-all t;
  spelled = (fit_none white_space (fit-exact (ascii "sat") (fit-listed t))).fit;
  numbers = numbers_of t h;
}

-- ---- what can be spelled

-- settings for v symbols are spelled exactly where they have v numbers of 16 bits
pub settings-exactly : (v : ℕ) (t : List ℕ) → ((s : List ℕ) × SpellsSetting v s t) ↔ ((length t ≡ v) × Small t)
settings-exactly v t = (λ x. (setting-length x.1, setting-small x.1), λ h. (reply_text t, subst (λ (n : ℕ). SpellsSetting n (reply_text t) t) h.0 (spells-setting t h.1)))

codes-small : (c : List ℤ) → Small (map (enc value_bits) c)
codes-small [] = tt
codes-small (z ∷ c) = (lt-ltb _ _ (enc-lt value_bits z), codes-small c)

-- every case of integers of 16 bits is spelled
pub spells-case : (c : List ℤ) → ((i : ℕ) → i < length c → Within value_bits (value_in c i)) → (s : List ℕ) × SpellsCase (length c) s c
spells-case c h =
    let t = map (enc value_bits) c in (
      reply_text t,
      record {
        setting = t;
        spelled = subst (λ (n : ℕ). SpellsSetting n (reply_text t) t) (length-map c (enc value_bits)) (spells-setting t (codes-small c));
        case = decs-encs (omega arith) c h;
      },
    )
