-- Blanks and digits by tests on the byte. Assumes nothing.
use Prim.Native.Nat.{ℕ, ◌+◌, ◌-◌, ◌≤◌, ◌<◌}
use mathlib.Core.Path.{◌≡◌, refl, sym, ◌∙◌}
use mathlib.Core.Logic.{◌⊎◌, inl, inr}
use mathlib.Core.Bool.{Bool, true, false, cond, ◌&&◌, true≢false}
use native.Mathlib.Omega.{arith}
use lib.Dec.{eqb, leb}
use borrow.Author.Tests.{eq-eqb, eqb-true, le-leb, lt-leb}
use Rattle.smtlib.specs.Characters.{among, digit_char, white_space}
use Rattle.smtlib.specs.Tokens.{digit_value}

pub space : white_space 32 ≡ true
unfolding white_space
space = refl

-- a blank is at most 32
pub blank-low : (c : ℕ) → white_space c ≡ true → c ≤ 32
unfolding white_space
blank-low c h = go (eqb c 32) (eqb c 10) (eqb c 9) (eqb c 13) refl refl refl refl h
  where
    go : (p q r s : Bool) → eqb c 32 ≡ p → eqb c 10 ≡ q → eqb c 9 ≡ r → eqb c 13 ≡ s → elim p [ true ↦ true | false ↦ elim q [ true ↦ true | false ↦ elim r [ true ↦ true | false ↦ elim s [ true ↦ true | false ↦ false ] ] ] ] ≡ true → c ≤ 32
    go true q r s a b d e h = let z = eqb-true c 32 a in omega arith
    go false true r s a b d e h = let z = eqb-true c 10 b in omega arith
    go false false true s a b d e h = let z = eqb-true c 9 d in omega arith
    go false false false true a b d e h = let z = eqb-true c 13 e in omega arith
    go false false false false a b d e h = absurd (let z : ◌≡◌ {A = ℕ} 0 1 = cc in omega arith)

pub eqb_turned : (a b : ℕ) → eqb a b ≡ eqb b a
eqb_turned a b = go (eqb a b) refl (eqb b a) refl
  where
    go : (p : Bool) → eqb a b ≡ p → (q : Bool) → eqb b a ≡ q → p ≡ q
    go true e true f = refl
    go false e false f = refl
    go true e false f = absurd (true≢false (sym (eq-eqb b a (sym (eqb-true a b e))) ∙ f))
    go false e true f = absurd (true≢false (sym (eq-eqb a b (sym (eqb-true b a f))) ∙ e))

in-range : (a b c : ℕ) → a ≤ c → c ≤ b → among a b c ≡ true
in-range a b c h k = rw (le-leb a c h, le-leb c b k)

off-range : (a b c : ℕ) → (c < a) ⊎ (b < c) → among a b c ≡ false
off-range a b c (inl h) = rw (lt-leb a c h)
off-range a b c (inr h) = rw (lt-leb c b h) (go (leb a c))
  where
    go : (t : Bool) → t && false ≡ false
    go true = refl
    go false = refl

-- a digit's value by the three tests
abbrev by_tests : Bool → Bool → Bool → ℕ → ℕ
by_tests p q r c = cond p (c - 48) (cond q (c - 87) (cond r (c - 55) 16))

module _ (c : ℕ) where
  tested : {p q r : Bool} → among 48 57 c ≡ p → among 97 102 c ≡ q → among 65 70 c ≡ r → by_tests p q r c ≡ digit_value c
  unfolding digit_value digit_char
  tested a b d = sym (λ i. by_tests (a i) (b i) (d i) c)

  pub digit-decimal : 48 ≤ c → c ≤ 57 → c - 48 ≡ digit_value c
  digit-decimal h k = tested (in-range 48 57 c h k) refl refl

  pub digit-small : 97 ≤ c → c ≤ 102 → c - 97 + 10 ≡ digit_value c
  digit-small h k = (let e : c - 97 + 10 ≡ c - 87 = omega arith in e) ∙ tested (off-range 48 57 c (inr (omega arith))) (in-range 97 102 c h k) refl

  pub digit-capital : 65 ≤ c → c ≤ 70 → c - 65 + 10 ≡ digit_value c
  digit-capital h k = (let e : c - 65 + 10 ≡ c - 55 = omega arith in e) ∙ tested (off-range 48 57 c (inr (omega arith))) (off-range 97 102 c (inl (omega arith))) (in-range 65 70 c h k)

  digit-none : (c < 48) ⊎ (57 < c) → (c < 97) ⊎ (102 < c) → (c < 65) ⊎ (70 < c) → 16 ≡ digit_value c
  digit-none a b d = tested (off-range 48 57 c a) (off-range 97 102 c b) (off-range 65 70 c d)

  pub none_below : c < 48 → 16 ≡ digit_value c
  none_below h = digit-none (inl h) (inl (omega arith)) (inl (omega arith))

  pub none_between : 57 < c → c < 65 → 16 ≡ digit_value c
  none_between h k = digit-none (inr h) (inl (omega arith)) (inl k)

  pub none-behind : 70 < c → c < 97 → 16 ≡ digit_value c
  none-behind h k = digit-none (inr (omega arith)) (inl k) (inr h)

  pub none_above : 102 < c → 16 ≡ digit_value c
  none_above h = digit-none (inr (omega arith)) (inr h) (inr (omega arith))

pub ruleset digit_laws = (digit-decimal, digit-small, digit-capital, none_below, none_between, none-behind, none_above)
