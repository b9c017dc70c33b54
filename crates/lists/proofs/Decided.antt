-- Tests, and the propositions that they decide. Assumes nothing.
use Prim.Native.Nat.{ℕ, ◌≤◌, ◌<◌}
use mathlib.Core.Path.{◌≡◌, refl, sym, ◌∙◌}
use mathlib.Core.Logic.{◌↔◌, ◌⊎◌, inl, inr, ⊎_elim}
use mathlib.Core.Bool.{Bool, true, false, not, ◌&&◌, ◌||◌, true≢false}
use lib.Dec.{eqb, leb}
use borrow.Author.Tests.{eq-eqb, eqb-true, le-leb, leb-true, not-true}
use Rattle.lists.specs.Places.{all_below}
use Rattle.lists.proofs.TestLaws.{both, and, all_true, all_of}

-- the test holds exactly where P does
abbrev pub Decides : Bool → Type 0 → Type 0
Decides t P = (t ≡ true) ↔ P

module _ {t : Bool} {P : Type 0} (d : Decides t P) where
  -- and fails exactly where P does
  pub denied : (t ≡ false) ↔ (P → ⊥)
  denied = (λ e p. true≢false (sym (d.1 p) ∙ e), λ n. go t refl n)
    where
      go : (u : Bool) → t ≡ u → (P → ⊥) → u ≡ false
      go true e n = absurd (n (d.0 e))
      go false e n = refl

  pub decided : Dec P
  decided = go t refl
    where
      go : (u : Bool) → t ≡ u → Dec P
      go true e = yes (d.0 e)
      go false e = no (denied.0 e)

  -- by another proposition
  pub decides-as : {Q : Type 0} → (P → Q) → (Q → P) → Decides t Q
  decides-as f g = (λ e. f (d.0 e), λ q. d.1 (g q))

  pub decides_not : Decides (not t) (P → ⊥)
  decides_not = (λ e. denied.0 (not-true t e), λ n. rw (denied.1 n))

  module _ {u : Bool} {Q : Type 0} (e : Decides u Q) where
    pub decides_and : Decides (t && u) (P × Q)
    decides_and = (λ h. let w = both t u h in (d.0 w.0, e.0 w.1), λ p. and (d.1 p.0) (e.1 p.1))

    pub decides_or : Decides (t || u) (P ⊎ Q)
    decides_or = (λ h. go t refl h, ⊎_elim (λ p. left (d.1 p)) (λ q. right t (e.1 q)))
      where
        go : (v : Bool) → t ≡ v → v || u ≡ true → P ⊎ Q
        go true q h = inl (d.0 q)
        go false q h = inr (e.0 h)

        left : t ≡ true → t || u ≡ true
        left q = rw q

        right : (v : Bool) → u ≡ true → v || u ≡ true
        right true q = refl
        right false q = q

-- what asks nothing
pub always : Decides true (Unit {0})
always = (λ e. tt, λ u. refl)

pub decides-le : (a b : ℕ) → Decides (leb a b) (a ≤ b)
decides-le a b = (leb-true a b, le-leb a b)

pub decides_eq : (a b : ℕ) → Decides (eqb a b) (a ≡ b)
decides_eq a b = (eqb-true a b, eq-eqb a b)

-- at every number below n
pub decides-all : {t : ℕ → Bool} {P : ℕ → Type 0} (n : ℕ) → ((j : ℕ) → Decides (t j) (P j)) → Decides (all_below t n) ((j : ℕ) → j < n → P j)
decides-all {t} n d = (λ h j l. (d j).0 (all_true t n h j l), λ p. all_of t n (λ j l. (d j).1 (p j l)))
