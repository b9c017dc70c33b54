-- The tests of names and of variable records as the code runs them, step by step. Assumes nothing.
use Prim.Native.Nat.{ℕ, suc, ◌+◌, ◌-◌, ◌≤◌, ◌<◌}
use mathlib.Core.Path.{◌≡◌, refl, sym, ◌∙◌}
use mathlib.Core.Bool.{Bool, true, false, not}
use mathlib.Core.List.{List, [], ◌∷◌}
use native.Mathlib.Omega.{arith}
use borrow.Author.Tests.{eq-eqb, le-leb}
use lib.Dec.{eqb}
use lib.ListN.{length, get_or, take, drop}
use lib.Seq.{take_all}
use lib.Pointwise.{pointwise}
use lib.Signed.{le_z}
use Rattle.lists.specs.Places.{all_below}
use Rattle.numbers.specs.Bytes.{i16_at}
use Rattle.layout.specs.Limits.{max_offset, name_start, most_name_bytes, name_field, variable_place}
use Rattle.layout.specs.Parts.{name_size, zero_byte, name_in}
use Rattle.std.specs.List.{list_all}
use Rattle.header.specs.Header.{zeros}
use Rattle.lists.proofs.BelowLaws.{all_pass, all-stop}
use Rattle.lists.specs.Names.{same_bytes}
use Rattle.records.specs.Variables.{is_letter, is_name_byte, all_name_bytes, name_right, variable_right, fresh}
use Rattle.records.specs.Names.{VariableRule}
use Rattle.lists.proofs.Decided.{denied}
use Rattle.records.proofs.NameLaws.{variable-decided}

pub name_bytes_all : (l : List ℕ) → list_all is_name_byte l ≡ all_name_bytes l
unfolding all_name_bytes
name_bytes_all [] = refl
name_bytes_all (b ∷ l) = rw (name_bytes_all l)

-- a letter, and what stands behind it
pub name-started : (l : List ℕ) → 1 ≤ length l → is_letter (get_or l 0 0) ≡ true → list_all is_name_byte (take (length l - 1) (drop 1 l)) ≡ name_right l
unfolding name_right
name-started [] h e = absurd (omega arith)
name-started (b ∷ l) h e = rw (e, take_all (suc (length l) - 1) l (omega arith), name_bytes_all)

pub same_pointwise : (k l : List ℕ) → pointwise eqb k l ≡ same_bytes k l
unfolding same_bytes
same_pointwise [] [] = refl
same_pointwise [] (c ∷ l) = refl
same_pointwise (b ∷ k) [] = refl
same_pointwise (b ∷ k) (c ∷ l) = rw (same_pointwise k l)

-- no variable below m has variable n's name
pub unlike_below : List ℕ → ℕ → ℕ → Bool
unlike_below s n m = all_below (λ k. not (same_bytes (name_in s (variable_place k)) (name_in s (variable_place n)))) m

module _ (s : List ℕ) (n : ℕ) where
  pub fresh-begin : unlike_below s n 0 ≡ true
  unfolding unlike_below all_below
  fresh-begin = refl

  module _ (m : ℕ) {same : Bool} (e : same ≡ same_bytes (name_in s (variable_place m)) (name_in s (variable_place n))) where
    pub fresh-pass : unlike_below s n m ≡ true → same ≡ false → unlike_below s n (m + 1) ≡ true
    unfolding unlike_below
    fresh-pass h d = all_pass _ m h (rw (sym e ∙ d))

    pub fresh-stop : m < n → same ≡ true → fresh s n ≡ false
    unfolding fresh
    fresh-stop h d = all-stop _ n h (rw (sym e ∙ d))

  pub fresh-done : (m : ℕ) → unlike_below s n m ≡ true → m ≡ n → fresh s n ≡ true
  unfolding unlike_below fresh
  fresh-done m h e = rw e at h

module _ (s : List ℕ) (i : ℕ) where
  pub variable-wrong : (VariableRule s i → ⊥) → variable_right s i ≡ false
  variable-wrong = (denied (variable-decided s i)).1

  -- after the other tests only the bytes behind the name are left
  pub variable-left : le_z (i16_at s i) (i16_at s (i + max_offset)) ≡ true → 1 ≤ name_size s i → name_size s i ≤ most_name_bytes → zero_byte s i ≡ 0 → name_right (name_in s i) ≡ true → variable_right s i ≡ zeros s (i + name_start + name_size s i) (name_field - name_size s i)
  unfolding variable_right
  variable-left order long short gap name = rw (order, le-leb _ _ long, le-leb _ _ short, eq-eqb _ _ gap, name)
