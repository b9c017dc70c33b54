-- What the tests of names and of variable records say, in propositions. Assumes nothing.
use Prim.Native.Nat.{ℕ, zero, suc, ◌+◌, ◌-◌, ◌≤◌, ◌<◌}
use mathlib.Core.Path.{◌≡◌, refl, ap, ◌∙◌}
use mathlib.Core.Bool.{false≢true}
use mathlib.Core.List.{List, [], ◌∷◌}
use native.Mathlib.Decide.{dec_lt}
use native.Mathlib.Omega.{arith}
use lib.ListN.{length}
use lib.Signed.{◌≤ℤ◌}
use Rattle.numbers.specs.Bytes.{byte_at, i16_at}
use Rattle.layout.specs.Limits.{variable_bytes, max_offset, name_start, most_name_bytes, name_end, name_field}
use Rattle.layout.specs.Parts.{name_size, zero_byte, name_in}
use Rattle.layout.specs.LaidOut.{VariableLaidOut}
use Rattle.header.proofs.ZeroLaws.{zeros-at, zeros_of}
use Rattle.records.specs.Variables.{is_letter, is_name_byte, all_name_bytes, name_right, variable_right}
use Rattle.records.specs.Names.{Letter, NameByte, Name, VariableRule}
use Rattle.lists.proofs.Decided.{Decides, decides-as, decides_and, decides_or, decides-le, decides_eq}
use Rattle.numbers.proofs.OrderTests.{decides-le_z}

pub letter-decided : (b : ℕ) → Decides (is_letter b) (Letter b)
unfolding is_letter
letter-decided b =
    decides_or (decides_and (decides-le 65 b) (decides-le b 90)) (decides_and (decides-le 97 b) (decides-le b 122))

pub name-byte-decided : (b : ℕ) → Decides (is_name_byte b) (NameByte b)
unfolding is_name_byte
name-byte-decided b =
    decides_or (decides_or (letter-decided b) (decides_and (decides-le 48 b) (decides-le b 57))) (decides_eq b 95)

pub name-bytes-decided : (bs : List ℕ) → Decides (all_name_bytes bs) ((j : ℕ) → j < length bs → NameByte (byte_at bs j))
unfolding all_name_bytes
name-bytes-decided [] = (λ e j l. absurd (omega arith), λ h. refl)
name-bytes-decided (b ∷ bs) =
    decides-as (decides_and (name-byte-decided b) (name-bytes-decided bs)) each (λ h. (h 0 (omega arith), λ j l. h (suc j) (omega arith)))
  where
    each : NameByte b × ((j : ℕ) → j < length bs → NameByte (byte_at bs j)) → (j : ℕ) → j < suc (length bs) → NameByte (byte_at (b ∷ bs) j)
    each h zero l = h.0
    each h (suc j) l = h.1 j (omega arith)

pub name-decided : (l : List ℕ) → Decides (name_right l) (Name l)
unfolding name_right
name-decided [] = (λ e. false≢true e, λ n. absurd n)
name-decided (b ∷ bs) = decides_and (letter-decided b) (name-bytes-decided bs)

module _ (s : List ℕ) (i : ℕ) where
  -- every byte from the name's end to the record's
  abbrev Rest : Type 0
  Rest = (k : ℕ) → i + name_start + name_size s i ≤ k → k < i + variable_bytes → byte_at s k ≡ 0

  rest_at : VariableRule s i → Rest
  rest_at v k m h =
      go (dec_lt k (i + name_end))
    where
      go : Dec (k < i + name_end) → byte_at s k ≡ 0
      go (yes n) =
          let e : k ≡ i + name_start + (k - (i + name_start)) = omega arith in
          ap (byte_at s) e ∙ v.past (k - (i + name_start)) (omega arith) (omega arith)
      go (no n) =
          let e : k ≡ i + (k - i) = omega arith in
          ap (byte_at s) e ∙ v.end (k - i) (omega arith) (omega arith)

  -- the layout that the rules give
  pub laid_out : VariableRule s i → VariableLaidOut s i
  laid_out v = record {
    short = v.short;
    gap = v.gap;
    rest = λ k l. rest_at v (i + name_start + name_size s i + k) (omega arith) (omega (arith, v.short));
  }

  -- and the rules, from the layout and what it leaves open
  pub rule-of : i16_at s i ≤ℤ i16_at s (i + max_offset) → 1 ≤ name_size s i → Name (name_in s i) → VariableLaidOut s i → VariableRule s i
  rule-of order long name v = record {
    order = order;
    long = long;
    short = v.short;
    gap = v.gap;
    name = name;
    past = λ j m h. rest (i + name_start + j) (omega arith) (omega arith);
    end = λ j m h. rest (i + j) (omega (arith, v.short)) (omega arith);
  }
    where
      rest : Rest
      rest k m h =
          let e : k ≡ i + name_start + name_size s i + (k - (i + name_start + name_size s i)) = omega arith in
          ap (byte_at s) e ∙ v.rest (k - (i + name_start + name_size s i)) (omega arith)

  pub variable-decided : Decides (variable_right s i) (VariableRule s i)
  unfolding variable_right
  variable-decided =
      decides-as
      (decides_and
      (decides_and
      (decides_and
      (decides_and
      (decides_and (decides-le_z (i16_at s i) (i16_at s (i + max_offset))) (decides-le 1 (name_size s i)))
      (decides-le (name_size s i) most_name_bytes))
      (decides_eq (zero_byte s i) 0))
      (name-decided (name_in s i)))
      (zeros-at s (i + name_start + name_size s i) (name_field - name_size s i), zeros_of s (i + name_start + name_size s i) (name_field - name_size s i)))
      (λ w. rule-of w.0.0.0.0.0 w.0.0.0.0.1 w.0.1 (record { short = w.0.0.0.1; gap = w.0.0.1; rest = w.1 }))
      (λ v. (((((v.order, v.long), v.short), v.gap), v.name), (laid_out v).rest))
