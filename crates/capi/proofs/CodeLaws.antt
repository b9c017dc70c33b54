-- The numbers of the C interface tell the answers, and where the returned parts lie. Assumes nothing.
use Prim.Native.Nat.{ℕ, zero, suc, ◌+◌, ◌-◌, ◌*◌, ◌/◌, ◌%◌, ◌^◌, ◌≤◌, ◌<◌}
use mathlib.Core.Path.{◌≡◌, refl, sym, ap, ap₂, ◌∙◌}
use mathlib.Core.List.{List}
use mathlib.Core.Option.{Option, none, some}
use native.Mathlib.Decide.{dec_lt}
use native.Mathlib.Omega.{arith}
use borrow.Author.Tests.{lt-ltb, le-ltb}
use denote.Ref.{Bor}
use lib.ListN.{length}
use Rattle.std.specs.Prelude.{Result, Ok, Err}
use Rattle.refusals.specs.declared.Refused.{Refused}
use Rattle.refusals.specs.Causes.{refusal_of as told_as}
use Rattle.lists.proofs.Decided.{denied, decided}
use Rattle.lists.proofs.PartLaws.{part-size}
use Rattle.refusals.specs.declared.Refusal.{Refusal}
use Rattle.layout.specs.Limits.{block_bytes, name_start, most_nodes, variable_place}
use Rattle.layout.specs.Parts.{variable_count, name_size}
use Rattle.refusals.specs.Said.{said_of}
use Rattle.blocks.specs.Block.{BlockGiven, BlockPart}
use Rattle.blocks.proofs.BlockLaws.{given-decided}
use Rattle.reading.specs.Cascade.{refusal_of}
use Rattle.reading.specs.Name.{NameGiven, NamePart}
use Rattle.reading.proofs.Bounds.{refusal-small}
use Rattle.reading.proofs.NameLaws.{name-decided, given-name}
use Rattle.cases.specs.Tallies.{unless_refused}
use Rattle.capi.specs.Codes.{refusal_code, code_of, said_by, code_said, tellable, read_code, name_code, block_code}

-- ---- a place that 48 bits hold
pub low-place : (place : ℕ) → place < 2 ^ 48 → (place ≡ tellable place) × (place < 2 ^ 48)
low-place place l = (sym (rw (lt-ltb place (2 ^ 48) l)), l)

pub high-place : (place : ℕ) → 2 ^ 48 ≤ place → (2 ^ 48 - 1 ≡ tellable place) × (2 ^ 48 - 1 < 2 ^ 48)
high-place place l = (sym (rw (le-ltb place (2 ^ 48) l)), omega arith)

pub tellable-small : (place : ℕ) → tellable place < 2 ^ 48
tellable-small place = elim (dec_lt place (2 ^ 48)) [ yes l ↦ rw (sym (low-place place l).0) l | no l ↦ rw (sym (high-place place (omega arith)).0) (omega arith) ]

-- ---- what a code says
said-refused : (n p : ℕ) → 1 ≤ n → said_by n p ≡ (some (record { number = n; place = p }), 0)
said-refused zero p h = absurd (omega arith)
said-refused (suc n) p h = refl

-- a refusal of number 1 or more whose place is below 2^48, and an answer below 2^48, are told from the code
pub code-tells : (o : Option Refusal) (n : ℕ) → ((r : Refusal) → o ≡ some r → (1 ≤ r.number) × (r.place < 2 ^ 48)) → (o ≡ none → n < 2 ^ 48) → code_said (code_of o n) ≡ (o, unless_refused o n)
code-tells none n refused answered =
    let h = answered refl in
    let q : n / 2 ^ 48 ≡ 0 = omega arith in
    let m : n % 2 ^ 48 ≡ n = omega arith in
    ap₂ said_by q m
code-tells (some r) n refused answered =
    let h = refused r refl in
    let q : refusal_code r / 2 ^ 48 ≡ r.number = omega (arith, h.1) in
    let m : refusal_code r % 2 ^ 48 ≡ r.place = omega (arith, h.1) in
    ap₂ said_by q m ∙ said-refused r.number r.place h.0

-- ---- read
module _ (s : List ℕ) {a : Result Unit Refused} (e : said_of a ≡ refusal_of most_nodes s) where
  pub accepted-code : a ≡ Ok tt → 0 ≡ read_code most_nodes s
  accepted-code d = ap (λ (o : Option Refusal). code_of o 0) (sym (ap said_of d) ∙ e)

  pub refused-code : {q : Refused} → a ≡ Err q → refusal_code (told_as q) ≡ read_code most_nodes s
  refused-code d = ap (λ (o : Option Refusal). code_of o 0) (sym (ap said_of d) ∙ e)

  pub place-small : {q : Refused} → a ≡ Err q → q.place < most_nodes
  place-small d = (refusal-small s (sym e ∙ ap said_of d)).low-place

nothing : (o : Option Refusal) → unless_refused o 0 ≡ 0
nothing none = refl
nothing (some r) = refl

pub read-tells : (s : List ℕ) → code_said (read_code most_nodes s) ≡ (refusal_of most_nodes s, 0)
read-tells s = code-tells (refusal_of most_nodes s) 0 small (λ e. omega arith) ∙ ap (λ (n : ℕ). (refusal_of most_nodes s, n)) (nothing (refusal_of most_nodes s))
  where
    small : (r : Refusal) → refusal_of most_nodes s ≡ some r → (1 ≤ r.number) × (r.place < 2 ^ 48)
    small r e = let b = refusal-small s e in (b.some_number, omega (arith, b.low-place))

-- ---- name
module _ (s : List ℕ) (i : ℕ) where
  given-code : NameGiven most_nodes s i → name_code most_nodes s i ≡ (variable_place i + name_start) * 65536 + name_size s (variable_place i)
  given-code g = rw (g.0, lt-ltb i (variable_count s) g.1)

  absent-code : (NameGiven most_nodes s i → ⊥) → name_code most_nodes s i ≡ 0
  absent-code f = go (refusal_of most_nodes s) refl
    where
      go : (o : Option Refusal) → refusal_of most_nodes s ≡ o → name_code most_nodes s i ≡ 0
      go none e = rw (e, le-ltb i (variable_count s) (elim (dec_lt i (variable_count s)) [ yes l ↦ absurd (f (e, l)) | no l ↦ omega arith ]))
      go (some r) e = rw e

-- the part that `name` hands back: as long as its size, and where the code says
module _ {sheet part : Bor (List ℕ)} (i : ℕ) (p : NamePart most_nodes sheet i part) where
  given-length : NameGiven most_nodes sheet.now i → length part.now ≡ name_size sheet.now (variable_place i)
  given-length g = part-size (p.given g) (given-name sheet.now i g).inside

  absent-length : (NameGiven most_nodes sheet.now i → ⊥) → length part.now ≡ 0
  absent-length f = part-size (p.absent f) (omega arith)

  pub no_name : length part.now ≡ 0 → 0 ≡ name_code most_nodes sheet.now i
  no_name z = sym (absent-code sheet.now i (λ g. let l = given-name sheet.now i g in omega (arith, given-length g)))

  pub some-name : {place : ℕ} → place ≡ variable_place i → (length part.now ≡ 0 → ⊥) → (place + name_start) * 65536 + length part.now ≡ name_code most_nodes sheet.now i
  some-name {place} e z = go (name-decided sheet.now i)
    where
      go : Dec (NameGiven most_nodes sheet.now i) → (place + name_start) * 65536 + length part.now ≡ name_code most_nodes sheet.now i
      go (yes g) = let c = given-code sheet.now i g in omega (arith, given-length g)
      go (no f) = absurd (z (absent-length f))

  pub name-tells : (length part.now ≡ name_code most_nodes sheet.now i % 65536) × (part.ref_ptr.1 ≡ sheet.ref_ptr.1 + name_code most_nodes sheet.now i / 65536)
  name-tells = go (name-decided sheet.now i)
    where
      go : Dec (NameGiven most_nodes sheet.now i) → (length part.now ≡ name_code most_nodes sheet.now i % 65536) × (part.ref_ptr.1 ≡ sheet.ref_ptr.1 + name_code most_nodes sheet.now i / 65536)
      go (yes g) =
          let c = given-code sheet.now i g in
          let l = given-name sheet.now i g in
          let n = given-length g in
          let w = (p.given g).place in
          (omega arith, omega arith)
      go (no f) =
          let c = absent-code sheet.now i f in
          let n = absent-length f in
          let w = (p.absent f).place in
          (omega arith, omega arith)

-- ---- block: as long as the code says, and where the header file says
module _ {sheet part : Bor (List ℕ)} (k : ℕ) (p : BlockPart sheet k part) where
  pub block-tells : (length part.now ≡ block_code sheet.now k) × (0 < block_code sheet.now k → part.ref_ptr.1 ≡ sheet.ref_ptr.1 + block_bytes * k)
  block-tells = go (decided (given-decided sheet.now k))
    where
      go : Dec (BlockGiven sheet.now k) → (length part.now ≡ block_code sheet.now k) × (0 < block_code sheet.now k → part.ref_ptr.1 ≡ sheet.ref_ptr.1 + block_bytes * k)
      go (yes g) = rw ((given-decided sheet.now k).1 g) (part-size (p.given g) (omega (arith, g.0)), λ h. (p.given g).place)
      go (no f) = rw ((denied (given-decided sheet.now k)).1 f) (part-size (p.absent f) (omega arith), λ h. absurd (omega arith))
