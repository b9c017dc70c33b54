-- A reply spells one setting. Assumes nothing.
use Prim.Native.Nat.{ℕ}
use mathlib.Core.Path.{◌≡◌, refl, sym, ap, subst, ◌∙◌}
use mathlib.Core.List.{List, [], ◌∷◌, map}
use native.Mathlib.Omega.{arith}
use lib.Dec.{eqb}
use lib.ListN.{length}
use borrow.Author.Tests.{eqb-true}
use Rattle.smtlib.specs.Tokens.{digit_value}
use Rattle.grammar.specs.Patterns.{Pattern, anything, one, Fits}
use Rattle.grammar.proofs.PatternLaws.{full}
use Rattle.replies.specs.Says.{Numeral, hexadecimal, binary, number_in, Sixteen, AllSixteen, digits, Spells, SpellsSetting}
use Rattle.replies.proofs.HashLaws.{behind_hash, Hashes, no_more, other, hash, spells-hashes}

digits_same : (ds es : List ℕ) (s : List ℕ) → length ds ≡ length es → Fits (digits ds anything) s → Fits (digits es anything) s → ds ≡ es
unfolding Fits
digits_same [] [] s e f g = refl
digits_same [] (d ∷ es) s e f g = absurd (omega arith)
digits_same (d ∷ ds) [] s e f g = absurd (omega arith)
digits_same (d ∷ ds) (c ∷ es) s e f g =
    let q : f.byte ≡ g.byte = cc (f.split, g.split) in
    let r : g.rest ≡ f.rest = cc (f.split, g.split) in
    let x : d ≡ c = sym (eqb-true (digit_value f.byte) d f.fits) ∙ ap digit_value q ∙ eqb-true (digit_value g.byte) c g.fits in
    let y = digits_same ds es f.rest (omega arith) f.then (subst (Fits (digits es anything)) r g.then) in
    λ i. x i ∷ y i

behind-same : (d c : ℕ) (p q : Pattern) (s : List ℕ) → Fits (one (eqb d) p) s → Fits (one (eqb c) q) s → (d ≡ c) × ((r : List ℕ) × Fits p r × Fits q r)
unfolding Fits
behind-same d c p q s f g =
    let e : f.byte ≡ g.byte = cc (f.split, g.split) in
    let r : g.rest ≡ f.rest = cc (f.split, g.split) in
    (eqb-true d f.byte f.fits ∙ e ∙ sym (eqb-true c g.byte g.fits), (f.rest, f.then, subst (Fits q) r g.then))

numeral-same : (n m : Numeral) (s : List ℕ) → Sixteen n → Sixteen m → Fits (behind_hash n) s → Fits (behind_hash m) s → n ≡ m
numeral-same (hexadecimal ds) (hexadecimal es) s a b f g = let w = behind-same 120 120 (digits ds anything) (digits es anything) s f g in ap hexadecimal (digits_same ds es w.1.0 (a.0 ∙ sym b.0) w.1.1 w.1.2)
numeral-same (hexadecimal ds) (binary es) s a b f g = absurd (let w = behind-same 120 98 (digits ds anything) (digits es anything) s f g in let q = w.0 in omega arith)
numeral-same (binary ds) (hexadecimal es) s a b f g = absurd (let w = behind-same 98 120 (digits ds anything) (digits es anything) s f g in let q = w.0 in omega arith)
numeral-same (binary ds) (binary es) s a b f g = let w = behind-same 98 98 (digits ds anything) (digits es anything) s f g in ap binary (digits_same ds es w.1.0 (a.0 ∙ sym b.0) w.1.1 w.1.2)

hashes-same : {ns ms : List Numeral} {s t : List ℕ} → AllSixteen ns → AllSixteen ms → Hashes ns s → Hashes ms t → s ≡ t → ns ≡ ms
hashes-same a b no_more no_more e = refl
hashes-same a b no_more (other c n h) e = absurd (full e)
hashes-same a b no_more (hash n f h) e = absurd (full e)
hashes-same a b (other c n h) no_more e = absurd (full (sym e))
hashes-same a b (other {ns} {s} c n h) (other {ns = ms} {s = t} d m g) e = hashes-same a b h g (let q : s ≡ t = cc in q)
hashes-same a b (other c n h) (hash m f g) e = absurd (n (let q : c ≡ 35 = cc in q))
hashes-same a b (hash n f h) no_more e = absurd (full (sym e))
hashes-same a b (hash n f h) (other d m g) e = absurd (m (let q : d ≡ 35 = cc in q))
hashes-same a b (hash {ns} {s} n f h) (hash {ns = ms} {s = t} m g k) e =
    let q : t ≡ s = cc in
    let x = numeral-same n m s a.0 b.0 f (subst (Fits (behind_hash m)) q g) in
    let y = hashes-same a.1 b.1 h k (sym q) in
    λ i. x i ∷ y i

-- the numerals that a reply spells are one list
pub one-spelling : (ns ms : List Numeral) (s : List ℕ) → AllSixteen ns → AllSixteen ms → Spells ns s → Spells ms s → ns ≡ ms
one-spelling ns ms s a b f g = hashes-same a b (spells-hashes ns s a f) (spells-hashes ms s b g) refl

pub one-setting : {v : ℕ} {s t u : List ℕ} → SpellsSetting v s t → SpellsSetting v s u → t ≡ u
one-setting {v} {s} x y = sym x.numbers ∙ ap (map number_in) (one-spelling x.numerals y.numerals s x.sixteen y.sixteen x.spelled y.spelled) ∙ y.numbers
