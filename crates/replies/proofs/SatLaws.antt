-- Whether a reply's first word is that of `sat`, and what that tells of a reply. Assumes nothing.
use Prim.Native.Nat.{ℕ, ◌<◌}
use mathlib.Core.Path.{◌≡◌, refl, sym, ap, ◌∙◌}
use mathlib.Core.Logic.{◌↔◌}
use mathlib.Core.Bool.{Bool, true, false, true≢false, false≢true}
use Rattle.std.specs.Prelude.{cond, Option, Some, None, find, not}
use Rattle.std.specs.Option.{option_copied, option_eq}
use Rattle.std.specs.Borrow.{Bor}
use mathlib.Core.List.{List, [], ◌∷◌, ◌++◌, map}
use native.Mathlib.Omega.{arith}
use lib.Dec.{eqb}
use borrow.Author.Tests.{eqb-true}
use Rattle.lists.specs.Ascii.{ascii}
use Rattle.smtlib.specs.Characters.{white_space}
use Rattle.grammar.specs.Patterns.{Pattern, one, exact, All, Fits}
use Rattle.replies.specs.Replies.{listed, claim, Reply}
use Rattle.replies.specs.Says.{Numeral, written, Claims, Spells, SpellsSetting, Says, unsat, sat}
use Rattle.replies.specs.Answers.{sat_first}
use Rattle.replies.proofs.ByteLaws.{blank-low, eqb_turned}
use Rattle.replies.proofs.SaysLaws.{reply-says}

-- ---- the first byte that is no blank

first-skip : (c : ℕ) (r : List ℕ) → white_space c ≡ true → sat_first (c ∷ r) ≡ sat_first r
unfolding sat_first
first-skip c r e = rw (e, sat_first)

first-at : (c : ℕ) (r : List ℕ) → white_space c ≡ false → sat_first (c ∷ r) ≡ eqb 115 c
unfolding sat_first
first-at c r e = rw (e, sat_first)

-- it is the first that is found to be no blank
first-is-found : (s : List ℕ) → sat_first s ≡ elim (find (λ c. not (white_space c)) s) [ None ↦ false | Some c ↦ eqb 115 c ]
unfolding sat_first
first-is-found [] = refl
first-is-found (c ∷ s) = go (white_space c) refl (first-is-found s)
  where
    go : (t : Bool) → white_space c ≡ t → sat_first s ≡ elim (find (λ d. not (white_space d)) s) [ None ↦ false | Some d ↦ eqb 115 d ] → sat_first (c ∷ s) ≡ elim (cond (not t) (Some c) (find (λ d. not (white_space d)) s)) [ None ↦ false | Some d ↦ eqb 115 d ]
    go true e h = first-skip c s e ∙ h
    go false e h = first-at c s e

pub first-found : (s : List ℕ) (o : Option (Bor ℕ)) (r : Bor ℕ) → option_copied o ≡ find (λ c. not (white_space c)) s → r.now ≡ 115 → option_eq {T = Bor ℕ} (λ x y. eqb x.now y.now) o (Some r) ≡ sat_first s
first-found s None r e f = sym (first-is-found s ∙ ap (λ (o : Option ℕ). elim o [ None ↦ false | Some c ↦ eqb 115 c ]) (sym e))
first-found s (Some c) r e f = ap (eqb c.now) f ∙ eqb_turned c.now 115 ∙ sym (first-is-found s ∙ ap (λ (o : Option ℕ). elim o [ None ↦ false | Some d ↦ eqb 115 d ]) (sym e))

-- the first word's first byte
first-is : (a : ℕ) (p : Pattern) (b r : List ℕ) → 32 < a → All white_space b → Fits (one (eqb a) p) r → sat_first (b ++ r) ≡ eqb 115 a
unfolding Fits
first-is a p [] r l h f = ap sat_first f.split ∙ first-at f.byte f.rest (go (white_space f.byte) refl) ∙ ap (eqb 115) (sym q)
  where
    q : a ≡ f.byte
    q = eqb-true a f.byte f.fits

    go : (t : Bool) → white_space f.byte ≡ t → t ≡ false
    go true e = absurd (let k = blank-low f.byte e in let z = eqb-true a f.byte f.fits in omega arith)
    go false e = refl
first-is a p (c ∷ b) r l h f = first-skip c (b ++ r) h.0 ∙ first-is a p b r l h.1 f

spells-first : (ns : List Numeral) (s : List ℕ) → Spells ns s → sat_first s ≡ true
unfolding Fits
spells-first ns s f = ap sat_first f.split ∙ first-is 115 (exact (ascii "at") (listed (map written ns))) f.bytes f.rest (omega arith) f.fits f.then

claims-first : (s : List ℕ) → Claims s → sat_first s ≡ false
unfolding Fits
claims-first s f = ap sat_first f.split ∙ first-is 117 (exact (ascii "nsat") claim) f.bytes f.rest (omega arith) f.fits f.then

-- ---- what is said

abbrev pub Setting : ℕ → List ℕ → Type 0
Setting v s = (t : List ℕ) × SpellsSetting v s t

pub setting-first : {v : ℕ} {s t : List ℕ} → SpellsSetting v s t → sat_first s ≡ true
setting-first {s = s} x = spells-first x.numerals s x.spelled

-- no reply claims unsat and spells a setting
pub not-both : {v : ℕ} {s t : List ℕ} → Claims s → SpellsSetting v s t → ⊥
not-both {s = s} f x = true≢false (sym (setting-first x) ∙ claims-first s f)

said : {v : ℕ} {s : List ℕ} → Says v s → sat_first s ≡ true → Setting v s
said {s = s} (unsat f) e = absurd (false≢true (sym (claims-first s f) ∙ e))
said (sat t x) e = (t, x)

denied : {v : ℕ} {s : List ℕ} → Says v s → sat_first s ≡ false → Claims s
denied (unsat f) e = f
denied (sat t x) e = absurd (true≢false (sym (setting-first x) ∙ e))

-- of a reply: some setting is spelled exactly where the first word is that of `sat`, else unsat is claimed
pub sat-exactly : (v : ℕ) (s : List ℕ) → Reply v s → (sat_first s ≡ true) ↔ Setting v s
sat-exactly v s r = (said (reply-says v s r), λ x. setting-first x.1)

pub unsat-exactly : (v : ℕ) (s : List ℕ) → Reply v s → (sat_first s ≡ false) ↔ Claims s
unsat-exactly v s r = (denied (reply-says v s r), claims-first s)
