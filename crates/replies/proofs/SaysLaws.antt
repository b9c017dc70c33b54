-- A reply is what claims unsat or spells a setting, and nothing else. Assumes nothing.
use Prim.Native.Nat.{ℕ, zero, suc}
use mathlib.Core.Path.{◌≡◌, refl, ap, subst, ◌∙◌}
use mathlib.Core.Logic.{◌↔◌, inl, inr}
use mathlib.Core.List.{List, [], ◌∷◌, map}
use lib.Dec.{eqb, ltb}
use native.Mathlib.Omega.{arith}
use lib.ListN.{length, replicate}
use borrow.Author.Tests.{eq-eqb, eqb-true}
use Rattle.lists.specs.Ascii.{ascii}
use Rattle.smtlib.specs.Characters.{white_space}
use Rattle.smtlib.specs.Tokens.{digit_value}
use Rattle.wording.specs.Sixteen.{symbol_text}
use Rattle.grammar.specs.Patterns.{Pattern, end, one, either, exact, times, All, Fits}
use Rattle.grammar.proofs.FitLaws.{Covered, cover_one, cover-many, cover-same, cover-exact, cover-left, cover-right, cover-both, Some, Into, into_one, into-many, into-exact, into-by, into-both}
use Rattle.replies.specs.Replies.{hex_digits, binary_digits, blanks, mark, digit_to, any_value, pairs, listed, claim, Reply}
use Rattle.replies.specs.Says.{Numeral, hexadecimal, binary, number_in, Sixteen, AllSixteen, valued, digits, written, Says, unsat, sat}

-- ---- what a reply spells

into-digits : {A : Type 0} {a : Pattern} {b : A → Pattern} (ds : List ℕ) → Into a b → Into (digits ds a) (λ x. digits ds (b x))
into-digits [] h = h
into-digits (d ∷ ds) h = into_one (valued d) (into-digits ds h)

into-written : {A : Type 0} {a : Pattern} {b : A → Pattern} (n : Numeral) → Into a b → Into (written n a) (λ x. written n (b x))
into-written (hexadecimal ds) h = into-exact (ascii "#x") (into-digits ds h)
into-written (binary ds) h = into-exact (ascii "#b") (into-digits ds h)

-- before a value
into-pair : {A : Type 0} {a : Pattern} {b : A → Pattern} (i : ℕ) → Into a b →
    Into (mark 40 (blanks (exact (symbol_text i) (one white_space (blanks a))))) (λ x. mark 40 (blanks (exact (symbol_text i) (one white_space (blanks (b x))))))
into-pair i h = into-many white_space (into_one (eqb 40) (into-many white_space (into-exact (symbol_text i) (into_one white_space (into-many white_space h)))))

into-mark : {A : Type 0} {a : Pattern} {b : A → Pattern} (d : ℕ) → Into a b → Into (mark d a) (λ x. mark d (b x))
into-mark d h = into-many white_space (into_one (eqb d) h)

abbrev Digits : ℕ → ℕ → Type 0
Digits base n = (ds : List ℕ) × (length ds ≡ n) × All (λ d. ltb d base) ds

more-digits : (base n : ℕ) (p : Pattern) → Into (times n (digit_to base) p) (λ (x : Digits base n). digits x.0 p) → Into (times (suc n) (digit_to base) p) (λ (x : Digits base (suc n)). digits x.0 p)
unfolding Fits
more-digits base n p h = record {
  into = λ s f.
      let w = h.into f.rest f.then in
      let d = digit_value f.byte in
      ((d ∷ w.0.0, ap suc w.0.1, (f.fits, w.0.2)), record { byte = f.byte; rest = f.rest; split = f.split; fits = eq-eqb d d refl; then = w.1 });
}

into-times : (base n : ℕ) (p : Pattern) → Into (times n (digit_to base) p) (λ (x : Digits base n). digits x.0 p)
into-times base zero p = record { into = λ s f. (([], refl, tt), f) }
into-times base (suc n) p = more-digits base n p (into-times base n p)

abbrev Right : Type 0
Right = (n : Numeral) × Sixteen n

into-value : (p : Pattern) → Into (any_value p) (λ (x : Right). written x.0 p)
unfolding Fits
into-value p = record { into = λ s f. go s f f.then }
  where
    go : (s : List ℕ) (f : Fits (any_value p) s) → Fits (either (exact (ascii "x") (times hex_digits (digit_to 16) p)) (exact (ascii "b") (times binary_digits (digit_to 2) p))) f.rest → Some (λ (x : Right). written x.0 p) s
    go s f (inl g) =
        let w = (into-exact (ascii "x") (into-times 16 hex_digits p)).into f.rest g in
        ((hexadecimal w.0.0, (w.0.1, w.0.2)), record { byte = f.byte; rest = f.rest; split = f.split; fits = f.fits; then = w.1 })
    go s f (inr g) =
        let w = (into-exact (ascii "b") (into-times 2 binary_digits p)).into f.rest g in
        ((binary w.0.0, (w.0.1, w.0.2)), record { byte = f.byte; rest = f.rest; split = f.split; fits = f.fits; then = w.1 })

abbrev Rights : ℕ → Type 0
Rights n = (ns : List Numeral) × (length ns ≡ n) × AllSixteen ns

into-pairs : (n i : ℕ) (p : Pattern) → Into (pairs i (replicate n any_value) p) (λ (x : Rights n). pairs i (map written x.0) p)
into-pairs zero i p = record { into = λ s f. (([], refl, tt), f) }
into-pairs (suc n) i p =
    into-by
    (λ (x : Right × Rights n). (x.0.0 ∷ x.1.0, ap suc x.1.1, (x.0.1, x.1.2)))
    (into-both (into-pair i (into-value _)) (λ x. into-pair i (into-written x.0 (into-mark 41 (into-pairs n (suc i) p)))))
    (λ x. refl)

into-listed : (v : ℕ) → Into (listed (replicate v any_value)) (λ (x : Rights v). listed (map written x.0))
into-listed zero = record { into = λ s f. (([], refl, tt), f) }
into-listed (suc v) = into-by (λ x. x) (into-mark 40 (into-pairs (suc v) 0 (mark 41 (blanks end)))) (λ x. some-listed x.0 x.1)
  where
    some-listed : (ns : List Numeral) → length ns ≡ suc v → mark 40 (pairs 0 (map written ns) (mark 41 (blanks end))) ≡ listed (map written ns)
    some-listed [] e = absurd (let z : zero ≡ suc v = e in omega arith)
    some-listed (n ∷ ns) e = refl

-- ---- and back: what spells a setting is a reply

cover-digits : (base : ℕ) {p q : Pattern} → Covered p q → (ds : List ℕ) → All (λ d. ltb d base) ds → Covered (digits ds p) (times (length ds) (digit_to base) q)
cover-digits base h [] a = h
cover-digits base h (d ∷ ds) a = cover_one (valued d) (digit_to base) (λ c e. ap (λ (k : ℕ). ltb k base) (eqb-true (digit_value c) d e) ∙ a.0) (cover-digits base h ds a.1)

cover-written : {p q : Pattern} → Covered p q → (n : Numeral) → Sixteen n → Covered (written n p) (any_value q)
cover-written {p} {q} h (hexadecimal ds) r =
    cover-exact (ascii "#")
    (cover-both
    (cover-exact (ascii "x") (subst (λ (k : ℕ). Covered (digits ds p) (times k (digit_to 16) q)) r.0 (cover-digits 16 h ds r.1)))
    (cover-left (exact (ascii "b") (times binary_digits (digit_to 2) q))))
cover-written {p} {q} h (binary ds) r =
    cover-exact (ascii "#")
    (cover-both
    (cover-exact (ascii "b") (subst (λ (k : ℕ). Covered (digits ds p) (times k (digit_to 2) q)) r.0 (cover-digits 2 h ds r.1)))
    (cover-right (exact (ascii "x") (times hex_digits (digit_to 16) q))))

cover-mark : {p q : Pattern} (d : ℕ) → Covered p q → Covered (mark d p) (mark d q)
cover-mark d h = cover-many white_space (cover-exact (d ∷ []) h)

cover-pairs : (p : Pattern) (ns : List Numeral) (i : ℕ) → AllSixteen ns → Covered (pairs i (map written ns) p) (pairs i (replicate (length ns) any_value) p)
cover-pairs p [] i a = cover-same
cover-pairs p (n ∷ ns) i a =
    cover-mark 40
    (cover-many white_space
    (cover-exact (symbol_text i)
    (cover_one white_space white_space (λ c e. e)
    (cover-many white_space (cover-written (cover-mark 41 (cover-pairs p ns (suc i) a.1)) n a.0)))))

cover-listed : (ns : List Numeral) → AllSixteen ns → Covered (listed (map written ns)) (listed (replicate (length ns) any_value))
cover-listed [] a = cover-same
cover-listed (n ∷ ns) a = cover-mark 40 (cover-pairs (mark 41 (blanks end)) (n ∷ ns) 0 a)

-- ---- a reply, and what it says

pub reply-says : (v : ℕ) (s : List ℕ) → Reply v s → Says v s
unfolding Fits
reply-says v s f = go f.then
  where
    go : Fits (either (exact (ascii "unsat") claim) (exact (ascii "sat") (listed (replicate v any_value)))) f.rest → Says v s
    go (inl g) = unsat (record { bytes = f.bytes; rest = f.rest; split = f.split; fits = f.fits; then = g })
    go (inr g) =
        let w = (into-exact (ascii "sat") (into-listed v)).into f.rest g in
        sat (map number_in w.0.0) (record {
          numerals = w.0.0;
          each = w.0.1;
          sixteen = w.0.2;
          spelled = record { bytes = f.bytes; rest = f.rest; split = f.split; fits = f.fits; then = w.1 };
          numbers = refl;
        })

pub says-reply : (v : ℕ) (s : List ℕ) → Says v s → Reply v s
says-reply v s (unsat f) = (cover-many white_space (cover-left (exact (ascii "sat") (listed (replicate v any_value))))).covered s f
says-reply v s (sat t x) =
    subst (λ (k : ℕ). Reply k s) x.each
    ((cover-many white_space (cover-both (cover-exact (ascii "sat") (cover-listed x.numerals x.sixteen)) (cover-right (exact (ascii "unsat") claim)))).covered s x.spelled)

-- a reply says something, and each way of saying it is a reply
pub reply-exactly : (v : ℕ) (s : List ℕ) → Reply v s ↔ Says v s
reply-exactly v s = (reply-says v s, says-reply v s)
