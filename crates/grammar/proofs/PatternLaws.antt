-- The machine of a pattern reads what fits it. Assumes nothing.
use Prim.Native.Nat.{ℕ}
use mathlib.Core.Path.{◌≡◌, refl, sym, ap, subst, ◌∙◌}
use mathlib.Core.Logic.{◌⊎◌, inl, inr, ⊎_elim}
use mathlib.Core.Bool.{Bool, true, false, ◌||◌, true≢false, false≢true}
use mathlib.Core.Option.{Option, none, some}
use mathlib.Core.List.{List, [], ◌∷◌, ◌++◌}
use native.Mathlib.Omega.{arith}
use Rattle.lists.proofs.FirstLaws.{otherwise-none, otherwise-some}
use Rattle.grammar.specs.Patterns.{Pattern, end, anything, one, many, either, All, OneByte, ManyBytes, Fits}
use Rattle.grammar.specs.Stops.{derive, may_end}
use Rattle.grammar.proofs.Definite.{OneWay, Definite}
use Rattle.grammar.proofs.MachineLaws.{Reads}

-- no list is empty and not
pub full : {c : ℕ} {s : List ℕ} → ◌≡◌ {A = List ℕ} [] (c ∷ s) → ⊥
full e = let z : ◌≡◌ {A = ℕ} 0 1 = cc in omega arith

-- nothing is found and not
pub silent : {A : Type 0} {o : Option A} {x : A} → o ≡ none → o ≡ some x → ⊥
silent e d = let z : ◌≡◌ {A = ℕ} 0 1 = cc in omega arith

pub left-true : (a b : Bool) → a ≡ true → a || b ≡ true
left-true a b e = rw e

pub right-true : (a b : Bool) → b ≡ true → a || b ≡ true
right-true true b e = refl
right-true false b e = e

pub or-true : (a b : Bool) → a || b ≡ true → (a ≡ true) ⊎ (b ≡ true)
or-true true b e = inl refl
or-true false b e = inr e

-- ---- the end

fits-end : (p : Pattern) → Fits p [] → may_end p ≡ true
unfolding Fits may_end
fits-end end h = refl
fits-end anything h = refl
fits-end (one t p) h = absurd (full h.split)
fits-end (many t p) h = fits-end p (subst (Fits p) (sym (last h.bytes h.rest h.split)) h.then)
  where
    last : (b r : List ℕ) → [] ≡ b ++ r → [] ≡ r
    last [] r e = e
    last (c ∷ b) r e = absurd (full e)
fits-end (either p q) (inl h) = left-true (may_end p) (may_end q) (fits-end p h)
fits-end (either p q) (inr h) = right-true (may_end p) (may_end q) (fits-end q h)

end_fits : (p : Pattern) → may_end p ≡ true → Fits p []
unfolding Fits may_end
end_fits end e = refl
end_fits anything e = tt
end_fits (one t p) e = absurd (false≢true e)
end_fits (many t p) e = record { bytes = []; rest = []; split = refl; fits = tt; then = end_fits p e }
end_fits (either p q) e = ⊎_elim (λ h. inl (end_fits p h)) (λ h. inr (end_fits q h)) (or-true (may_end p) (may_end q) e)

-- ---- a byte

-- the pattern behind byte c, and what fits it
abbrev Turn : Pattern → ℕ → List ℕ → Type 0
Turn p c s = (r : Pattern) × (derive p c ≡ some r) × Fits r s

pub derive-one : (t : ℕ → Bool) (p : Pattern) (c : ℕ) → t c ≡ true → derive (one t p) c ≡ some p
unfolding derive
derive-one t p c e = rw (e, derive)

pub derive-many : (t : ℕ → Bool) (p : Pattern) (c : ℕ) → t c ≡ true → derive (many t p) c ≡ some (many t p)
unfolding derive
derive-many t p c e = rw (e, derive)

pub derive-past : (t : ℕ → Bool) (p : Pattern) (c : ℕ) → t c ≡ false → derive (many t p) c ≡ derive p c
unfolding derive
derive-past t p c e = rw (e, derive)

pub derive-off : (t : ℕ → Bool) (p : Pattern) (c : ℕ) → t c ≡ false → derive (one t p) c ≡ none
unfolding derive
derive-off t p c e = rw (e, derive)

same-derived : {o : Option Pattern} {p r : Pattern} → o ≡ some p → o ≡ some r → p ≡ r
same-derived e d = cc

fits-turn : (p : Pattern) → OneWay p → (c : ℕ) (s : List ℕ) → Fits p (c ∷ s) → Turn p c s
unfolding Fits OneWay derive
fits-turn end d c s h = absurd (full (sym h))
fits-turn anything d c s h = (anything, refl, tt)
fits-turn (one t p) d c s h =
    let e : h.byte ≡ c = cc h.split in
    let f : h.rest ≡ s = cc h.split in
    (p, derive-one t p c (ap t (sym e) ∙ h.fits), subst (Fits p) f h.then)
fits-turn (many t p) d c s h = go (t c) refl h.bytes h.rest h.split h.fits h.then (λ f. fits-turn p d.1 c s f)
  where
    go : (b : Bool) → t c ≡ b → (bs r : List ℕ) → c ∷ s ≡ bs ++ r → All t bs → Fits p r → (Fits p (c ∷ s) → Turn p c s) → Turn (many t p) c s
    go true e [] r q a f more = let w = more (subst (Fits p) (sym q) f) in absurd (silent (d.0 c e) w.1)
    go true e (x ∷ bs) r q a f more =
        let y : s ≡ bs ++ r = cc in
        (many t p, derive-many t p c e, record { bytes = bs; rest = r; split = y; fits = a.1; then = f })
    go false e [] r q a f more =
        let w = more (subst (Fits p) (sym q) f) in
        (w.0, derive-past t p c e ∙ w.1, w.2)
    go false e (x ∷ bs) r q a f more =
        let y : x ≡ c = cc in
        absurd (true≢false (sym (ap t (sym y) ∙ a.0) ∙ e))
fits-turn (either p q) d c s (inl h) = let w = fits-turn p d.1 c s h in (w.0, otherwise-some (derive q c) w.1, w.2)
fits-turn (either p q) d c s (inr h) =
    let w = fits-turn q d.2 c s h in
    (w.0, ⊎_elim (λ e. otherwise-none (derive q c) e ∙ w.1) (λ e. absurd (silent e w.1)) (d.0 c), w.2)

turn-fits : (p : Pattern) (c : ℕ) (s : List ℕ) {r : Pattern} → derive p c ≡ some r → Fits r s → Fits p (c ∷ s)
unfolding Fits derive
turn-fits end c s e f = absurd (silent refl e)
turn-fits anything c s e f = tt
turn-fits (one t p) c s {r} e f = go (t c) refl
  where
    go : (b : Bool) → t c ≡ b → OneByte t (Fits p) (c ∷ s)
    go true h = record { byte = c; rest = s; split = refl; fits = h; then = subst (λ (x : Pattern). Fits x s) (same-derived e (derive-one t p c h)) f }
    go false h = absurd (silent (derive-off t p c h) e)
turn-fits (many t p) c s {r} e f = go (t c) refl (λ q. turn-fits p c s q f)
  where
    front : Fits (many t p) s → t c ≡ true → ManyBytes t (Fits p) (c ∷ s)
    front m h = record { bytes = c ∷ m.bytes; rest = m.rest; split = ap (λ (l : List ℕ). c ∷ l) m.split; fits = (h, m.fits); then = m.then }

    go : (b : Bool) → t c ≡ b → (derive p c ≡ some r → Fits p (c ∷ s)) → ManyBytes t (Fits p) (c ∷ s)
    go true h more = front (subst (λ (x : Pattern). Fits x s) (same-derived e (derive-many t p c h)) f) h
    go false h more = record { bytes = []; rest = c ∷ s; split = refl; fits = tt; then = more (sym (derive-past t p c h) ∙ e) }
turn-fits (either p q) c s {r} e f = go (derive p c) refl (λ h. turn-fits p c s h f) (λ h. turn-fits q c s h f)
  where
    go : (o : Option Pattern) → derive p c ≡ o → (derive p c ≡ some r → Fits p (c ∷ s)) → (derive q c ≡ some r → Fits q (c ∷ s)) → Fits p (c ∷ s) ⊎ Fits q (c ∷ s)
    go none h a b = inr (b (sym (otherwise-none (derive q c) h) ∙ e))
    go (some x) h a b = inl (a (h ∙ sym (otherwise-some (derive q c) h) ∙ e))

-- what is left is definite too
stays-one-way : (p : Pattern) → OneWay p → (c : ℕ) {r : Pattern} → derive p c ≡ some r → OneWay r
unfolding OneWay derive
stays-one-way end d c e = absurd (silent refl e)
stays-one-way anything d c {r} e = subst OneWay (same-derived refl e) tt
stays-one-way (one t p) d c {r} e = go (t c) refl
  where
    go : (b : Bool) → t c ≡ b → OneWay r
    go true h = subst OneWay (same-derived (derive-one t p c h) e) d.1
    go false h = absurd (silent (derive-off t p c h) e)
stays-one-way (many t p) d c {r} e = go (t c) refl (λ q. stays-one-way p d.1 c q)
  where
    go : (b : Bool) → t c ≡ b → (derive p c ≡ some r → OneWay r) → OneWay r
    go true h more = subst OneWay (same-derived (derive-many t p c h) e) d
    go false h more = more (sym (derive-past t p c h) ∙ e)
stays-one-way (either p q) d c {r} e = go (derive p c) refl (λ h. stays-one-way p d.1 c h) (λ h. stays-one-way q d.2 c h)
  where
    go : (o : Option Pattern) → derive p c ≡ o → (derive p c ≡ some r → OneWay r) → (derive q c ≡ some r → OneWay r) → OneWay r
    go none h a b = b (sym (otherwise-none (derive q c) h) ∙ e)
    go (some x) h a b = a (h ∙ sym (otherwise-some (derive q c) h) ∙ e)

-- bytes that fit
fitting : (p : Pattern) → OneWay p → (s : List ℕ) × Fits p s
unfolding OneWay Fits
fitting end d = ([], refl)
fitting anything d = ([], tt)
fitting (one t p) d = let w = fitting p d.1 in (d.0.0 ∷ w.0, record { byte = d.0.0; rest = w.0; split = refl; fits = d.0.1; then = w.1 })
fitting (many t p) d = let w = fitting p d.1 in (w.0, record { bytes = []; rest = w.0; split = refl; fits = tt; then = w.1 })
fitting (either p q) d = let w = fitting p d.1 in (w.0, inl w.1)

pub pattern-reads : Reads derive may_end Definite Fits
pattern-reads = record {
  ends = λ {q} d. (fits-end q, end_fits q);
  turns = λ {q} d c s. (fits-turn q d.one_way c s, λ w. turn-fits q c s w.1 w.2);
  stays = λ {q} d c e. record { one_way = stays-one-way q d.one_way c e };
  completes = λ {q} d. fitting q d.one_way;
}
