-- What fits one pattern fits another, or one of a family of patterns, whatever stands before them. Assumes nothing.
use Prim.Native.Nat.{ℕ}
use mathlib.Core.Path.{◌≡◌, refl, subst}
use mathlib.Core.Logic.{inl, inr}
use mathlib.Core.Bool.{Bool, true}
use mathlib.Core.List.{List, [], ◌∷◌, ◌++◌}
use lib.Dec.{eqb}
use borrow.Author.Tests.{eq-eqb}
use Rattle.grammar.specs.Patterns.{Pattern, anything, one, many, either, exact, Fits}

-- ---- these bytes fit

pub record Fit (p : Pattern) (s : List ℕ) : Type 0 where
  pub fit : Fits p s

module _ {p : Pattern} {s : List ℕ} where
  pub fit-one : (t : ℕ → Bool) (c : ℕ) → t c ≡ true → Fit p s → Fit (one t p) (c ∷ s)
  unfolding Fits
  fit-one t c e f = record { fit = record { byte = c; rest = s; split = refl; fits = e; then = f.fit } }

  pub fit_none : (t : ℕ → Bool) → Fit p s → Fit (many t p) s
  unfolding Fits
  fit_none t f = record { fit = record { bytes = []; rest = s; split = refl; fits = tt; then = f.fit } }

pub fit-exact : (w : List ℕ) {p : Pattern} {s : List ℕ} → Fit p s → Fit (exact w p) (w ++ s)
fit-exact [] f = f
fit-exact (c ∷ w) f = fit-one (eqb c) c (eq-eqb c c refl) (fit-exact w f)

-- ---- what fits a fits b

pub record Covered (a b : Pattern) : Type 0 where
  pub covered : (s : List ℕ) → Fits a s → Fits b s

module _ {a b : Pattern} where
  pub cover_one : (t u : ℕ → Bool) → ((c : ℕ) → t c ≡ true → u c ≡ true) → Covered a b → Covered (one t a) (one u b)
  unfolding Fits
  cover_one t u i h = record { covered = λ s f. record { byte = f.byte; rest = f.rest; split = f.split; fits = i f.byte f.fits; then = h.covered f.rest f.then } }

  pub cover-many : (t : ℕ → Bool) → Covered a b → Covered (many t a) (many t b)
  unfolding Fits
  cover-many t h = record { covered = λ s f. record { bytes = f.bytes; rest = f.rest; split = f.split; fits = f.fits; then = h.covered f.rest f.then } }

pub cover-same : {a : Pattern} → Covered a a
cover-same = record { covered = λ s f. f }

pub cover-any : {a : Pattern} → Covered a anything
unfolding Fits
cover-any = record { covered = λ s f. tt }

pub cover-exact : {a b : Pattern} (w : List ℕ) → Covered a b → Covered (exact w a) (exact w b)
cover-exact [] h = h
cover-exact (c ∷ w) h = cover_one (eqb c) (eqb c) (λ d e. e) (cover-exact w h)

pub cover-left : {a : Pattern} (b : Pattern) → Covered a (either a b)
unfolding Fits
cover-left b = record { covered = λ s f. inl f }

pub cover-right : (a : Pattern) {b : Pattern} → Covered b (either a b)
unfolding Fits
cover-right a = record { covered = λ s f. inr f }

pub cover-both : {a b c : Pattern} → Covered a b → Covered b c → Covered a c
cover-both h g = record { covered = λ s f. g.covered s (h.covered s f) }

-- ---- what fits a fits one of a family

abbrev pub Some : {A : Type 0} → (A → Pattern) → List ℕ → Type 0
Some {A} b s = (x : A) × Fits (b x) s

pub record Into {A : Type 0} (a : Pattern) (b : A → Pattern) : Type 0 where
  pub into : (s : List ℕ) → Fits a s → Some b s

module _ {A : Type 0} {a : Pattern} {b : A → Pattern} where
  pub into_one : (t : ℕ → Bool) → Into a b → Into (one t a) (λ x. one t (b x))
  unfolding Fits
  into_one t h = record { into = λ s f. let w = h.into f.rest f.then in (w.0, record { byte = f.byte; rest = f.rest; split = f.split; fits = f.fits; then = w.1 }) }

  pub into-many : (t : ℕ → Bool) → Into a b → Into (many t a) (λ x. many t (b x))
  unfolding Fits
  into-many t h = record { into = λ s f. let w = h.into f.rest f.then in (w.0, record { bytes = f.bytes; rest = f.rest; split = f.split; fits = f.fits; then = w.1 }) }

pub into-exact : {A : Type 0} {a : Pattern} {b : A → Pattern} (w : List ℕ) → Into a b → Into (exact w a) (λ x. exact w (b x))
into-exact [] h = h
into-exact (c ∷ w) h = into_one (eqb c) (into-exact w h)

-- by another name for the family
pub into-by : {A B : Type 0} {a : Pattern} {b : A → Pattern} {e : B → Pattern} (f : A → B) → Into a b → ((x : A) → b x ≡ e (f x)) → Into a e
into-by f h q = record { into = λ s g. let w = h.into s g in (f w.0, subst (λ (p : Pattern). Fits p s) (q w.0) w.1) }

-- one family behind another
pub into-both : {A B : Type 0} {a : Pattern} {b : A → Pattern} {e : A → B → Pattern} → Into a b → ((x : A) → Into (b x) (e x)) → Into a (λ (x : A × B). e x.0 x.1)
into-both h g = record { into = λ s f. let w = h.into s f in let u = (g w.0).into s w.1 in ((w.0, u.0), u.1) }
