-- A machine that reads a set stops exactly at the place where the bytes leave it. Assumes nothing.
use Prim.Native.Nat.{ℕ, suc, ◌+◌}
use mathlib.Core.Path.{◌≡◌, refl, sym, ap, subst, ◌∙◌}
use mathlib.Core.Logic.{◌↔◌}
use mathlib.Core.Bool.{Bool, true, false, true≢false}
use mathlib.Core.Option.{Option, none, some}
use mathlib.Core.List.{List, [], ◌∷◌, ◌++◌}
use native.Mathlib.Nat.{add-zero, zero-add, add-suc, suc-add}
use native.Mathlib.Omega.{arith}
use Rattle.grammar.specs.Begins.{Begins, Leaves, at_byte, too_short}
use Rattle.grammar.specs.Stops.{stop}
use Rattle.grammar.proofs.BeginLaws.{one_place, no_member}

module _ {State : Type 0} (step : State → ℕ → Option State) (accepts : State → Bool) where
  -- the machine reads sets: `Rest q` is the set of what may stand behind the bytes that led to q.
  -- For each state that is live: whether it may end there, what each byte does, and bytes that complete it
  pub record Reads (Live : State → Type 0) (Rest : State → List ℕ → Type 0) : Type 0 where
    pub ends : {q : State} → Live q → (Rest q [] ↔ (accepts q ≡ true))
    pub turns : {q : State} → Live q → (c : ℕ) (s : List ℕ) → (Rest q (c ∷ s) ↔ ((r : State) × (step q c ≡ some r) × Rest r s))
    pub stays : {q : State} → Live q → (c : ℕ) {r : State} → step q c ≡ some r → Live r
    pub completes : {q : State} → Live q → (rest : List ℕ) × Rest q rest

  -- one turn of a reader
  pub stop-turn : {q r : State} (k c : ℕ) (s : List ℕ) → step q c ≡ some r → stop step accepts q k (c ∷ s) ≡ stop step accepts r (suc k) s
  unfolding stop
  stop-turn k c s e = rw (e, stop)

  pub stop-off : {q : State} (k c : ℕ) (s : List ℕ) → step q c ≡ none → stop step accepts q k (c ∷ s) ≡ some k
  unfolding stop
  stop-off k c s e = rw (e, stop)

  pub stop-end : {q : State} (k : ℕ) → accepts q ≡ true → stop step accepts q k [] ≡ none
  unfolding stop
  stop-end k e = rw (e, stop)

  pub stop-short : {q : State} (k : ℕ) → accepts q ≡ false → stop step accepts q k [] ≡ some k
  unfolding stop
  stop-short k e = rw (e, stop)

  -- two states that do the same at the next byte, or at the end
  pub stop-same : {q r : State} (k c : ℕ) (s : List ℕ) → step q c ≡ step r c → stop step accepts q k (c ∷ s) ≡ stop step accepts r k (c ∷ s)
  unfolding stop
  stop-same k c s e = ap (λ (o : Option State). elim o [ none ↦ some k | some x ↦ stop step accepts x (suc k) s ]) e

  pub end_same : {q r : State} (k : ℕ) → accepts q ≡ accepts r → stop step accepts q k [] ≡ stop step accepts r k []
  unfolding stop
  end_same k e = ap (λ (b : Bool). elim b [ true ↦ none | false ↦ some k ]) e

  module _ {Live : State → Type 0} {Rest : State → List ℕ → Type 0} (w : Reads Live Rest) where
    live-begins : {q : State} → Live q → Begins (Rest q) []
    live-begins l = let m = w.completes l in record { rest = m.0; member = m.1 }

    -- what is said of the bytes behind one byte
    begins-turn : {q r : State} (l : Live q) (c : ℕ) {s : List ℕ} → step q c ≡ some r → Begins (Rest r) s → Begins (Rest q) (c ∷ s)
    begins-turn l c {s} e b = record { rest = b.rest; member = (w.turns l c (s ++ b.rest)).1 (_, e, b.member) }

    same-state : {q r r' : State} {c : ℕ} → step q c ≡ some r → step q c ≡ some r' → r' ≡ r
    same-state e d = cc

    begins-back : {q r : State} (l : Live q) (c : ℕ) {s : List ℕ} → step q c ≡ some r → Begins (Rest q) (c ∷ s) → Begins (Rest r) s
    begins-back l c {s} e b =
        let t = (w.turns l c (s ++ b.rest)).0 b.member in
        record { rest = b.rest; member = subst (λ (x : State). Rest x (s ++ b.rest)) (same-state e t.1) t.2 }

    begins-off : {q : State} (l : Live q) (c : ℕ) {s : List ℕ} → step q c ≡ none → Begins (Rest q) (c ∷ s) → ⊥
    begins-off l c {s} e b =
        let t = (w.turns l c (s ++ b.rest)).0 b.member in
        let d = t.1 in
        let z : ◌≡◌ {A = ℕ} 0 1 = cc in
        omega arith

    leaves-turn : {q r : State} (l : Live q) (c : ℕ) {s : List ℕ} {p : ℕ} → step q c ≡ some r → Leaves (Rest r) s p → Leaves (Rest q) (c ∷ s) (suc p)
    leaves-turn l c {s} e (at_byte p i b n) = at_byte (suc p) (omega arith) (begins-turn l c e b) (λ x. n (begins-back l c e x))
    leaves-turn {q} {r} l c {s} e (too_short b n) = too_short (begins-turn l c e b) (λ m. let t = (w.turns l c s).0 m in n (subst (λ (x : State). Rest x s) (same-state e t.1) t.2))

    -- where the machine accepts, and where it stops
    data Outcome (q : State) (k : ℕ) (s : List ℕ) : Option ℕ → Type 0 where
      member : Rest q s → Outcome q k s none
      leaves : (p : ℕ) → Leaves (Rest q) s p → Outcome q k s (some (k + p))

    outcome-turn : {q r : State} (l : Live q) (k c : ℕ) {s : List ℕ} {o : Option ℕ} → step q c ≡ some r → Outcome r (suc k) s o → Outcome q k (c ∷ s) o
    outcome-turn l k c {s} e (member m) = member ((w.turns l c s).1 (_, e, m))
    outcome-turn {q} l k c {s} e (leaves p h) = subst (λ (n : ℕ). Outcome q k (c ∷ s) (some n)) (add-suc k p ∙ sym (suc-add k p)) (leaves (suc p) (leaves-turn l c e h))

    outcome : (s : List ℕ) (k : ℕ) {q : State} → Live q → Outcome q k s (stop step accepts q k s)
    outcome [] k {q} l = go (accepts q) refl
      where
        go : (b : Bool) → accepts q ≡ b → Outcome q k [] (stop step accepts q k [])
        go true e = rw (stop-end k e) (member ((w.ends l).1 e))
        go false e = rw (stop-short k e) (subst (λ (n : ℕ). Outcome q k [] (some n)) (add-zero k) (leaves 0 (too_short (live-begins l) (λ m. true≢false (sym ((w.ends l).0 m) ∙ e)))))
    outcome (c ∷ s) k {q} l = go (step q c) refl (λ r e. outcome s (suc k) (w.stays l c e))
      where
        go : (o : Option State) → step q c ≡ o → ((r : State) → step q c ≡ some r → Outcome r (suc k) s (stop step accepts r (suc k) s)) → Outcome q k (c ∷ s) (stop step accepts q k (c ∷ s))
        go none e more = rw (stop-off k c s e) (subst (λ (n : ℕ). Outcome q k (c ∷ s) (some n)) (add-zero k) (leaves 0 (at_byte 0 (omega arith) (live-begins l) (begins-off l c e))))
        go (some r) e more = rw (stop-turn k c s e) (outcome-turn l k c e (more r e))

    module _ {q : State} (l : Live q) (s : List ℕ) where
      accepted : {o : Option ℕ} → Outcome q 0 s o → o ≡ none → Rest q s
      accepted (member m) e = m
      accepted (leaves p h) e = absurd (let z : ◌≡◌ {A = ℕ} 0 1 = cc in omega arith)

      stopped : {o : Option ℕ} {p : ℕ} → Outcome q 0 s o → o ≡ some p → Leaves (Rest q) s p
      stopped (member m) e = absurd (let z : ◌≡◌ {A = ℕ} 0 1 = cc in omega arith)
      stopped (leaves p h) e = subst (Leaves (Rest q) s) (let d : 0 + p ≡ _ = cc in sym (zero-add p) ∙ d) h

      -- accepted exactly where the bytes are a member
      pub accepts-exactly : (stop step accepts q 0 s ≡ none) ↔ Rest q s
      accepts-exactly = (λ e. accepted (outcome s 0 l) e, λ m. go m (outcome s 0 l))
        where
          go : {o : Option ℕ} → Rest q s → Outcome q 0 s o → o ≡ none
          go m (member n) = refl
          go m (leaves p h) = absurd (no_member (Rest q) h m)

      -- and stopped at p exactly where they leave the set there
      pub stops-exactly : (p : ℕ) → (stop step accepts q 0 s ≡ some p) ↔ Leaves (Rest q) s p
      stops-exactly p = (λ e. stopped (outcome s 0 l) e, λ h. go h (outcome s 0 l))
        where
          go : {o : Option ℕ} → Leaves (Rest q) s p → Outcome q 0 s o → o ≡ some p
          go h (member m) = absurd (no_member (Rest q) h m)
          go h (leaves j g) = ap some (zero-add j ∙ one_place (Rest q) g h)
