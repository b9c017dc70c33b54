-- The machine of texts made of words: its states are a place and the bytes of the word that has begun. Assumes nothing.
use Prim.Native.Nat.{ℕ}
use mathlib.Core.Path.{◌≡◌, refl, sym, ap, subst, ◌∙◌}
use mathlib.Core.Logic.{◌↔◌, ◌⊎◌, inl, inr, ⊎_elim}
use mathlib.Core.Bool.{Bool, true, false, ◌&&◌, true≢false, false≢true}
use mathlib.Core.Option.{Option, none, some}
use mathlib.Core.List.{List, [], ◌∷◌, ◌++◌, append_assoc, append-nil}
use lib.Dec.{eqb}
use borrow.Author.Tests.{eq-eqb, eqb-true}
use Rattle.grammar.specs.Words.{Without, Onward, Texts, finished, word}
use Rattle.grammar.proofs.MachineLaws.{Reads}
use Rattle.grammar.proofs.PatternLaws.{full, silent}

-- ---- where the first separator stands

module _ (t : ℕ → Bool) where
  -- two lists that are the same have it at the same place
  pub first-same : (u w : List ℕ) {c d : ℕ} {s r : List ℕ} → Without t u → Without t w → t c ≡ true → t d ≡ true → u ++ c ∷ s ≡ w ++ d ∷ r → (u ≡ w) × (c ≡ d) × (s ≡ r)
  first-same [] [] hu hw hc hd e = (refl, cc, cc)
  first-same [] (x ∷ w) {c} hu hw hc hd e = let q : c ≡ x = cc in absurd (true≢false (sym hc ∙ ap t q ∙ hw.0))
  first-same (x ∷ u) [] {c} {d} hu hw hc hd e = let q : d ≡ x = cc in absurd (true≢false (sym hd ∙ ap t q ∙ hu.0))
  first-same (x ∷ u) (y ∷ w) {c} {d} {s} {r} hu hw hc hd e =
      let q : x ≡ y = cc in
      let g : u ++ c ∷ s ≡ w ++ d ∷ r = cc in
      let m = first-same u w hu.1 hw.1 hc hd g in
      ((λ i. q i ∷ m.0 i), m.1, m.2)

  -- where none stands yet, the word goes on
  pub goes_on : (u w : List ℕ) {c d : ℕ} (s r : List ℕ) → Without t u → Without t w → t c ≡ false → t d ≡ true → u ++ c ∷ s ≡ w ++ d ∷ r → (v : List ℕ) × (w ≡ u ++ c ∷ v)
  goes_on [] [] {c} {d} s r hu hw hc hd e = let q : c ≡ d = cc in absurd (false≢true (sym hc ∙ ap t q ∙ hd))
  goes_on [] (x ∷ w) {c} s r hu hw hc hd e = let q : x ≡ c = cc in (w, λ i. q i ∷ w)
  goes_on (x ∷ u) [] {c} {d} s r hu hw hc hd e = let q : d ≡ x = cc in absurd (true≢false (sym hd ∙ ap t q ∙ hu.0))
  goes_on (x ∷ u) (y ∷ w) {c} {d} s r hu hw hc hd e =
      let q : y ≡ x = cc in
      let g : u ++ c ∷ s ≡ w ++ d ∷ r = cc in
      let m = goes_on u w s r hu.1 hw.1 hc hd g in
      (m.0, λ i. q i ∷ m.1 i)

  -- a list without separators has none
  pub has_one : (u w : List ℕ) {d : ℕ} (r : List ℕ) → Without t u → t d ≡ true → u ≡ w ++ d ∷ r → ⊥
  has_one [] [] r hu hd e = full e
  has_one [] (x ∷ w) r hu hd e = full e
  has_one (x ∷ u) [] {d} r hu hd e = let q : d ≡ x = cc in true≢false (sym hd ∙ ap t q ∙ hu.0)
  has_one (x ∷ u) (y ∷ w) {d} r hu hd e = has_one u w r hu.1 hd (let g : u ≡ w ++ d ∷ r = cc in g)

  pub without_more : (u : List ℕ) {c : ℕ} → Without t u → t c ≡ false → Without t (u ++ (c ∷ []))
  without_more [] hu hc = (hc, tt)
  without_more (x ∷ u) hu hc = (hu.0, without_more u hu.1 hc)

-- ---- the machine

module _ {Place : Type 0} (allowed : Place → List ℕ → Option (Onward Place)) (final : Place → Bool) (separates : ℕ → Bool) (begins : Place → List ℕ → Bool) where
  -- what is asked of the words: `begins p u` says whether u begins a word that may stand at p
  pub record Wordly (Live : Place → Type 0) : Type 0 where
    pub separated : {p : Place} {w : List ℕ} {x : Onward Place} → allowed p w ≡ some x → separates x.separator ≡ true
    pub unbroken : {p : Place} → Live p → {w : List ℕ} {x : Onward Place} → allowed p w ≡ some x → Without separates w
    pub begun : (p : Place) (u w : List ℕ) {x : Onward Place} → allowed p (u ++ w) ≡ some x → begins p u ≡ true
    pub extends : {p : Place} → Live p → (u : List ℕ) → begins p u ≡ true → (w : List ℕ) × (x : Onward Place) × (allowed p (u ++ w) ≡ some x)
    pub stays : {p : Place} → Live p → {w : List ℕ} {x : Onward Place} → allowed p w ≡ some x → Live x.place
    pub finishes : {p : Place} → Live p → (s : List ℕ) × Texts allowed final p s

  pub record At : Type 0 where
    pub place : Place
    pub begun : List ℕ

  abbrev pub at : Place → List ℕ → At
  at p u = record { place = p; begun = u }

  -- behind the word u: the separator must be the one that the word asks for
  unfoldable pub behind : Option (Onward Place) → ℕ → Option At
  behind none c = none
  behind (some x) c = elim (eqb x.separator c) [ true ↦ some (at x.place []) | false ↦ none ]

  unfoldable pub step : At → ℕ → Option At
  step q c = elim (separates c) [
    | true ↦ behind (allowed q.place q.begun) c
    | false ↦ elim (begins q.place (q.begun ++ (c ∷ []))) [ true ↦ some (at q.place (q.begun ++ (c ∷ []))) | false ↦ none ]
  ]

  unfoldable pub empty : List ℕ → Bool
  empty [] = true
  empty (c ∷ s) = false

  unfoldable pub accepts : At → Bool
  unfolding empty
  accepts q = final q.place && empty q.begun

  abbrev pub Rest : At → List ℕ → Type 0
  Rest q s = Texts allowed final q.place (q.begun ++ s)

  -- the steps
  pub step-sep : (q : At) (c : ℕ) → separates c ≡ true → step q c ≡ behind (allowed q.place q.begun) c
  unfolding step
  step-sep q c e = rw (e, step)

  pub step-on : (q : At) (c : ℕ) → separates c ≡ false → begins q.place (q.begun ++ (c ∷ [])) ≡ true → step q c ≡ some (at q.place (q.begun ++ (c ∷ [])))
  unfolding step
  step-on q c e h = rw (e, step) (rw (h, step))

  pub step-none : (q : At) (c : ℕ) → separates c ≡ false → begins q.place (q.begun ++ (c ∷ [])) ≡ false → step q c ≡ none
  unfolding step
  step-none q c e h = rw (e, step) (rw (h, step))

  pub behind-yes : (x : Onward Place) (c : ℕ) → x.separator ≡ c → behind (some x) c ≡ some (at x.place [])
  unfolding behind
  behind-yes x c e = rw (eq-eqb x.separator c e, behind)

  module _ {Live : Place → Type 0} (w : Wordly Live) where
    -- a word that has begun can be completed
    pub record Going (q : At) : Type 0 where
      pub live : Live q.place
      pub unbroken : Without separates q.begun
      pub word : (q.begun ≡ []) ⊎ (begins q.place q.begun ≡ true)

    behind-at : (o : Option (Onward Place)) (c : ℕ) {r : At} → behind o c ≡ some r → (x : Onward Place) × (o ≡ some x) × (x.separator ≡ c) × (at x.place [] ≡ r)
    unfolding behind
    behind-at none c e = absurd (silent refl e)
    behind-at (some x) c {r} e = go (eqb x.separator c) refl
      where
        go : (b : Bool) → eqb x.separator c ≡ b → (y : Onward Place) × (some x ≡ some y) × (y.separator ≡ c) × (at y.place [] ≡ r)
        go true h = let d = behind-yes x c (eqb-true x.separator c h) in (x, refl, eqb-true x.separator c h, let q : at x.place [] ≡ r = cc in q)
        go false h = absurd (silent (rw (h, behind)) e)

    -- ---- the end

    no-cons : (u : List ℕ) (c : ℕ) (s : List ℕ) → ◌≡◌ {A = List ℕ} [] (u ++ c ∷ s) → ⊥
    no-cons [] c s e = full e
    no-cons (x ∷ u) c s e = full e

    only_end : {p : Place} {t : List ℕ} → Texts allowed final p t → (u : List ℕ) → Without separates u → t ≡ u → (final p ≡ true) × (u ≡ [])
    only_end (finished h) u n e = (h, sym e)
    only_end (word v x {s} h m) u n e = absurd (has_one separates u v s n (w.separated h) (sym e))

    accepts-at : (q : At) → final q.place ≡ true → q.begun ≡ [] → accepts q ≡ true
    unfolding accepts empty
    accepts-at q h e = rw (h, e)

    at-accepts : (p : Place) (u : List ℕ) → accepts (at p u) ≡ true → (final p ≡ true) × (u ≡ [])
    unfolding accepts empty
    at-accepts p u e = go (final p) u refl e
      where
        go : (b : Bool) (u : List ℕ) → final p ≡ b → b && empty u ≡ true → (final p ≡ true) × (u ≡ [])
        go true [] h e = (h, refl)
        go true (x ∷ u) h e = absurd (false≢true e)
        go false [] h e = absurd (false≢true e)
        go false (x ∷ u) h e = absurd (false≢true e)

    ends_at : (q : At) → Going q → Rest q [] ↔ (accepts q ≡ true)
    ends_at q g = (
      λ m. let n = only_end m q.begun g.unbroken (append-nil q.begun) in accepts-at q n.0 n.1,
      λ e. let n = at-accepts q.place q.begun e in subst (Texts allowed final q.place) (sym n.1 ∙ sym (append-nil q.begun)) (finished n.0),
    )

    -- ---- a byte

    turned : {p : Place} {t : List ℕ} → Live p → Texts allowed final p t → (u : List ℕ) (c : ℕ) (s : List ℕ) → Without separates u → t ≡ u ++ c ∷ s → (r : At) × (step (at p u) c ≡ some r) × Rest r s
    turned l (finished h) u c s n e = absurd (no-cons u c s e)
    turned {p} {t} l (word v x {s = r} h m) u c s n e = go (separates c) refl
      where
        go : (b : Bool) → separates c ≡ b → (r : At) × (step (at p u) c ≡ some r) × Rest r s
        go true q =
            let k = first-same separates v u (w.unbroken l h) n (w.separated h) q e in
            (at x.place [], step-sep (at p u) c q ∙ ap (λ (o : Option (Onward Place)). behind o c) (ap (allowed p) (sym k.0) ∙ h) ∙ behind-yes x c k.1, subst (Texts allowed final x.place) k.2 m)
        go false q =
            let k = goes_on separates u v s r n (w.unbroken l h) q (w.separated h) (sym e) in
            let a : (u ++ (c ∷ [])) ++ k.0 ≡ v = append_assoc u (c ∷ []) k.0 ∙ sym k.1 in
            (at p (u ++ (c ∷ [])), step-on (at p u) c q (w.begun p (u ++ (c ∷ [])) k.0 (ap (allowed p) a ∙ h)), subst (Texts allowed final p) (e ∙ sym (append_assoc u (c ∷ []) s)) (word v x h m))

    back : (q : At) (c : ℕ) (s : List ℕ) {r : At} → step q c ≡ some r → Rest r s → Rest q (c ∷ s)
    back q c s {r} e m = go (separates c) refl
      where
        on : (b : Bool) → separates c ≡ false → begins q.place (q.begun ++ (c ∷ [])) ≡ b → Rest q (c ∷ s)
        on true h k =
            let d : at q.place (q.begun ++ (c ∷ [])) ≡ r = cc (step-on q c h k, e) in
            subst (Texts allowed final q.place) (append_assoc q.begun (c ∷ []) s) (subst (λ (a : At). Rest a s) (sym d) m)
        on false h k = absurd (silent (step-none q c h k) e)

        go : (b : Bool) → separates c ≡ b → Rest q (c ∷ s)
        go true h =
            let k = behind-at (allowed q.place q.begun) c (sym (step-sep q c h) ∙ e) in
            subst (λ (d : ℕ). Texts allowed final q.place (q.begun ++ d ∷ s)) k.2 (word q.begun k.0 k.1 (subst (λ (a : At). Rest a s) (sym k.3) m))
        go false h = on (begins q.place (q.begun ++ (c ∷ []))) h refl

    going : (q : At) → Going q → (c : ℕ) {r : At} → step q c ≡ some r → Going r
    going q g c {r} e = go (separates c) refl
      where
        on : (b : Bool) → separates c ≡ false → begins q.place (q.begun ++ (c ∷ [])) ≡ b → Going r
        on true h k =
            let d : at q.place (q.begun ++ (c ∷ [])) ≡ r = cc (step-on q c h k, e) in
            subst Going d (record { live = g.live; unbroken = without_more separates q.begun g.unbroken h; word = inr k })
        on false h k = absurd (silent (step-none q c h k) e)

        go : (b : Bool) → separates c ≡ b → Going r
        go true h =
            let k = behind-at (allowed q.place q.begun) c (sym (step-sep q c h) ∙ e) in
            subst Going k.3 (record { live = w.stays g.live k.1; unbroken = tt; word = inl refl })
        go false h = on (begins q.place (q.begun ++ (c ∷ []))) h refl

    completed : (q : At) → Going q → (s : List ℕ) × Rest q s
    completed q g = ⊎_elim whole part g.word
      where
        whole : q.begun ≡ [] → (s : List ℕ) × Rest q s
        whole e = let f = w.finishes g.live in (f.0, subst (λ (u : List ℕ). Texts allowed final q.place (u ++ f.0)) (sym e) f.1)

        part : begins q.place q.begun ≡ true → (s : List ℕ) × Rest q s
        part e =
            let k = w.extends g.live q.begun e in
            let f = w.finishes (w.stays g.live k.2) in
            (k.0 ++ k.1.separator ∷ f.0, subst (Texts allowed final q.place) (append_assoc q.begun k.0 (k.1.separator ∷ f.0)) (word (q.begun ++ k.0) k.1 k.2 f.1))

    pub words-read : Reads step accepts Going Rest
    words-read = record {
      ends = λ {q} g. ends_at q g;
      turns = λ {q} g c s. (λ m. turned g.live m q.begun c s g.unbroken refl, λ k. back q c s k.1 k.2);
      stays = λ {q} g c e. going q g c e;
      completes = λ {q} g. completed q g;
    }
