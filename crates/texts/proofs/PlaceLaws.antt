-- The places of a plain text keep what is asked of texts made of words. Assumes nothing.
use Prim.Native.Nat.{ℕ, zero, suc, ◌+◌}
use mathlib.Core.Path.{◌≡◌, refl, sym, ap, subst, ◌∙◌}
use mathlib.Core.Logic.{◌⊎◌, inl, inr, ⊎_elim}
use mathlib.Core.Bool.{Bool, true, false, ◌||◌, false≢true}
use mathlib.Core.Option.{Option, none, some}
use mathlib.Core.List.{List, [], ◌∷◌, ◌++◌, append-nil}
use native.Mathlib.Nat.{zero-add}
use lib.Dec.{leb}
use lib.ListN.{length}
use borrow.Author.Tests.{leb-true}
use Rattle.lists.specs.Ascii.{ascii}
use Rattle.lists.specs.Names.{same_bytes}
use Rattle.lists.proofs.TestLaws.{both}
use Rattle.lists.proofs.NameLaws.{same-decided}
use Rattle.layout.specs.Limits.{most_name_bytes}
use Rattle.records.specs.Variables.{is_letter, is_name_byte, all_name_bytes, name_right}
use Rattle.grammar.specs.Words.{Without, Onward, Texts, finished, word}
use Rattle.grammar.proofs.PatternLaws.{silent, left-true, right-true, or-true}
use Rattle.grammar.proofs.WordLaws.{Wordly}
use Rattle.texts.specs.Numbers.{is_digit, all_digits, is_decimal, is_number}
use Rattle.texts.specs.WordKinds.{worded, kind_in, kind_named, behind_word}
use Rattle.texts.specs.Places.{separates, is_plain_name, is_declared, or_none, operands_of, Place, line, named, least, most, operand, done, onward, pending, allowed, final, beginning, begins_any, plain_words, begins_number, begins_name, begins}
use Rattle.texts.proofs.PrefixLaws.{beginning-of, beginning-rest, every_of, listed-test, every_more, listed-begins, begins-listed, declared-listed, listed-declared, known-listed, listed-known}
use Rattle.texts.proofs.ByteLaws.{plain-name-decided, name-without, number-without, name-begun, number-begun, number-extends, zero_number}

-- ---- the words

word-names : every_of name_right (plain_words worded) ≡ true
unfolding every_of name_right all_name_bytes is_name_byte is_letter
word-names = refl

-- a name that goes on behind a word
longer : List ℕ → Bool
longer w = is_plain_name (w ++ ascii "q")

longer-words : every_of longer (plain_words worded) ≡ true
unfolding every_of longer is_plain_name name_right all_name_bytes is_name_byte is_letter kind_named kind_in same_bytes
longer-words = refl

-- ---- which words stand in an expression

three : (o : Option ℕ) (b c : Bool) {k : ℕ} → elim o [ some n ↦ some n | none ↦ or_none (b || c) ] ≡ some k → (o ≡ some k) ⊎ ((b ≡ true) ⊎ (c ≡ true))
three (some n) b c e = inl e
three none true c e = inr (inl refl)
three none false true e = inr (inr refl)
three none false false e = absurd (silent refl e)

pub operands-by : (names : List (List ℕ)) (w : List ℕ) {k : ℕ} → operands_of names w ≡ some k → (behind_word w ≡ some k) ⊎ ((is_number w ≡ true) ⊎ (is_declared names w ≡ true))
unfolding operands_of
operands-by names w e = three (behind_word w) (is_number w) (is_declared names w) e

one_of : (o : Option ℕ) (b c : Bool) → ((k : ℕ) × (o ≡ some k)) ⊎ ((b ≡ true) ⊎ (c ≡ true)) → (k : ℕ) × (elim o [ some n ↦ some n | none ↦ or_none (b || c) ] ≡ some k)
one_of (some n) b c h = (n, refl)
one_of none true c h = (0, refl)
one_of none false true h = (0, refl)
one_of none false false (inl h) = absurd (silent refl h.1)
one_of none false false (inr (inl h)) = absurd (false≢true h)
one_of none false false (inr (inr h)) = absurd (false≢true h)

by-operands : (names : List (List ℕ)) (w : List ℕ) → ((k : ℕ) × (behind_word w ≡ some k)) ⊎ ((is_number w ≡ true) ⊎ (is_declared names w ≡ true)) → (k : ℕ) × (operands_of names w ≡ some k)
unfolding operands_of
by-operands names w h = one_of (behind_word w) (is_number w) (is_declared names w) h

-- ---- one step at each place

abbrev pub Live : Place → Type 0
Live (line names) = every_of name_right names ≡ true
Live (named names) = every_of name_right names ≡ true
Live (least names) = every_of name_right names ≡ true
Live (most names) = every_of name_right names ≡ true
Live (operand names n) = every_of name_right names ≡ true
Live done = Unit {0}

-- what a word that is allowed leads to
pub data Leads : Place → List ℕ → Onward Place → Type 0 where
  to-name : {names : List (List ℕ)} → Leads (line names) (ascii "var") (record { separator = 32; place = named names })
  to-goal : {names : List (List ℕ)} → Leads (line names) (ascii "goal") (record { separator = 32; place = operand names 0 })
  by_name : {names : List (List ℕ)} {w : List ℕ} → is_plain_name w ≡ true → Leads (named names) w (record { separator = 32; place = least (names ++ (w ∷ [])) })
  by-least : {names : List (List ℕ)} {w : List ℕ} → is_number w ≡ true → Leads (least names) w (record { separator = 32; place = most names })
  by_most : {names : List (List ℕ)} {w : List ℕ} → is_number w ≡ true → Leads (most names) w (record { separator = 10; place = line names })
  last-operand : {names : List (List ℕ)} {n : ℕ} {w : List ℕ} (k : ℕ) → operands_of names w ≡ some k → k + n ≡ 0 → Leads (operand names n) w (record { separator = 10; place = done })
  more-operands : {names : List (List ℕ)} {n : ℕ} {w : List ℕ} (k m : ℕ) → operands_of names w ≡ some k → k + n ≡ suc m → Leads (operand names n) w (record { separator = 32; place = operand names m })

pub leads : (p : Place) (w : List ℕ) {x : Onward Place} → allowed p w ≡ some x → Leads p w x
unfolding allowed
leads (line names) w {x} e = go (same_bytes (ascii "var") w) (same_bytes (ascii "goal") w) refl refl e
  where
    go : (a b : Bool) → same_bytes (ascii "var") w ≡ a → same_bytes (ascii "goal") w ≡ b → elim a [ true ↦ onward 32 (named names) | false ↦ elim b [ true ↦ onward 32 (operand names 0) | false ↦ none ] ] ≡ some x → Leads (line names) w x
    go true b h k e = let q = (same-decided (ascii "var") w).0 h in let d : record { separator = 32; place = named names } ≡ x = cc in subst (λ (v : List ℕ). Leads (line names) v x) q (subst (Leads (line names) (ascii "var")) d to-name)
    go false true h k e = let q = (same-decided (ascii "goal") w).0 k in let d : record { separator = 32; place = operand names 0 } ≡ x = cc in subst (λ (v : List ℕ). Leads (line names) v x) q (subst (Leads (line names) (ascii "goal")) d to-goal)
    go false false h k e = absurd (silent refl e)
leads (named names) w {x} e = go (is_plain_name w) refl e
  where
    go : (b : Bool) → is_plain_name w ≡ b → elim b [ true ↦ onward 32 (least (names ++ (w ∷ []))) | false ↦ none ] ≡ some x → Leads (named names) w x
    go true h e = let d : record { separator = 32; place = least (names ++ (w ∷ [])) } ≡ x = cc in subst (Leads (named names) w) d (by_name h)
    go false h e = absurd (silent refl e)
leads (least names) w {x} e = go (is_number w) refl e
  where
    go : (b : Bool) → is_number w ≡ b → elim b [ true ↦ onward 32 (most names) | false ↦ none ] ≡ some x → Leads (least names) w x
    go true h e = let d : record { separator = 32; place = most names } ≡ x = cc in subst (Leads (least names) w) d (by-least h)
    go false h e = absurd (silent refl e)
leads (most names) w {x} e = go (is_number w) refl e
  where
    go : (b : Bool) → is_number w ≡ b → elim b [ true ↦ onward 10 (line names) | false ↦ none ] ≡ some x → Leads (most names) w x
    go true h e = let d : record { separator = 10; place = line names } ≡ x = cc in subst (Leads (most names) w) d (by_most h)
    go false h e = absurd (silent refl e)
leads (operand names n) w {x} e = go (operands_of names w) refl e
  where
    then : (k m : ℕ) → operands_of names w ≡ some k → k + n ≡ m → pending names m ≡ some x → Leads (operand names n) w x
    then k zero h q e = let d : record { separator = 10; place = done } ≡ x = cc in subst (Leads (operand names n) w) d (last-operand k h q)
    then k (suc m) h q e = let d : record { separator = 32; place = operand names m } ≡ x = cc in subst (Leads (operand names n) w) d (more-operands k m h q)

    go : (o : Option ℕ) → operands_of names w ≡ o → elim o [ none ↦ none | some k ↦ pending names (k + n) ] ≡ some x → Leads (operand names n) w x
    go none h e = absurd (silent refl e)
    go (some k) h e = then k (k + n) h refl e
leads done w e = absurd (silent refl e)

-- and the other way round
chosen : {b : Bool} (o : Option (Onward Place)) → b ≡ true → elim b [ true ↦ o | false ↦ none ] ≡ o
chosen o e = rw e

behind : (names : List (List ℕ)) (n : ℕ) {o : Option ℕ} {k m : ℕ} → o ≡ some k → k + n ≡ m → elim o [ none ↦ none | some j ↦ pending names (j + n) ] ≡ pending names m
behind names n {o} {k} {m} h q = ap (λ (u : Option ℕ). elim u as (λ (v : Option ℕ). Option (Onward Place)) [ none ↦ none | some j ↦ pending names (j + n) ]) h ∙ ap (pending names) q

pub led : {p : Place} {w : List ℕ} {x : Onward Place} → Leads p w x → allowed p w ≡ some x
unfolding allowed same_bytes
led to-name = refl
led to-goal = refl
led (by_name {names} {w} h) = chosen (onward 32 (least (names ++ (w ∷ [])))) h
led (by-least {names} h) = chosen (onward 32 (most names)) h
led (by_most {names} h) = chosen (onward 10 (line names)) h
led (last-operand {names} {n} k h q) = behind names n h q
led (more-operands {names} {n} k m h q) = behind names n h q

-- and where a word may not stand
missed : {b : Bool} (o : Option (Onward Place)) → b ≡ false → ◌≡◌ {A = Option (Onward Place)} (elim b [ true ↦ o | false ↦ none ]) none
missed o e = rw e

module _ (names : List (List ℕ)) (w : List ℕ) where
  pub line-none : same_bytes (ascii "var") w ≡ false → same_bytes (ascii "goal") w ≡ false → allowed (line names) w ≡ none
  unfolding allowed
  line-none h k = rw (h, allowed) (missed (onward 32 (operand names 0)) k)

  pub named_none : is_plain_name w ≡ false → allowed (named names) w ≡ none
  unfolding allowed
  named_none h = missed (onward 32 (least (names ++ (w ∷ [])))) h

  pub least-none : is_number w ≡ false → allowed (least names) w ≡ none
  unfolding allowed
  least-none h = missed (onward 32 (most names)) h

  pub most-none : is_number w ≡ false → allowed (most names) w ≡ none
  unfolding allowed
  most-none h = missed (onward 10 (line names)) h

  pub operand-none : (n : ℕ) → operands_of names w ≡ none → allowed (operand names n) w ≡ none
  unfolding allowed
  operand-none n h = ap (λ (u : Option ℕ). elim u as (λ (v : Option ℕ). Option (Onward Place)) [ none ↦ none | some j ↦ pending names (j + n) ]) h

-- ---- what is asked of texts made of words

feeds : separates 10 ≡ true
unfolding separates
feeds = refl

spaces : separates 32 ≡ true
unfolding separates
spaces = refl

leads-separated : {p : Place} {w : List ℕ} {x : Onward Place} → Leads p w x → separates x.separator ≡ true
leads-separated to-name = spaces
leads-separated to-goal = spaces
leads-separated (by_name h) = spaces
leads-separated (by-least h) = spaces
leads-separated (by_most h) = feeds
leads-separated (last-operand k h q) = feeds
leads-separated (more-operands k m h q) = spaces

var-name : name_right (ascii "var") ≡ true
unfolding name_right all_name_bytes is_name_byte is_letter
var-name = refl

goal-name : name_right (ascii "goal") ≡ true
unfolding name_right all_name_bytes is_name_byte is_letter
goal-name = refl

operand-without : (names : List (List ℕ)) (w : List ℕ) {k : ℕ} → every_of name_right names ≡ true → operands_of names w ≡ some k → Without separates w
operand-without names w l h =
    ⊎_elim
    (λ e. name-without w (listed-test name_right (plain_words worded) w word-names (known-listed w e)))
    (⊎_elim (number-without w) (λ e. name-without w (listed-test name_right names w l (declared-listed names w e))))
    (operands-by names w h)

leads-unbroken : {p : Place} {w : List ℕ} {x : Onward Place} → Live p → Leads p w x → Without separates w
leads-unbroken l to-name = name-without (ascii "var") var-name
leads-unbroken l to-goal = name-without (ascii "goal") goal-name
leads-unbroken l (by_name {w = w} h) = name-without w ((plain-name-decided w).0 h).0
leads-unbroken l (by-least {w = w} h) = number-without w h
leads-unbroken l (by_most {w = w} h) = number-without w h
leads-unbroken l (last-operand {names} {n} {w} k h q) = operand-without names w l h
leads-unbroken l (more-operands {names} {n} {w} k m h q) = operand-without names w l h

leads_stays : {p : Place} {w : List ℕ} {x : Onward Place} → Live p → Leads p w x → Live x.place
leads_stays l to-name = l
leads_stays l to-goal = l
leads_stays l (by_name {names} {w} h) = every_more name_right names w l ((plain-name-decided w).0 h).0
leads_stays l (by-least h) = l
leads_stays l (by_most h) = l
leads_stays l (last-operand k h q) = tt
leads_stays l (more-operands k m h q) = l

operand-begun : (names : List (List ℕ)) (n : ℕ) (u w : List ℕ) {k : ℕ} → operands_of names (u ++ w) ≡ some k → begins (operand names n) u ≡ true
unfolding begins
operand-begun names n u w h =
    ⊎_elim
    (λ e. left-true (begins_any (plain_words worded) u) (begins_number u || begins_any names u) (listed-begins (plain_words worded) u w (known-listed (u ++ w) e)))
    (λ g. right-true (begins_any (plain_words worded) u) (begins_number u || begins_any names u)
    (⊎_elim
    (λ e. left-true (begins_number u) (begins_any names u) (number-begun u w e))
    (λ e. right-true (begins_number u) (begins_any names u) (listed-begins names u w (declared-listed names (u ++ w) e)))
    g))
    (operands-by names (u ++ w) h)

leads-begun : {p : Place} {t : List ℕ} {x : Onward Place} → Leads p t x → (u w : List ℕ) → t ≡ u ++ w → begins p u ≡ true
unfolding begins
leads-begun to-name u w e = left-true (beginning u (ascii "var")) (beginning u (ascii "goal")) (ap (beginning u) e ∙ beginning-of u w)
leads-begun to-goal u w e = right-true (beginning u (ascii "var")) (beginning u (ascii "goal")) (ap (beginning u) e ∙ beginning-of u w)
leads-begun (by_name h) u w e = name-begun u w (ap is_plain_name (sym e) ∙ h)
leads-begun (by-least h) u w e = number-begun u w (ap is_number (sym e) ∙ h)
leads-begun (by_most h) u w e = number-begun u w (ap is_number (sym e) ∙ h)
leads-begun (last-operand {names} {n} k h q) u w e = operand-begun names n u w (ap (operands_of names) (sym e) ∙ h)
leads-begun (more-operands {names} {n} k m h q) u w e = operand-begun names n u w (ap (operands_of names) (sym e) ∙ h)

-- a word that has begun
Extends : Place → List ℕ → Type 0
Extends p u = (w : List ℕ) × (x : Onward Place) × (allowed p (u ++ w) ≡ some x)

some-pending : (names : List (List ℕ)) (m : ℕ) → (x : Onward Place) × (pending names m ≡ some x)
some-pending names zero = (record { separator = 10; place = done }, refl)
some-pending names (suc m) = (record { separator = 32; place = operand names m }, refl)

operand-extends : (names : List (List ℕ)) (n : ℕ) (u w : List ℕ) → (k : ℕ) × (operands_of names (u ++ w) ≡ some k) → Extends (operand names n) u
unfolding Extends allowed
operand-extends names n u w h = let x = some-pending names (h.0 + n) in (w, x.0, behind names n h.1 refl ∙ x.1)

a-name : is_plain_name (ascii "a") ≡ true
unfolding is_plain_name name_right all_name_bytes is_name_byte is_letter kind_named kind_in same_bytes
a-name = refl

-- a name, or a word that goes on as one
name-extends : (names : List (List ℕ)) (u : List ℕ) → begins_name u ≡ true → Extends (named names) u
unfolding Extends begins_name longer
name-extends names [] e = (ascii "a", _, led (by_name a-name))
name-extends names (c ∷ s) e = go (behind_word (c ∷ s)) refl
  where
    go : (o : Option ℕ) → behind_word (c ∷ s) ≡ o → Extends (named names) (c ∷ s)
    go none h =
        let k = both (name_right (c ∷ s)) (leb (length (c ∷ s)) most_name_bytes) e in
        let n = (plain-name-decided (c ∷ s)).1 (k.0, leb-true (length (c ∷ s)) most_name_bytes k.1, h) in
        ([], _, ap (allowed (named names)) (append-nil (c ∷ s)) ∙ led (by_name n))
    go (some k) h = (ascii "q", _, led (by_name (listed-test longer (plain_words worded) (c ∷ s) longer-words (known-listed (c ∷ s) h))))

extends : (p : Place) → Live p → (u : List ℕ) → begins p u ≡ true → Extends p u
unfolding begins Extends
extends (line names) l u e =
    ⊎_elim
    (λ h. let r = beginning-rest u (ascii "var") h in (r.0, _, ap (allowed (line names)) (sym r.1) ∙ led to-name))
    (λ h. let r = beginning-rest u (ascii "goal") h in (r.0, _, ap (allowed (line names)) (sym r.1) ∙ led to-goal))
    (or-true (beginning u (ascii "var")) (beginning u (ascii "goal")) e)
extends (named names) l u e = name-extends names u e
extends (least names) l u e = let r = number-extends u e in (r.0, _, led (by-least r.1))
extends (most names) l u e = let r = number-extends u e in (r.0, _, led (by_most r.1))
extends (operand names n) l u e =
    ⊎_elim
    (λ h. let r = begins-listed (plain_words worded) u h in operand-extends names n u r.0 (by-operands names (u ++ r.0) (inl (listed-known (u ++ r.0) r.1))))
    (λ g.
    ⊎_elim
    (λ h. let r = number-extends u h in operand-extends names n u r.0 (by-operands names (u ++ r.0) (inr (inl r.1))))
    (λ h. let r = begins-listed names u h in operand-extends names n u r.0 (by-operands names (u ++ r.0) (inr (inr (listed-declared names (u ++ r.0) r.1)))))
    (or-true (begins_number u) (begins_any names u) g))
    (or-true (begins_any (plain_words worded) u) (begins_number u || begins_any names u) e)
extends (done) l u e = absurd (false≢true e)

-- ---- each place can be completed

TextsFrom : Place → Type 0
TextsFrom p = (s : List ℕ) × Texts allowed final p s

finish-done : Texts allowed final done []
unfolding final
finish-done = finished refl

zero-behind : (names : List (List ℕ)) → operands_of names (ascii "0") ≡ some 0
unfolding operands_of kind_named kind_in same_bytes is_number is_decimal all_digits is_digit
zero-behind names = refl

finish-operand : (names : List (List ℕ)) (n : ℕ) → TextsFrom (operand names n)
unfolding TextsFrom
finish-operand names zero = (_, word (ascii "0") _ (led (last-operand {n = 0} 0 (zero-behind names) refl)) finish-done)
finish-operand names (suc n) = let m = finish-operand names n in (_, word (ascii "0") _ (led (more-operands {n = suc n} 0 n (zero-behind names) (zero-add (suc n)))) m.1)

finish-line : (names : List (List ℕ)) → TextsFrom (line names)
unfolding TextsFrom
finish-line names = let m = finish-operand names 0 in (_, word (ascii "goal") _ (led to-goal) m.1)

finish-most : (names : List (List ℕ)) → TextsFrom (most names)
unfolding TextsFrom
finish-most names = let m = finish-line names in (_, word (ascii "0") _ (led (by_most zero_number)) m.1)

finish-least : (names : List (List ℕ)) → TextsFrom (least names)
unfolding TextsFrom
finish-least names = let m = finish-most names in (_, word (ascii "0") _ (led (by-least zero_number)) m.1)

finish-name : (names : List (List ℕ)) → TextsFrom (named names)
unfolding TextsFrom
finish-name names = let m = finish-least (names ++ (ascii "a" ∷ [])) in (_, word (ascii "a") _ (led (by_name a-name)) m.1)

finish : (p : Place) → TextsFrom p
unfolding TextsFrom
finish (line names) = finish-line names
finish (named names) = finish-name names
finish (least names) = finish-least names
finish (most names) = finish-most names
finish (operand names n) = finish-operand names n
finish done = ([], finish-done)

pub text-wordly : Wordly allowed final separates begins Live
unfolding Extends TextsFrom
text-wordly = record {
  separated = λ {p} {w} e. leads-separated (leads p w e);
  unbroken = λ {p} l {w} e. leads-unbroken l (leads p w e);
  begun = λ p u w e. leads-begun (leads p (u ++ w) e) u w refl;
  extends = λ {p} l u e. extends p l u e;
  stays = λ {p} l {w} e. leads_stays l (leads p w e);
  finishes = λ {p} l. finish p;
}

pub begins-live : Live (line [])
unfolding every_of
begins-live = refl
