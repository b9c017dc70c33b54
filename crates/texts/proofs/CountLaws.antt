-- A text's line feeds and spaces count its variables and its nodes. Assumes nothing.
use Prim.Native.Nat.{ℕ, suc, ◌+◌, ◌*◌, ◌-◌}
use mathlib.Core.Path.{◌≡◌, refl, sym, ap, ◌∙◌}
use mathlib.Core.Bool.{Bool, true, false, true≢false}
use mathlib.Core.List.{List, [], ◌∷◌, ◌++◌}
use native.Mathlib.Omega.{arith}
use lib.Dec.{eqb}
use lib.ListN.{length, length-append}
use borrow.Author.Tests.{ne_eqb}
use Rattle.lists.specs.Ascii.{ascii}
use Rattle.lists.specs.Joined.{joined}
use Rattle.numbers.specs.Decimal.{signed}
use Rattle.meaning.specs.Rule.{Variable}
use Rattle.kinds.specs.declared.Kind.{Kind}
use Rattle.layout.specs.Nodes.{node, Listing, one_of, two_of, three_of}
use Rattle.grammar.specs.Words.{Without}
use Rattle.texts.specs.Expressions.{Expression, bare, number, variable, one, two, three, records_of, Draft}
use Rattle.texts.specs.Plain.{plain_of, name_of, spelled, variable_line, goal_line, printed}
use Rattle.texts.specs.Texts.{Declarable, AllDeclarable, Writable, Says}
use Rattle.texts.specs.Places.{separates}
use Rattle.texts.specs.Counts.{occurrences}
use Rattle.texts.proofs.SpellingLaws.{space-separates, feed-separates, word-unbroken, number-unbroken, name-unbroken}
use Rattle.texts.proofs.DraftLaws.{declared-name}

-- ---- nodes, wherever the first one stands

one_more : (k : Kind) (x : Listing) (i : ℕ) → length (one_of k x i) ≡ suc (length (x i))
one_more k x i = omega (arith, length-append (x i) (node k (i + length (x i) - 1) 0 0 0 ∷ []))

two-more : (k : Kind) (x y : Listing) (i : ℕ) → length (two_of k x y i) ≡ suc (length (x i) + length (y (i + length (x i))))
two-more k x y i = simp length-append (omega arith)

three-more : (k : Kind) (x y z : Listing) (i : ℕ) →
    length (three_of k x y z i) ≡ suc (length (x i) + length (y (i + length (x i))) + length (z (i + length (x i) + length (y (i + length (x i))))))
three-more k x y z i = simp length-append (omega arith)

pub nodes-anywhere : (e : Expression) (i j : ℕ) → length (records_of e i) ≡ length (records_of e j)
unfolding records_of
nodes-anywhere (bare k) i j = refl
nodes-anywhere (number z) i j = refl
nodes-anywhere (variable v) i j = refl
nodes-anywhere (one k a) i j = one_more k (records_of a) i ∙ ap suc (nodes-anywhere a i j) ∙ sym (one_more k (records_of a) j)
nodes-anywhere (two k a b) i j =
    let p = nodes-anywhere a i j in
    let q = nodes-anywhere b (i + length (records_of a i)) (j + length (records_of a j)) in
    omega (arith, two-more k (records_of a) (records_of b) i, two-more k (records_of a) (records_of b) j)
nodes-anywhere (three k a b c) i j =
    let p = nodes-anywhere a i j in
    let q = nodes-anywhere b (i + length (records_of a i)) (j + length (records_of a j)) in
    let r = nodes-anywhere c (i + length (records_of a i) + length (records_of b (i + length (records_of a i)))) (j + length (records_of a j) + length (records_of b (j + length (records_of a j)))) in
    omega (arith, three-more k (records_of a) (records_of b) (records_of c) i, three-more k (records_of a) (records_of b) (records_of c) j)

-- how many there are
abbrev pub node_count : Expression → ℕ
node_count e = length (records_of e 0)

pub count-one : (k : Kind) (a : Expression) → node_count (one k a) ≡ suc (node_count a)
unfolding records_of
count-one k a = one_more k (records_of a) 0

pub count-two : (k : Kind) (a b : Expression) → node_count (two k a b) ≡ suc (node_count a + node_count b)
unfolding records_of
count-two k a b = omega (arith, two-more k (records_of a) (records_of b) 0, nodes-anywhere b (0 + node_count a) 0)

pub count-three : (k : Kind) (a b c : Expression) → node_count (three k a b c) ≡ suc (node_count a + node_count b + node_count c)
unfolding records_of
count-three k a b c =
    omega (arith, three-more k (records_of a) (records_of b) (records_of c) 0, nodes-anywhere b (0 + node_count a) 0, nodes-anywhere c (0 + node_count a + length (records_of b (0 + node_count a))) 0)

-- ---- bytes

pub occurrences-append : (c : ℕ) (s t : List ℕ) → occurrences c (s ++ t) ≡ occurrences c s + occurrences c t
unfolding occurrences
occurrences-append c [] t = omega arith
occurrences-append c (d ∷ s) t = by (eqb c d) (occurrences-append c s t)
  where
    by : (b : Bool) → occurrences c (s ++ t) ≡ occurrences c s + occurrences c t →
        ◌≡◌ {A = ℕ} (elim b [ true ↦ suc (occurrences c (s ++ t)) | false ↦ occurrences c (s ++ t) ]) (elim b [ true ↦ suc (occurrences c s) | false ↦ occurrences c s ] + occurrences c t)
    by true e = omega arith
    by false e = e

-- a word holds no separator
pub absent : (c : ℕ) (w : List ℕ) → separates c ≡ true → Without separates w → occurrences c w ≡ 0
unfolding occurrences
absent c [] h u = refl
absent c (d ∷ w) h u = rw (ne_eqb c d (λ e. true≢false (sym h ∙ ap separates e ∙ u.0)), occurrences) (absent c w h u.1)

-- ---- parts of a text

-- it holds so many line feeds and spaces
record Holds (s : List ℕ) (m n : ℕ) : Type 0 where
  feeds : occurrences 10 s ≡ m
  spaces : occurrences 32 s ≡ n

holds-word : (w : List ℕ) → Without separates w → Holds w 0 0
holds-word w u = record { feeds = absent 10 w feed-separates u; spaces = absent 32 w space-separates u }

-- one behind the other
behind : (s t : List ℕ) {a b c d : ℕ} → Holds s a b → Holds t c d → (m n : ℕ) → m ≡ a + c → n ≡ b + d → Holds (s ++ t) m n
behind s t h g m n e f = record {
  feeds = occurrences-append 10 s t ∙ omega (arith, h.feeds, g.feeds);
  spaces = occurrences-append 32 s t ∙ omega (arith, h.spaces, g.spaces);
}

-- a space between
space : (t : List ℕ) {c d : ℕ} → Holds t c d → Holds (ascii " " ++ t) c (suc d)
unfolding occurrences
space t h = record { feeds = h.feeds; spaces = ap suc h.spaces }

between : (s t : List ℕ) {b c d : ℕ} → Holds s 0 b → Holds t c d → (n : ℕ) → n ≡ suc (b + d) → Holds (s ++ (ascii " " ++ t)) c n
between s t {b} {c} {d} h g n e = behind s (ascii " " ++ t) h (space t g) c n (omega arith) (omega arith)

-- ---- an expression: a space less than nodes

record Counted (vs : List Variable) (e : Expression) : Type 0 where
  spaces : ℕ
  holds : Holds (spelled vs e) 0 spaces
  nodes : suc spaces ≡ node_count e

module _ (vs : List Variable) (d : AllDeclarable vs) where
  counted : (e : Expression) → Writable vs e → Counted vs e
  unfolding spelled records_of
  counted (bare k) w = record { spaces = 0; holds = holds-word (plain_of k) (word-unbroken k); nodes = refl }
  counted (number z) w = record { spaces = 0; holds = holds-word (signed z) (number-unbroken z); nodes = refl }
  counted (variable i) w = record { spaces = 0; holds = holds-word (name_of vs i) (name-unbroken (declared-name vs i d w.declared)); nodes = refl }
  counted (one k a) w =
      let x = counted a w.1 in
      record {
        spaces = suc x.spaces;
        holds = between (plain_of k) (spelled vs a) (holds-word (plain_of k) (word-unbroken k)) x.holds (suc x.spaces) (omega arith);
        nodes = omega (arith, x.nodes, count-one k a);
      }
  counted (two k a b) w =
      let x = counted a w.1 in
      let y = counted b w.2 in
      let h = between (spelled vs a) (spelled vs b) x.holds y.holds (suc (x.spaces + y.spaces)) refl in
      record {
        spaces = suc (suc (x.spaces + y.spaces));
        holds = between (plain_of k) _ (holds-word (plain_of k) (word-unbroken k)) h (suc (suc (x.spaces + y.spaces))) (omega arith);
        nodes = omega (arith, x.nodes, y.nodes, count-two k a b);
      }
  counted (three k a b c) w =
      let x = counted a w.1 in
      let y = counted b w.2 in
      let z = counted c w.3 in
      let g = between (spelled vs b) (spelled vs c) y.holds z.holds (suc (y.spaces + z.spaces)) refl in
      let h = between (spelled vs a) _ x.holds g (suc (suc (x.spaces + (y.spaces + z.spaces)))) (omega arith) in
      record {
        spaces = suc (suc (suc (x.spaces + (y.spaces + z.spaces))));
        holds = between (plain_of k) _ (holds-word (plain_of k) (word-unbroken k)) h (suc (suc (suc (x.spaces + (y.spaces + z.spaces))))) (omega arith);
        nodes = omega (arith, x.nodes, y.nodes, z.nodes, count-three k a b c);
      }

-- ---- lines

feed : Holds (ascii "\n") 1 0
unfolding occurrences
feed = record { feeds = refl; spaces = refl }

front-var : Holds (ascii "var") 0 0
unfolding occurrences
front-var = record { feeds = refl; spaces = refl }

front-goal : Holds (ascii "goal") 0 0
unfolding occurrences
front-goal = record { feeds = refl; spaces = refl }

line-holds : (v : Variable) → Declarable v → Holds (variable_line v) 1 3
line-holds v d =
    let low = signed v.domain.low in
    let high = signed v.domain.high in
    let h = behind high (ascii "\n") (holds-word high (number-unbroken v.domain.high)) feed 1 0 refl refl in
    let l = between low (high ++ ascii "\n") (holds-word low (number-unbroken v.domain.low)) h 1 refl in
    let n = between v.name (low ++ (ascii " " ++ (high ++ ascii "\n"))) (holds-word v.name (name-unbroken d.name)) l 2 refl in
    between (ascii "var") (v.name ++ (ascii " " ++ (low ++ (ascii " " ++ (high ++ ascii "\n"))))) front-var n 3 refl

lines-hold : (vs : List Variable) → AllDeclarable vs → Holds (joined variable_line vs) (length vs) (3 * length vs)
unfolding occurrences
lines-hold [] d = record { feeds = refl; spaces = refl }
lines-hold (v ∷ vs) d = behind (variable_line v) (joined variable_line vs) (line-holds v d.0) (lines-hold vs d.1) (suc (length vs)) (3 * suc (length vs)) (omega arith) (omega arith)

goal-holds : (vs : List Variable) (e : Expression) → AllDeclarable vs → Writable vs e → Holds (goal_line vs e) 1 (node_count e)
goal-holds vs e d w =
    let x = counted vs d e w in
    let h = behind (spelled vs e) (ascii "\n") x.holds feed 1 x.spaces refl (omega arith) in
    between (ascii "goal") (spelled vs e ++ ascii "\n") front-goal h (node_count e) (omega (arith, x.nodes))

module _ {s : List ℕ} {d : Draft} (h : Says s d) where
  text-holds : Holds (printed d) (suc (length d.variables)) (3 * length d.variables + node_count d.goal)
  unfolding printed
  text-holds =
      behind (joined variable_line d.variables) (goal_line d.variables d.goal)
      (lines-hold d.variables h.variables) (goal-holds d.variables d.goal h.variables h.goal)
      (suc (length d.variables)) (3 * length d.variables + node_count d.goal) (omega arith) refl

  pub line-feeds : occurrences 10 s ≡ suc (length d.variables)
  line-feeds = ap (occurrences 10) h.text ∙ text-holds.feeds

  pub spaces : occurrences 32 s ≡ 3 * length d.variables + length (records_of d.goal 0)
  spaces = ap (occurrences 32) h.text ∙ text-holds.spaces
