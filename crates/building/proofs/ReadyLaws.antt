-- What building an expression asks of its operands' places and of the sheet's room. Assumes nothing.
use Prim.Native.Nat.{ℕ, ◌+◌, ◌-◌, ◌≤◌, ◌<◌}
use mathlib.Core.Path.{◌≡◌, ap}
use mathlib.Core.List.{List, [], ◌∷◌}
use native.Mathlib.Nat.{le_refl}
use native.Mathlib.Omega.{arith}
use lib.ListN.{length}
use Rattle.meaning.specs.Rule.{Variable}
use Rattle.kinds.specs.declared.Kind.{Kind}
use Rattle.kinds.specs.declared.Record.{Record}
use Rattle.layout.specs.Limits.{most_nodes, node_bytes, node_place}
use Rattle.layout.specs.Nodes.{node}
use Rattle.texts.specs.Expressions.{Expression, bare, number, variable, one, two, three, records_of}
use Rattle.texts.specs.Plain.{spelled}
use Rattle.texts.proofs.CountLaws.{nodes-anywhere, node_count, count-one, count-two, count-three}
use Rattle.building.specs.declared.Built.{Built}
use Rattle.building.specs.Building.{Spelt, spelled_all, Ready, Laid, Buildable, OneBuildable, TwoBuildable, ThreeBuildable, Put, Builds, BuildsOne, BuildsTwo, BuildsThree}
use Rattle.building.proofs.WordLaws.{inside, words-first, words-next}
use Rattle.building.proofs.LaidLaws.{laid_one, laid-two, laid-three}
use Rattle.building.proofs.ViewLaws.{OneHere, TwoHere, ThreeHere}

pub some-node : (e : Expression) → 1 ≤ node_count e
unfolding records_of
some-node (bare k) = omega arith
some-node (number z) = omega arith
some-node (variable i) = omega arith
some-node (one k a) = omega (arith, count-one k a)
some-node (two k a b) = omega (arith, count-two k a b)
some-node (three k a b c) = omega (arith, count-three k a b c)

-- the number of a node, but the first, with a place in a sheet of so many bytes
pub record Kept (size n : ℕ) : Type 0 where
  pub some : 1 ≤ n
  pub few : n < most_nodes
  pub inside : node_place n + node_bytes ≤ size

-- there is a place for the first node
pub first-kept : {text : List ℕ} {count at : ℕ} {vs : List Variable} (e : Expression) {size first : ℕ} → Ready text count at vs (e ∷ []) (node_count e) size first → (first < most_nodes) × (node_place first + node_bytes ≤ size)
first-kept e r = (omega (arith, r.most, some-node e), omega (arith, r.room, some-node e))

-- ---- operands one behind the other
module _ {text : List ℕ} {count at : ℕ} {vs : List Variable} where
  pub spelt-first : (a : Expression) (es : List Expression) → Spelt text count at vs (a ∷ es) → Spelt text count at vs (a ∷ [])
  spelt-first a [] s = s
  spelt-first a (b ∷ es) s = record { names = s.names; writable = (s.writable.0, tt); words = words-first (spelled vs a) (spelled_all vs (b ∷ es)) s.words }

  pub spelt-next : (a b : Expression) (es : List Expression) → Spelt text count at vs (a ∷ b ∷ es) → {end : ℕ} → end ≡ at + length (spelled vs a) → Spelt text count (end + 1) vs (b ∷ es)
  spelt-next a b es s e = record { names = s.names; writable = s.writable.1; words = words-next (spelled vs a) (spelled_all vs (b ∷ es)) s.words e }

  module _ {nodes size first : ℕ} where
    ready-first : (a : Expression) (es : List Expression) → Ready text count at vs (a ∷ es) nodes size first → node_count a ≤ nodes → Ready text count at vs (a ∷ []) (node_count a) size first
    ready-first a es r l = record { few = r.few; spelt = spelt-first a es r.spelt; most = omega (arith, r.most); room = omega (arith, r.room) }

    -- behind an operand that is built
    ready-next : (a b : Expression) (es : List Expression) → Ready text count at vs (a ∷ b ∷ es) nodes size first → {p : Built} {s t : List ℕ} → Laid (spelled vs a) (records_of a first) at first s p t
        → (m : ℕ) → node_count a + m ≤ nodes → Ready text count (p.end + 1) vs (b ∷ es) m size p.next
    ready-next a b es r l m h = record {
      few = r.few;
      spelt = spelt-next a b es r.spelt l.end;
      most = omega (arith, r.most, l.next, nodes-anywhere a first 0);
      room = omega (arith, r.room, l.next, nodes-anywhere a first 0);
    }

    -- in the sheet as it then is
    ask : (a : Expression) (es : List Expression) → Ready text count at vs (a ∷ es) nodes size first → node_count a ≤ nodes → {now : ℕ} → size ≤ now → Buildable text count at now first
    ask a es r l h = let q = ready-first a es r l in record { variables = vs; goal = a; ready = record { few = q.few; spelt = q.spelt; most = q.most; room = omega (arith, q.room) } }

    module _ (a : Expression) (es : List Expression) (r : Ready text count at vs (a ∷ es) nodes size first) {p : Built} {s t : List ℕ} (f : Builds text count at first s p t) where
      built : Laid (spelled vs a) (records_of a first) at first s p t
      built = f.all vs a (spelt-first a es r.spelt)

      -- the words behind it are the text's
      end-inside : (at ≤ p.end) × (p.end < length text)
      end-inside = let s1 = spelt-first a es r.spelt in (omega (arith, built.end), omega (arith, inside s1.words, built.end))

      -- the number behind it is that of a node
      kept : node_count a < nodes → Kept size p.next
      kept h = let l = built in record {
        some = omega (arith, l.next, nodes-anywhere a first 0, some-node a);
        few = omega (arith, r.most, l.next, nodes-anywhere a first 0);
        inside = omega (arith, r.room, l.next, nodes-anywhere a first 0);
      }

-- ---- one operand
module _ {text : List ℕ} {count : ℕ} {k : Kind} {at size first : ℕ} (o : OneBuildable text count k at size first) where
  pub one-ask : Buildable text count at size first
  one-ask = ask o.a [] o.ready (omega (arith, count-one k o.a)) (le_refl size)

  pub one_kept : {p : Built} {s t : List ℕ} → Builds text count at first s p t → Kept size p.next
  one_kept f = kept o.a [] o.ready f (omega (arith, count-one k o.a))

pub one-built : {text : List ℕ} {count : ℕ} {k : Kind} {at first : ℕ} {s t z : List ℕ} {p q : Built} {x : Record} → Builds text count at first s p t → x ≡ node k (p.next - 1) 0 0 0 → Put x p.next p.end t q z → BuildsOne text count k at first s q z
one-built {k = k} f e o = record { all = λ vs a s. laid_one vs k a (f.all vs a s) e o }

-- ---- two operands
module _ {text : List ℕ} {count : ℕ} {k : Kind} {at size first : ℕ} (o : TwoBuildable text count k at size first) where
  pub two-ask : Buildable text count at size first
  two-ask = ask o.a (o.b ∷ []) o.ready (omega (arith, count-two k o.a o.b)) (le_refl size)

  module _ {p : Built} {s t : List ℕ} (f : Builds text count at first s p t) where
    pub two-end : (at ≤ p.end) × (p.end < length text)
    two-end = end-inside o.a (o.b ∷ []) o.ready f

    pub two-kept : Kept size p.next
    two-kept = kept o.a (o.b ∷ []) o.ready f (omega (arith, count-two k o.a o.b))

    second : Ready text count (p.end + 1) o.variables (o.b ∷ []) (node_count o.b + 1) size p.next
    second = ready-next o.a o.b [] o.ready (built o.a (o.b ∷ []) o.ready f) (node_count o.b + 1) (omega (arith, count-two k o.a o.b))

    pub two-ask-2 : {now : ℕ} → size ≤ now → Buildable text count (p.end + 1) now p.next
    two-ask-2 h = ask o.b [] second (omega arith) h

    pub two-kept-2 : {q : Built} {u : List ℕ} → Builds text count (p.end + 1) p.next t q u → Kept size q.next
    two-kept-2 g = kept o.b [] second g (omega arith)

pub two-built : {text : List ℕ} {count : ℕ} {k : Kind} {at first : ℕ} {s t u z : List ℕ} {p q r : Built} {x : Record} → Builds text count at first s p t → Builds text count (p.end + 1) p.next t q u
    → x ≡ node k (p.next - 1) (q.next - 1) 0 0 → Put x q.next q.end u r z → BuildsTwo text count k at first s r z
two-built {k = k} f g e o = record { all = λ vs a b s. let l = f.all vs a (spelt-first a (b ∷ []) s) in laid-two vs k a b l (g.all vs b (spelt-next a b [] s l.end)) e o }

-- ---- three operands
module _ {text : List ℕ} {count : ℕ} {k : Kind} {at size first : ℕ} (o : ThreeBuildable text count k at size first) where
  pub three-ask : Buildable text count at size first
  three-ask = ask o.a (o.b ∷ o.c ∷ []) o.ready (omega (arith, count-three k o.a o.b o.c)) (le_refl size)

  module _ {p : Built} {s t : List ℕ} (f : Builds text count at first s p t) where
    pub three-end : (at ≤ p.end) × (p.end < length text)
    three-end = end-inside o.a (o.b ∷ o.c ∷ []) o.ready f

    pub three-kept : Kept size p.next
    three-kept = kept o.a (o.b ∷ o.c ∷ []) o.ready f (omega (arith, count-three k o.a o.b o.c))

    next : Ready text count (p.end + 1) o.variables (o.b ∷ o.c ∷ []) (node_count o.b + node_count o.c + 1) size p.next
    next = ready-next o.a o.b (o.c ∷ []) o.ready (built o.a (o.b ∷ o.c ∷ []) o.ready f) (node_count o.b + node_count o.c + 1) (omega (arith, count-three k o.a o.b o.c))

    pub three-ask-2 : {now : ℕ} → size ≤ now → Buildable text count (p.end + 1) now p.next
    three-ask-2 h = ask o.b (o.c ∷ []) next (omega arith) h

    module _ {q : Built} {u : List ℕ} (g : Builds text count (p.end + 1) p.next t q u) where
      pub three-end-2 : (p.end < q.end) × (q.end < length text)
      three-end-2 = let w = end-inside o.b (o.c ∷ []) next g in (omega (arith, w.0), w.1)

      pub three-kept-2 : Kept size q.next
      three-kept-2 = kept o.b (o.c ∷ []) next g (omega arith)

      last : Ready text count (q.end + 1) o.variables (o.c ∷ []) (node_count o.c + 1) size q.next
      last = ready-next o.b o.c [] next (built o.b (o.c ∷ []) next g) (node_count o.c + 1) (omega arith)

      pub three-ask-3 : {now : ℕ} → size ≤ now → Buildable text count (q.end + 1) now q.next
      three-ask-3 h = ask o.c [] last (omega arith) h

      pub three-kept-3 : {r : Built} {v : List ℕ} → Builds text count (q.end + 1) q.next u r v → Kept size r.next
      three-kept-3 h = kept o.c [] last h (omega arith)

pub three-built : {text : List ℕ} {count : ℕ} {k : Kind} {at first : ℕ} {s t u v z : List ℕ} {p q r l : Built} {x : Record} → Builds text count at first s p t → Builds text count (p.end + 1) p.next t q u
    → Builds text count (q.end + 1) q.next u r v → x ≡ node k (p.next - 1) (q.next - 1) (r.next - 1) 0 → Put x r.next r.end v l z → BuildsThree text count k at first s l z
three-built {text} {count} {k} {at} {first} {s} {t} {u} {v} {z} {p} {q} {r} {l} {x} f g h e o = record { all = every }
  where
    every : (vs : List Variable) (a b c : Expression) → Spelt text count at vs (a ∷ b ∷ c ∷ []) → Laid (spelled_all vs (a ∷ b ∷ c ∷ [])) (records_of (three k a b c) first) at first s l z
    every vs a b c y =
        let m = f.all vs a (spelt-first a (b ∷ c ∷ []) y) in
        let y2 = spelt-next a b (c ∷ []) y m.end in
        let n = g.all vs b (spelt-first b (c ∷ []) y2) in
        laid-three vs k a b c m n (h.all vs c (spelt-next b c [] y2 n.end)) e o

-- ---- by what stands behind the word
module _ {text : List ℕ} {count : ℕ} {k : Kind} {at next size first : ℕ} {vs : List Variable} {e : Expression} (r : Ready text count at vs (e ∷ []) (node_count e) size first) where
  pub one-operand : OneHere text count vs k next e → OneBuildable text count k next size first
  one-operand o =
      let n : node_count e ≡ node_count (one k o.a) = ap node_count o.is in
      record { variables = vs; a = o.a; ready = record { few = r.few; spelt = o.spelt; most = rw (← n) r.most; room = rw (← n) r.room } }

  pub two_operands : TwoHere text count vs k next e → TwoBuildable text count k next size first
  two_operands o =
      let n : node_count e ≡ node_count (two k o.a o.b) = ap node_count o.is in
      record { variables = vs; a = o.a; b = o.b; ready = record { few = r.few; spelt = o.spelt; most = rw (← n) r.most; room = rw (← n) r.room } }

  pub three-operands : ThreeHere text count vs k next e → ThreeBuildable text count k next size first
  three-operands o =
      let n : node_count e ≡ node_count (three k o.a o.b o.c) = ap node_count o.is in
      record { variables = vs; a = o.a; b = o.b; c = o.c; ready = record { few = r.few; spelt = o.spelt; most = rw (← n) r.most; room = rw (← n) r.room } }
