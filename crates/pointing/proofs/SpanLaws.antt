-- The loops over an expression's words: to its end, and to the word of a node. Assumes nothing.
use Prim.Native.Nat.{ℕ, ◌+◌, ◌-◌, ◌<◌, ◌≤◌}
use mathlib.Core.Path.{◌≡◌, refl, sym, ap, subst, ◌∙◌}
use mathlib.Core.List.{List, [], ◌∷◌, ◌++◌, append-nil}
use mathlib.Core.Option.{some}
use native.Mathlib.Omega.{arith}
use lib.ListN.{length, length-append, drop}
use Rattle.meaning.specs.Rule.{Variable}
use Rattle.grammar.specs.Words.{word_length}
use Rattle.texts.specs.Expressions.{Expression}
use Rattle.texts.specs.Plain.{spelled}
use Rattle.texts.specs.Places.{separates, first_word}
use Rattle.texts.proofs.CountLaws.{node_count}
use Rattle.pointing.specs.Pointing.{word_places, nth}
use Rattle.pointing.specs.Standing.{operands_in, operand_count, nodes_in, head_of, bytes_in, places_in, StandAt, Begun, Reaches, Spans}
use Rattle.pointing.proofs.PlaceLaws.{nth-front, nth-behind, nth_last, nodes-open, nodes-append, bytes-open, bytes-append, bytes-many, node-bytes, nodes-bytes, places-open, word-places-count, places_count}
use Rattle.pointing.proofs.StandLaws.{stand-front, stand-bytes, stand-behind, stand-size, stand-operands, stand-open}

-- ---- to an expression's end

-- of expression e at place p, so many nodes are passed before place k, and so many expressions are to come
pub record Coming (vs : List Variable) (e : Expression) (s : List ℕ) (p k pending nodes : ℕ) : Type 0 where
  pub todo : List Expression
  pub stand : StandAt vs todo s k
  pub many : pending ≡ length todo
  pub count : nodes + nodes_in todo ≡ node_count e
  pub bytes : k + bytes_in vs todo ≡ p + length (spelled vs e) + 1
  pub few : nodes ≤ k

module _ {vs : List Variable} {e : Expression} {s : List ℕ} {p k pending nodes : ℕ} (x : Coming vs e s p k pending nodes) where
  -- what a turn needs and makes, where there is a next expression
  pub record Turned : Type 0 where
    pub fits : k + word_length separates (drop k s) < length s
    pub room : pending - 1 + operand_count (first_word (drop k s)) ≤ length s
    pub next : {o q : ℕ} → o ≡ operand_count (first_word (drop k s)) → q ≡ k + word_length separates (drop k s) + 1 → Coming vs e s p q (pending - 1 + o) (nodes + 1)

  turned : (es : List Expression) → StandAt vs es s k → pending ≡ length es → nodes + nodes_in es ≡ node_count e → k + bytes_in vs es ≡ p + length (spelled vs e) + 1 → 0 < pending → Turned
  turned [] y m c b l = absurd (omega arith)
  turned (f ∷ fs) y m c b l =
      let more : List Expression = operands_in f ++ fs in
      let z = stand-open y in
      let n : length more ≡ length (operands_in f) + length fs = length-append (operands_in f) fs in
      record {
        fits = omega (arith, stand-size y, z.inside);
        room = omega (arith, stand-operands y, bytes-many vs more, stand-bytes z);
        next = λ {o} {q} u v.
            let g : q ≡ k + length (head_of vs f) + 1 = omega (arith, stand-size y) in
            record {
              todo = more;
              stand = subst (StandAt vs more s) (sym g) z;
              many = omega (arith, stand-operands y);
              count = omega (arith, nodes-append (operands_in f) fs, nodes-open f);
              bytes = omega (arith, bytes-append vs (operands_in f) fs, bytes-open vs f);
              few = omega (arith, x.few);
            };
      }

  pub coming-turn : 0 < pending → Turned
  coming-turn l = turned x.todo x.stand x.many x.count x.bytes l

  none-todo : (es : List Expression) → length es ≡ 0 → (nodes_in es ≡ 0) × (bytes_in vs es ≡ 0)
  none-todo [] h = (refl, refl)
  none-todo (f ∷ fs) h = absurd (omega arith)

  pub coming-end : pending ≤ 0 → (k ≡ p + length (spelled vs e) + 1) × (nodes ≡ node_count e)
  coming-end l =
      let m = none-todo x.todo (omega (arith, x.many)) in
      (omega (arith, x.bytes), omega (arith, x.count))

-- ---- to a node's word

-- the word of node n of expression e at place p is that of node n - first of the expressions at place k
pub record Hunt (vs : List Variable) (e : Expression) (s : List ℕ) (p n k first : ℕ) : Type 0 where
  pub front : Expression
  pub others : List Expression
  pub rank : ℕ
  pub stand : StandAt vs (front ∷ others) s k
  pub split : n ≡ first + rank
  pub below : rank < nodes_in (front ∷ others)
  pub same : nth (word_places vs e p) n ≡ nth (places_in vs (front ∷ others) k) rank
  pub few : first ≤ k

-- so for every expression that stands at place p and has such a node
abbrev pub Hunting : List ℕ → ℕ → ℕ → ℕ → ℕ → Type 0
Hunting s p n k first = (vs : List Variable) (e : Expression) → StandAt vs (e ∷ []) s p → n < node_count e → Hunt vs e s p n k first

-- there is one
pub hunting : {s : List ℕ} {p n : ℕ} (r : Reaches s p n) {k first : ℕ} → Hunting s p n k first → Hunt r.begun.variables r.begun.expression s p n k first
hunting r h = h r.begun.variables r.begun.expression r.begun.stand r.below

module _ (vs : List Variable) (e : Expression) {s : List ℕ} {p n : ℕ} where
  hunted : (k first rank : ℕ) (es : List Expression) → StandAt vs es s k → n ≡ first + rank → rank < nodes_in es → nth (word_places vs e p) n ≡ nth (places_in vs es k) rank → first ≤ k → Hunt vs e s p n k first
  hunted k first rank [] x h l m f = absurd (omega arith)
  hunted k first rank (a ∷ es) x h l m f = record { front = a; others = es; rank = rank; stand = x; split = h; below = l; same = m; few = f }

  pub hunt-begin : StandAt vs (e ∷ []) s p → n < node_count e → Hunt vs e s p n p 0
  hunt-begin x l = hunted p 0 n (e ∷ []) x (omega arith) (omega arith) (ap (λ (m : List ℕ). nth m n) (sym (append-nil (word_places vs e p)))) (omega arith)

module _ {vs : List Variable} {e : Expression} {s : List ℕ} {p n k first : ℕ} (x : Hunt vs e s p n k first) where
  abbrev others-at : ℕ
  others-at = k + length (spelled vs x.front) + 1

  abbrev operands-at : ℕ
  operands-at = k + length (head_of vs x.front) + 1

  front_at : StandAt vs (x.front ∷ []) s k
  front_at = stand-front (x.front ∷ []) x.others x.stand

  pub hunt-begun : Begun s k
  hunt-begun = record { variables = vs; expression = x.front; stand = front_at }

  pub hunt-fits : k + word_length separates (drop k s) < length s
  hunt-fits = omega (arith, stand-size x.stand, (stand-open x.stand).inside)

  pub hunt-number : n < length s
  hunt-number = omega (arith, x.split, x.below, x.few, nodes-bytes vs (x.front ∷ x.others), stand-bytes x.stand)

  -- the front's operands, and then its own node
  in-front : x.rank < node_count x.front → nth (word_places vs e p) n ≡ nth (places_in vs (operands_in x.front) operands-at ++ (k ∷ [])) x.rank
  in-front l =
      x.same
      ∙ nth-front (word_places vs x.front k) (places_in vs x.others others-at) x.rank (omega (arith, word-places-count vs x.front k))
      ∙ ap (λ (m : List ℕ). nth m x.rank) (places-open vs x.front k)

  module _ {behind nodes : ℕ} (spans : Spans s k behind nodes) where
    pub hunt-behind : behind ≡ others-at
    hunt-behind = (spans vs x.front front_at).0

    pub hunt-nodes : nodes ≡ node_count x.front
    hunt-nodes = (spans vs x.front front_at).1

    pub hunt-room : first + nodes ≤ length s
    hunt-room = omega (arith, hunt-nodes, x.few, node-bytes vs x.front, stand-bytes front_at)

    -- its own node is the one
    pub hunt-found : first + nodes ≡ n + 1 → nth (word_places vs e p) n ≡ some k
    hunt-found h =
        let os : List Expression = operands_in x.front in
        let q : x.rank ≡ length (places_in vs os operands-at) = omega (arith, hunt-nodes, x.split, nodes-open x.front, places_count vs os operands-at) in
        in-front (omega (arith, hunt-nodes, x.split))
        ∙ ap (nth (places_in vs os operands-at ++ (k ∷ []))) q
        ∙ nth_last (places_in vs os operands-at) k

    -- the one is among its operands' nodes
    pub hunt-down : (first + nodes ≡ n + 1 → ⊥) → n < first + nodes → {j : ℕ} → j ≡ k + word_length separates (drop k s) + 1 → Hunt vs e s p n j first
    hunt-down away l {j} h =
        let os : List Expression = operands_in x.front in
        let g : j ≡ operands-at = omega (arith, stand-size x.stand) in
        let m : x.rank < nodes_in os = omega (arith, hunt-nodes, x.split, nodes-open x.front) in
        subst (λ (i : ℕ). Hunt vs e s p n i first) (sym g)
        (hunted vs e operands-at first x.rank os (stand-front os x.others (stand-open x.stand)) x.split m
        (in-front (omega (arith, nodes-open x.front)) ∙ nth-front (places_in vs os operands-at) (k ∷ []) x.rank (omega (arith, places_count vs os operands-at)))
        (omega (arith, x.few)))

    -- the one is among the others' nodes
    pub hunt-past : first + nodes ≤ n → Hunt vs e s p n behind (first + nodes)
    hunt-past l =
        let r : ℕ = n - (first + nodes) in
        let w : List ℕ = word_places vs x.front k in
        let q : x.rank ≡ length w + r = omega (arith, x.split, hunt-nodes, word-places-count vs x.front k) in
        subst (λ (i : ℕ). Hunt vs e s p n i (first + nodes)) (sym hunt-behind)
        (hunted vs e others-at (first + nodes) r x.others (stand-behind x.stand) (omega arith) (omega (arith, x.below, x.split, hunt-nodes))
        (x.same ∙ ap (nth (w ++ places_in vs x.others others-at)) q ∙ nth-behind w (places_in vs x.others others-at) r)
        (omega (arith, x.few, hunt-nodes, node-bytes vs x.front)))
