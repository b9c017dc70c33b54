-- The sheet that is laid part by part into a room of zeros is the sheet that the layout writes. Assumes nothing.
use Prim.Native.Nat.{ℕ, zero, suc, ◌+◌, ◌-◌, ◌*◌, ◌≤◌, ◌<◌}
use mathlib.Core.Path.{◌≡◌, refl, sym, ap, ap₂, ◌∙◌}
use mathlib.Core.List.{List, [], ◌∷◌, ◌++◌, append_assoc, append-nil}
use native.Mathlib.Nat.{add-zero, zero-add, add-suc, suc-add, sub-zero}
use native.Mathlib.Numerals.{add-one, one-add}
use native.Mathlib.Decide.{dec_le}
use native.Mathlib.Omega.{arith}
use lib.ListN.{length, take, drop, get_or, replicate, length-append, length-take, length-drop, length-replicate, take-append-drop, drop_of_length-le, replicate-append-replicate}
use lib.Seq.{take_at, drop_at, drop-drop}
use Rattle.lists.specs.Places.{from}
use Rattle.lists.specs.Joined.{joined}
use Rattle.lists.proofs.RunLaws.{from-same}
use Rattle.lists.proofs.JoinedLaws.{length-joined}
use Rattle.numbers.specs.Bytes.{pair}
use Rattle.meaning.specs.Rule.{Variable, no_variable}
use Rattle.kinds.specs.declared.Record.{Record}
use Rattle.layout.specs.Limits.{block_bytes, content_bytes, most_variables, header_gap, header_gap_bytes, variable_bytes, name_start, most_name_bytes, name_field, node_bytes, nodes_in_block, blocks_for, sheet_bytes, variable_place, node_place}
use Rattle.layout.specs.Checks.{check_of, content, Inside, sealed}
use Rattle.layout.specs.Sheet.{record_bytes, variable_record, filled, node_content, contents_with, sheet_with}
use Rattle.layout.proofs.Written.{length-filled, length-sealed}
use Rattle.room.specs.Room.{within}
use Rattle.room.proofs.RoomLaws.{wrote-length}
use Rattle.sheets.specs.Laying.{with_counts, variable_front, with_variable, with_variables, with_node, with_nodes, with_check, with_checks, laid}

-- ---- the room keeps its length
length-within : (t s : List ℕ) (at : ℕ) → at + length t ≤ length s → length (within t at s) ≡ length s
length-within t s at h = wrote-length h (record { place = refl; room = refl })

pub length-with_counts : (n v : ℕ) (s : List ℕ) → header_gap ≤ length s → length (with_counts n v s) ≡ length s
unfolding with_counts
length-with_counts n v s h = length-within _ s 0 (omega arith)

pub length-with_variable : (i : ℕ) (v : Variable) (s : List ℕ) → variable_place i + (name_start + length v.name) ≤ length s → length (with_variable i v s) ≡ length s
unfolding with_variable
length-with_variable i v s h = length-within (variable_front v) s (variable_place i) (omega arith)

pub length-with_node : (n : ℕ) (r : Record) (s : List ℕ) → node_place n + node_bytes ≤ length s → length (with_node n r s) ≡ length s
unfolding with_node
length-with_node n r s h = length-within (record_bytes r) s (node_place n) (omega arith)

pub length-with_check : (k : ℕ) (s : List ℕ) → Inside s k → length (with_check k s) ≡ length s
unfolding with_check
length-with_check k s h = length-within (pair (check_of k (content s k))) s (block_bytes * k + content_bytes) (omega arith)

-- no name is longer than its field
abbrev pub ShortNames : List Variable → Type 0
ShortNames vs = (i : ℕ) → i < length vs → length (get_or vs i no_variable).name ≤ most_name_bytes

pub length-with_variables : (i : ℕ) (vs : List Variable) (s : List ℕ) → ShortNames vs → variable_place (i + length vs) ≤ length s → length (with_variables i vs s) ≡ length s
unfolding with_variables
length-with_variables i [] s short h = refl
length-with_variables i (v ∷ vs) s short h =
    let e = length-with_variable i v s (omega (arith, short 0 (omega arith))) in
    length-with_variables (suc i) vs (with_variable i v s) (λ j l. short (suc j) (omega arith)) (omega arith) ∙ e

pub length-with_nodes : (n : ℕ) (rs : List Record) (s : List ℕ) → node_place (n + length rs) ≤ length s → length (with_nodes n rs s) ≡ length s
unfolding with_nodes
length-with_nodes n [] s h = refl
length-with_nodes n (r ∷ rs) s h =
    let e = length-with_node n r s (omega arith) in
    length-with_nodes (suc n) rs (with_node n r s) (omega arith) ∙ e

pub length-with_checks : (k : ℕ) (s : List ℕ) → block_bytes * k ≤ length s → length (with_checks k s) ≡ length s
unfolding with_checks
length-with_checks zero s h = refl
length-with_checks (suc k) s h =
    let e = length-with_checks k s (omega arith) in
    length-with_check k (with_checks k s) (omega arith) ∙ e

-- ---- nodes one behind another
pub with_nodes-append : (n : ℕ) (xs ys : List Record) (s : List ℕ) → with_nodes n (xs ++ ys) s ≡ with_nodes (n + length xs) ys (with_nodes n xs s)
unfolding with_nodes
with_nodes-append n [] ys s = ap (λ (k : ℕ). with_nodes k ys s) (sym (add-zero n))
with_nodes-append n (x ∷ xs) ys s = with_nodes-append (suc n) xs ys (with_node n x s) ∙ ap (λ (k : ℕ). with_nodes k ys (with_nodes (suc n) xs (with_node n x s))) (suc-add n (length xs) ∙ sym (add-suc n (length xs)))

-- ---- what is written over as many bytes
within-at : (a z u t : List ℕ) (at : ℕ) → length a ≡ at → length z ≡ length t → within t at (a ++ (z ++ u)) ≡ a ++ (t ++ u)
unfolding within
within-at a z u t at e l =
    let rest : drop (at + length t) (a ++ (z ++ u)) ≡ u = sym (drop-drop (length t) at (a ++ (z ++ u))) ∙ ap (drop (length t)) (drop_at a (z ++ u) at e) ∙ drop_at z u (length t) l in
    rw (take_at a (z ++ u) at e, rest) (append_assoc a t u)

-- ---- a room of n bytes: some, and zeros behind them
abbrev padded : ℕ → List ℕ → List ℕ
padded n l = l ++ replicate (n - length l) 0

padded-all : (n : ℕ) (l : List ℕ) → length l ≡ n → padded n l ≡ l
padded-all n l e =
    let z : n - length l ≡ 0 = omega arith in
    ap (λ (k : ℕ). l ++ replicate k 0) z ∙ append-nil l

zeros-split : (n a b : ℕ) → n ≡ a + b → replicate {A = ℕ} n 0 ≡ replicate a 0 ++ replicate b 0
zeros-split n a b e = ap (λ (k : ℕ). replicate k 0) e ∙ sym (replicate-append-replicate a b 0)

padded-zeros : (n g : ℕ) (l : List ℕ) → length l + g ≤ n → padded n l ≡ padded n (l ++ replicate g 0)
padded-zeros n g l h =
    let long : length (l ++ replicate g 0) ≡ length l + g = length-append l (replicate g 0) ∙ ap (λ (k : ℕ). length l + k) (length-replicate g 0) in
    ap (λ (z : List ℕ). l ++ z) (zeros-split (n - length l) g (n - length (l ++ replicate g 0)) (omega arith))
    ∙ sym (append_assoc l (replicate g 0) (replicate (n - length (l ++ replicate g 0)) 0))

-- what is written where the zeros begin
within-padded : (n at : ℕ) (l t : List ℕ) → length l ≡ at → at + length t ≤ n → within t at (padded n l) ≡ padded n (l ++ t)
within-padded n at l t e h =
    let long : length (l ++ t) ≡ length l + length t = length-append l t in
    ap (λ (z : List ℕ). within t at (l ++ z)) (zeros-split (n - length l) (length t) (n - length (l ++ t)) (omega arith))
    ∙ within-at l (replicate (length t) 0) (replicate (n - length (l ++ t)) 0) t at e (length-replicate (length t) 0)
    ∙ sym (append_assoc l t (replicate (n - length (l ++ t)) 0))

-- ---- block 0
length-record : (v : Variable) → length v.name ≤ most_name_bytes → length (variable_record v) ≡ variable_bytes
length-record v h = rw (length-append v.name (replicate (name_field - length v.name) 0), length-replicate) (omega arith)

length-records : (vs : List Variable) → ShortNames vs → length (joined variable_record vs) ≡ variable_bytes * length vs
length-records [] short = refl
length-records (v ∷ vs) short =
    let p = length-record v (short 0 (omega arith)) in
    let q = length-records vs (λ j l. short (suc j) (omega arith)) in
    length-append (variable_record v) (joined variable_record vs) ∙ omega arith

variable-laid : (n i : ℕ) (v : Variable) (l : List ℕ) → length v.name ≤ most_name_bytes → length l ≡ variable_place i → variable_place (suc i) ≤ n → with_variable i v (padded n l) ≡ padded n (l ++ variable_record v)
unfolding with_variable
variable-laid n i v l short e h =
    let z : ℕ = name_field - length v.name in
    let long : length (l ++ variable_front v) ≡ length l + (name_start + length v.name) = length-append l (variable_front v) ∙ omega arith in
    within-padded n (variable_place i) l (variable_front v) e (omega arith)
    ∙ padded-zeros n z (l ++ variable_front v) (omega arith)
    ∙ ap (padded n) (append_assoc l (variable_front v) (replicate z 0))

variables-laid : (n i : ℕ) (vs : List Variable) (l : List ℕ) → ShortNames vs → length l ≡ variable_place i → variable_place (i + length vs) ≤ n → with_variables i vs (padded n l) ≡ padded n (l ++ joined variable_record vs)
unfolding with_variables
variables-laid n i [] l short e h = ap (padded n) (sym (append-nil l))
variables-laid n i (v ∷ vs) l short e h =
    let s = short 0 (omega arith) in
    let long : length (l ++ variable_record v) ≡ variable_place (suc i) = length-append l (variable_record v) ∙ omega (arith, length-record v s) in
    ap (with_variables (suc i) vs) (variable-laid n i v l s e (omega arith))
    ∙ variables-laid n (suc i) vs (l ++ variable_record v) (λ j k. short (suc j) (omega arith)) long (omega arith)
    ∙ ap (padded n) (append_assoc l (variable_record v) (joined variable_record vs))

-- a block's content before its check is put
abbrev opened : List ℕ → List ℕ
opened c = c ++ (0 ∷ 0 ∷ [])

length-opened : (c : List ℕ) → length c ≡ content_bytes → length (opened c) ≡ block_bytes
length-opened c e = length-append c (0 ∷ 0 ∷ []) ∙ omega arith

-- a content's bytes, and the zeros up to the next block
block-padded : (n : ℕ) (l u : List ℕ) → length u ≤ content_bytes → length l + block_bytes ≤ n → padded n (l ++ u) ≡ padded n (l ++ opened (filled u))
block-padded n l u h k =
    let z : ℕ = content_bytes - length u in
    let long : length (l ++ u) ≡ length l + length u = length-append l u in
    let two : List ℕ = 0 ∷ 0 ∷ [] in
    let e : replicate {A = ℕ} (z + 2) 0 ≡ replicate z 0 ++ two = sym (replicate-append-replicate z 2 0) in
    padded-zeros n (z + 2) (l ++ u) (omega arith)
    ∙ ap (padded n) (ap (λ (y : List ℕ). (l ++ u) ++ y) e ∙ append_assoc l u (replicate z 0 ++ two) ∙ ap (λ (y : List ℕ). l ++ y) (sym (append_assoc u (replicate z 0) two)))

-- ---- node blocks
length-nodes : (rs : List Record) → length (joined record_bytes rs) ≡ node_bytes * length rs
length-nodes [] = refl
length-nodes (r ∷ rs) = let q = length-nodes rs in length-append (record_bytes r) (joined record_bytes rs) ∙ omega arith

-- in block b, from its node i on
nodes-laid : (n b i : ℕ) (rs : List Record) (l : List ℕ) → length l ≡ block_bytes * (b + 1) + node_bytes * i → i + length rs ≤ nodes_in_block → block_bytes * (b + 2) ≤ n → with_nodes (nodes_in_block * b + i) rs (padded n l) ≡ padded n (l ++ joined record_bytes rs)
unfolding with_nodes with_node
nodes-laid n b i [] l e h k = ap (padded n) (sym (append-nil l))
nodes-laid n b i (r ∷ rs) l e h k =
    let long : length (l ++ record_bytes r) ≡ block_bytes * (b + 1) + node_bytes * suc i = length-append l (record_bytes r) ∙ omega arith in
    ap₂ (λ (j : ℕ) (s : List ℕ). with_nodes j rs s) (sym (add-suc (nodes_in_block * b) i)) (within-padded n (node_place (nodes_in_block * b + i)) l (record_bytes r) (omega arith) (omega arith))
    ∙ nodes-laid n b (suc i) rs (l ++ record_bytes r) long (omega arith) k
    ∙ ap (padded n) (append_assoc l (record_bytes r) (joined record_bytes rs))

length_taken : (rs : List Record) → length (joined record_bytes (take nodes_in_block rs)) ≤ content_bytes
length_taken rs = omega (arith, length-nodes (take nodes_in_block rs), length-take nodes_in_block rs)

-- where the nodes behind a block's begin, if there are any
next-block : (b : ℕ) (rs : List Record) (s : List ℕ) → with_nodes (nodes_in_block * b + length (take nodes_in_block rs)) (drop nodes_in_block rs) s ≡ with_nodes (nodes_in_block * suc b) (drop nodes_in_block rs) s
unfolding with_nodes
next-block b rs s = go (dec_le nodes_in_block (length rs))
  where
    go : Dec (nodes_in_block ≤ length rs) → with_nodes (nodes_in_block * b + length (take nodes_in_block rs)) (drop nodes_in_block rs) s ≡ with_nodes (nodes_in_block * suc b) (drop nodes_in_block rs) s
    go (yes h) =
        let e : nodes_in_block * b + length (take nodes_in_block rs) ≡ nodes_in_block * suc b = omega (arith, length-take nodes_in_block rs) in
        ap (λ (k : ℕ). with_nodes k (drop nodes_in_block rs) s) e
    go (no h) =
        let l : length rs ≤ nodes_in_block = omega arith in
        rw (drop_of_length-le rs l)

further : (rs : List Record) (m : ℕ) → from (node_content rs) 1 m ≡ from (node_content (drop nodes_in_block rs)) 0 m
further rs m = from-same (node_content rs) (node_content (drop nodes_in_block rs)) m 1 0 (λ k h. ap (λ (l : List Record). filled (joined record_bytes (take nodes_in_block l))) (same k))
  where
    same : (k : ℕ) → drop (nodes_in_block * (1 + k)) rs ≡ drop (nodes_in_block * (0 + k)) (drop nodes_in_block rs)
    same k =
        let e : nodes_in_block * (1 + k) ≡ nodes_in_block + nodes_in_block * (0 + k) = omega arith in
        ap (λ (j : ℕ). drop j rs) e ∙ sym (drop-drop (nodes_in_block * (0 + k)) nodes_in_block rs)

-- from block b on
blocks-laid : (n m b : ℕ) (rs : List Record) (l : List ℕ) → blocks_for (length rs) ≡ m → length l ≡ block_bytes * (b + 1) → block_bytes * (b + 1 + m) ≤ n
    → with_nodes (nodes_in_block * b) rs (padded n l) ≡ padded n (l ++ joined opened (from (node_content rs) 0 m))
unfolding with_nodes
blocks-laid n zero b [] l c e h = ap (padded n) (sym (append-nil l))
blocks-laid n zero b (r ∷ rs) l c e h = absurd (omega arith)
blocks-laid n (suc m) b rs l c e h =
    let xs : List Record = take nodes_in_block rs in
    let ys : List Record = drop nodes_in_block rs in
    let u : List ℕ = joined record_bytes xs in
    let block : List ℕ = opened (filled u) in
    let few : length u ≤ content_bytes = length_taken rs in
    let left : blocks_for (length ys) ≡ m = omega (arith, length-drop nodes_in_block rs) in
    let long : length (l ++ block) ≡ block_bytes * (suc b + 1) = length-append l block ∙ omega (arith, length-opened (filled u) (length-filled u few)) in
    let first : with_nodes (nodes_in_block * b) xs (padded n l) ≡ padded n (l ++ block) =
    ap (λ (k : ℕ). with_nodes k xs (padded n l)) (sym (add-zero (nodes_in_block * b)))
    ∙ nodes-laid n b 0 xs l (omega arith) (omega (arith, length-take nodes_in_block rs)) (omega arith)
    ∙ block-padded n l u few (omega arith) in
    ap (λ (k : List Record). with_nodes (nodes_in_block * b) k (padded n l)) (sym (take-append-drop nodes_in_block rs))
    ∙ with_nodes-append (nodes_in_block * b) xs ys (padded n l)
    ∙ next-block b rs (with_nodes (nodes_in_block * b) xs (padded n l))
    ∙ ap (with_nodes (nodes_in_block * suc b) ys) first
    ∙ blocks-laid n m (suc b) ys (l ++ block) left long (omega arith)
    ∙ ap (padded n) (append_assoc l block (joined opened (from (node_content ys) 0 m)) ∙ ap (λ (k : List (List ℕ)). l ++ (block ++ joined opened k)) (sym (further rs m)))

-- ---- checks
check-laid : (k : ℕ) (s c u : List ℕ) → length s ≡ block_bytes * k → length c ≡ content_bytes → with_check k (s ++ (opened c ++ u)) ≡ (s ++ (c ++ pair (check_of k c))) ++ u
unfolding with_check
check-laid k s c u e l =
    let room : List ℕ = s ++ (opened c ++ u) in
    let found : content room k ≡ c = ap (take content_bytes) (drop_at s (opened c ++ u) (block_bytes * k) e ∙ append_assoc c (0 ∷ 0 ∷ []) u) ∙ take_at c (0 ∷ 0 ∷ u) content_bytes l in
    let parts : room ≡ (s ++ c) ++ ((0 ∷ 0 ∷ []) ++ u) = ap (λ (y : List ℕ). s ++ y) (append_assoc c (0 ∷ 0 ∷ []) u) ∙ sym (append_assoc s c (0 ∷ 0 ∷ u)) in
    let t : List ℕ = pair (check_of k c) in
    ap₂ (λ (y r : List ℕ). within (pair (check_of k y)) (block_bytes * k + content_bytes) r) found parts
    ∙ within-at (s ++ c) (0 ∷ 0 ∷ []) u t (block_bytes * k + content_bytes) (length-append s c ∙ omega arith) refl
    ∙ sym (append_assoc (s ++ c) t u)
    ∙ ap (λ (y : List ℕ). y ++ u) (append_assoc s c t)

sealed-more : (c : ℕ → List ℕ) (i n : ℕ) → sealed i (from c i n) ++ (c (i + n) ++ pair (check_of (i + n) (c (i + n)))) ≡ sealed i (from c i (suc n))
unfolding sealed
sealed-more c i zero = ap (λ (k : ℕ). c k ++ pair (check_of k (c k))) (add-zero i) ∙ sym (append-nil (c i ++ pair (check_of i (c i))))
sealed-more c i (suc n) =
    let b : ℕ → List ℕ = λ k. c k ++ pair (check_of k (c k)) in
    append_assoc (b i) (sealed (suc i) (from c (suc i) n)) (b (i + suc n))
    ∙ ap (λ (y : List ℕ). b i ++ y) (ap (λ (k : ℕ). sealed (suc i) (from c (suc i) n) ++ b k) (add-suc i n ∙ sym (suc-add i n)) ∙ sealed-more c (suc i) n)

module _ (c : ℕ → List ℕ) (long : (j : ℕ) → length (c j) ≡ content_bytes) where
  checks-laid : (k m : ℕ) → with_checks k (joined opened (from c 0 (k + m))) ≡ sealed 0 (from c 0 k) ++ joined opened (from c k m)
  unfolding with_checks sealed
  checks-laid zero m = ap (λ (j : ℕ). joined opened (from c 0 j)) (zero-add m)
  checks-laid (suc k) m =
      ap (λ (j : ℕ). with_check k (with_checks k (joined opened (from c 0 j)))) (suc-add k m ∙ sym (add-suc k m))
      ∙ ap (with_check k) (checks-laid k (suc m))
      ∙ check-laid k (sealed 0 (from c 0 k)) (c k) (joined opened (from c (suc k) m)) (length-sealed c long k 0) (long k)
      ∙ ap (λ (y : List ℕ). y ++ joined opened (from c (suc k) m)) (ap (λ (j : ℕ). sealed 0 (from c 0 k) ++ (c j ++ pair (check_of j (c j)))) (sym (zero-add k)) ∙ sealed-more c 0 k)

  checks-sealed : (k : ℕ) → with_checks k (joined opened (from c 0 k)) ≡ sealed 0 (from c 0 k)
  checks-sealed k = ap (λ (j : ℕ). with_checks k (joined opened (from c 0 j))) (sym (add-zero k)) ∙ checks-laid k 0 ∙ append-nil (sealed 0 (from c 0 k))

-- ---- the whole
module _ (vs : List Variable) (rs : List Record) (few : length vs ≤ most_variables) (short : ShortNames vs) where
  abbrev N : ℕ
  N = length rs

  abbrev size : ℕ
  size = sheet_bytes N

  abbrev blocks : ℕ
  blocks = blocks_for N

  -- what block 0 uses
  abbrev front : List ℕ
  front = pair 1 ++ (pair N ++ (length vs ∷ []))

  abbrev used : List ℕ
  used = (front ++ replicate header_gap_bytes 0) ++ joined variable_record vs

  length-used : length used ≤ content_bytes
  length-used = omega (arith, length-records vs short)

  -- the contents by the blocks' numbers
  abbrev contents : ℕ → List ℕ
  contents zero = filled used
  contents (suc b) = node_content rs b

  length-contents : (k : ℕ) → length (contents k) ≡ content_bytes
  length-contents zero = length-filled used length-used
  length-contents (suc b) = length-filled (joined record_bytes (take nodes_in_block (drop (nodes_in_block * b) rs))) (length_taken (drop (nodes_in_block * b) rs))

  contents-are : contents_with vs rs ≡ from contents 0 (suc blocks)
  contents-are = ap (λ (l : List (List ℕ)). filled used ∷ l) (from-same (node_content rs) contents blocks 0 1 (λ b h. rw (zero-add, one-add)))

  counts-laid : with_counts N (length vs) (replicate size 0) ≡ padded size (front ++ replicate header_gap_bytes 0)
  unfolding with_counts
  counts-laid =
      ap (λ (k : ℕ). within front 0 (replicate k 0)) (sym (sub-zero size))
      ∙ within-padded size 0 [] front refl (omega arith)
      ∙ padded-zeros size header_gap_bytes front (omega arith)

  first-laid : with_variables 0 vs (with_counts N (length vs) (replicate size 0)) ≡ padded size (opened (filled used))
  first-laid =
      ap (with_variables 0 vs) counts-laid
      ∙ variables-laid size 0 vs (front ++ replicate header_gap_bytes 0) short refl (omega arith)
      ∙ block-padded size [] used length-used (omega arith)

  all_laid : with_nodes 0 rs (with_variables 0 vs (with_counts N (length vs) (replicate size 0))) ≡ joined opened (from contents 0 (suc blocks))
  all_laid =
      let l : List ℕ = opened (filled used) in
      let e : length l ≡ block_bytes = length-opened (filled used) (length-filled used length-used) in
      let whole : length (joined opened (from contents 0 (suc blocks))) ≡ size = length-joined opened contents block_bytes (suc blocks) 0 (λ j a b. length-opened (contents j) (length-contents j)) ∙ ap (λ (k : ℕ). block_bytes * k) (sym (add-one blocks)) in
      ap (with_nodes 0 rs) first-laid
      ∙ blocks-laid size blocks 0 rs l refl e (omega arith)
      ∙ ap (λ (y : List (List ℕ)). padded size (joined opened y)) contents-are
      ∙ padded-all size (joined opened (from contents 0 (suc blocks))) whole

  sheet-laid : laid vs rs ≡ sheet_with vs rs
  unfolding laid sheet_with
  sheet-laid =
      ap (with_checks (blocks + 1)) all_laid
      ∙ ap (λ (k : ℕ). with_checks k (joined opened (from contents 0 (suc blocks)))) (add-one blocks)
      ∙ checks-sealed contents length-contents (suc blocks)
      ∙ ap (sealed 0) (sym contents-are)

pub laid-sheet : (vs : List Variable) (rs : List Record) → length vs ≤ most_variables → ((i : ℕ) → i < length vs → length (get_or vs i no_variable).name ≤ most_name_bytes) → laid vs rs ≡ sheet_with vs rs
laid-sheet vs rs few short = sheet-laid vs rs few short
