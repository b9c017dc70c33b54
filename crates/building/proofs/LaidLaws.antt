-- Records put into a sheet one behind the other, as the words of their expressions stand in the text. Assumes nothing.
use Prim.Native.Nat.{ℕ, ◌+◌, ◌-◌}
use mathlib.Core.Path.{◌≡◌, sym, ap, ◌∙◌}
use mathlib.Core.List.{List, [], ◌∷◌, ◌++◌, append_assoc}
use native.Mathlib.Omega.{arith}
use lib.ListN.{length, length-append}
use Rattle.lists.specs.Ascii.{ascii}
use Rattle.kinds.specs.declared.Kind.{Kind}
use Rattle.kinds.specs.declared.Record.{Record}
use Rattle.layout.specs.Nodes.{node}
use Rattle.meaning.specs.Rule.{Variable}
use Rattle.texts.specs.Expressions.{Expression, one, two, three, records_of}
use Rattle.texts.specs.Plain.{spelled}
use Rattle.sheets.specs.Laying.{with_nodes}
use Rattle.sheets.proofs.LaidLaws.{with_nodes-append}
use Rattle.building.specs.declared.Built.{Built}
use Rattle.building.specs.Building.{spelled_all, Put, Laid}

-- one record
pub laid_leaf : {w : List ℕ} {x : Record} {at n end : ℕ} {s t : List ℕ} {r : Built} → end ≡ at + length w → Put x n end s r t → Laid w (x ∷ []) at n s r t
unfolding with_nodes
laid_leaf e p = record { end = p.end ∙ e; next = p.next; sheet = p.sheet }

-- an operand behind others
pub laid-behind : {w u : List ℕ} {xs ys : List Record} {at n : ℕ} {s t z : List ℕ} {r q : Built}
    → Laid w xs at n s r t → Laid u ys (r.end + 1) r.next t q z → Laid (w ++ (ascii " " ++ u)) (xs ++ ys) at n s q z
laid-behind {w} {u} {xs} {ys} {at} {n} {s} a b = record {
  end = omega (arith, a.end, b.end, length-append w (ascii " " ++ u));
  next = omega (arith, a.next, b.next, length-append xs ys);
  sheet = b.sheet ∙ rw (a.next, a.sheet) (sym (with_nodes-append n xs ys s));
}

-- the kind's own record behind those of its operands
pub laid-top : {w : List ℕ} {xs : List Record} {x : Record} {at n : ℕ} {s t z : List ℕ} {r q : Built}
    → Laid w xs at n s r t → Put x r.next r.end t q z → Laid w (xs ++ (x ∷ [])) at n s q z
unfolding with_nodes
laid-top {w} {xs} {x} {at} {n} {s} a p = record {
  end = p.end ∙ a.end;
  next = omega (arith, a.next, p.next, length-append xs (x ∷ []));
  sheet = p.sheet ∙ rw (a.next, a.sheet) (sym (with_nodes-append n xs (x ∷ []) s));
}

-- other words for the records
laid_as : {w : List ℕ} {xs ys : List Record} {at n : ℕ} {s t : List ℕ} {r : Built} → xs ≡ ys → Laid w xs at n s r t → Laid w ys at n s r t
laid_as e l = rw (← e) l

-- ---- a kind with its operands
module _ (vs : List Variable) (k : Kind) {at n : ℕ} where
  pub laid_one : (a : Expression) {s t z : List ℕ} {p q : Built} {x : Record}
      → Laid (spelled vs a) (records_of a n) at n s p t → x ≡ node k (p.next - 1) 0 0 0 → Put x p.next p.end t q z
      → Laid (spelled_all vs (a ∷ [])) (records_of (one k a) n) at n s q z
  unfolding records_of
  laid_one a h e g = laid_as (ap (λ (y : Record). records_of a n ++ (y ∷ [])) (e ∙ ap (λ (m : ℕ). node k (m - 1) 0 0 0) h.next)) (laid-top h g)

  pub laid-two : (a b : Expression) {s t u z : List ℕ} {p q r : Built} {x : Record}
      → Laid (spelled vs a) (records_of a n) at n s p t → Laid (spelled vs b) (records_of b p.next) (p.end + 1) p.next t q u
      → x ≡ node k (p.next - 1) (q.next - 1) 0 0 → Put x q.next q.end u r z
      → Laid (spelled_all vs (a ∷ b ∷ [])) (records_of (two k a b) n) at n s r z
  unfolding records_of
  laid-two a b {p = p} {x = x} h g e o = laid_as (append_assoc (records_of a n) (records_of b p.next) (x ∷ []) ∙ rw (e, g.next, h.next)) (laid-top (laid-behind h g) o)

  pub laid-three : (a b c : Expression) {s t u v z : List ℕ} {p q r l : Built} {x : Record}
      → Laid (spelled vs a) (records_of a n) at n s p t → Laid (spelled vs b) (records_of b p.next) (p.end + 1) p.next t q u
      → Laid (spelled vs c) (records_of c q.next) (q.end + 1) q.next u r v
      → x ≡ node k (p.next - 1) (q.next - 1) (r.next - 1) 0 → Put x r.next r.end v l z
      → Laid (spelled_all vs (a ∷ b ∷ c ∷ [])) (records_of (three k a b c) n) at n s l z
  unfolding records_of
  laid-three a b c {p = p} {q = q} {x = x} h g f e o =
      let y : List Record = records_of b p.next in
      let w : List Record = records_of c q.next in
      laid_as (append_assoc (records_of a n) (y ++ w) (x ∷ []) ∙ ap (λ (l : List Record). records_of a n ++ l) (append_assoc y w (x ∷ [])) ∙ rw (e, f.next, g.next, h.next)) (laid-top (laid-behind h (laid-behind g f)) o)
