-- The first word looked up in the table of words, and a name's last bytes. Assumes nothing.
use Prim.Native.Nat.{ℕ}
use mathlib.Core.Path.{◌≡◌, refl, ap, ap₂, ◌∙◌}
use mathlib.Core.Bool.{Bool, true, false, cond, ◌&&◌}
use mathlib.Core.List.{List, [], ◌∷◌}
use denote.Ref.{Bor}
use lib.Dec.{eqb}
use lib.Pointwise.{pointwise}
use Rattle.std.specs.Prelude.{Option, Some, None, MatchOption, IsSomeAnd}
use Rattle.std.specs.List.{find}
use Rattle.std.specs.Option.{option_map}
use Rattle.std.specs.Str.{bytes_eq}
use Rattle.lists.specs.Names.{same_bytes}
use Rattle.replies.proofs.ByteLaws.{eqb_turned}
use Rattle.words.proofs.Naming.{equal-bytes}
use Rattle.ragwashin.specs.declared.Word.{Word}
use Rattle.ragwashin.specs.Words.{meant, word_of}

-- a row of the table: a text, and what it means
abbrev Row : Type 0
Row = Bor (List ℕ) × Word

abbrev word_at : Option Row → Option Word
word_at None = None
word_at (Some r) = Some r.1

abbrev pub word_in : List Row → List ℕ → Option Word
word_in [] t = None
word_in (r ∷ rs) t = meant (same_bytes t r.0.now) r.1 (word_in rs t)

row-at : (r : Row) (o : Option Row) (k : Option Word) (x y : Bool) → y ≡ x → word_at o ≡ k → word_at (cond x (Some r) o) ≡ meant y r.1 k
row-at r o k true y e f = rw e
row-at r o k false y e f = rw e f

in-rows : (rs : List Row) (t : List ℕ) → word_at (find (λ r. bytes_eq t r.0.now) rs) ≡ word_in rs t
in-rows [] t = refl
in-rows (r ∷ rs) t =
    row-at r (find (λ r. bytes_eq t r.0.now) rs) (word_in rs t) (bytes_eq t r.0.now) (same_bytes t r.0.now) (equal-bytes t r.0.now) (in-rows rs t)

told : (o : Option (Bor Row)) (r : Option Word) (Q : Bor Row → Word → Type 0) → MatchOption o (r ≡ None) (λ x. IsSomeAnd r (Q x)) → ((x : Bor Row) (w : Word) → Q x w → w ≡ x.now.1) → r ≡ word_at (option_map (λ b. b.now) o)
told None r Q m f = m
told (Some x) None Q m f = absurd m
told (Some x) (Some w) Q m f = ap Some (f x w m)

-- what the search finds in the rows rs, which are those of the table
pub looked-up : (t : List ℕ) (rs : List Row) {table : List Row} → rs ≡ table → word_in table t ≡ word_of t → (o : Option (Bor Row)) → option_map (λ b. b.now) o ≡ find (λ r. bytes_eq t r.0.now) rs → (r : Option Word) (Q : Bor Row → Word → Type 0) → MatchOption o (r ≡ None) (λ x. IsSomeAnd r (Q x)) → ((x : Bor Row) (w : Word) → Q x w → w ≡ x.now.1) → r ≡ word_of t
looked-up t rs h k o e r Q m f = told o r Q m f ∙ ap word_at e ∙ in-rows rs t ∙ ap (λ (l : List Row). word_in l t) h ∙ k

-- equal bytes, as the library tests an ending
pub same-ending : (end s : List ℕ) → pointwise eqb end s ≡ same_bytes s end
unfolding same_bytes
same-ending [] [] = refl
same-ending [] (c ∷ s) = refl
same-ending (b ∷ end) [] = refl
same-ending (b ∷ end) (c ∷ s) = ap₂ ◌&&◌ (eqb_turned b c) (same-ending end s)
