-- The scan word by word: what is left of the text is left where the whole is, and where there is no way on it is left there. Assumes nothing.
use Prim.Native.Nat.{ℕ, suc, ◌+◌, ◌<◌, ◌≤◌}
use mathlib.Core.Path.{◌≡◌, refl, sym, ap, ◌∙◌}
use mathlib.Core.Bool.{false, cond}
use mathlib.Core.List.{List, []}
use mathlib.Core.Option.{Option, none, some}
use native.Mathlib.Decide.{dec_lt}
use native.Mathlib.Omega.{arith}
use lib.ListN.{length, get_or, drop, length-drop}
use mir.Syntax.{w64}
use mir.Val.{Fits}
use borrow.Author.Tests.{le-leb, lt-leb}
use Rattle.std.specs.Prelude.{Result, Ok, Err}
use Rattle.grammar.specs.Words.{word_length}
use Rattle.grammar.specs.Words as words
use Rattle.grammar.proofs.BeginLaws.{leaves-as}
use Rattle.grammar.proofs.ScanLaws.{word-inside, reach-inside}
use Rattle.texts.specs.Places.{separates, first_word, names_in, Place, line, named, least, most, operand, done, allowed, final, begins, reach}
use Rattle.texts.proofs.ScanLaws.{place_behind, first-length, pass-at, stop-none-at, stop-short-at, stop-other-at, reach-at, done_at_end, done-at-more}
use Rattle.texts.proofs.PlaceExactly.{place_of, lines-exactly, leaves-exactly}
use Rattle.texts.proofs.TextLaws.{text-lines}
use Rattle.scan.specs.declared.Phase.{Phase}
use Rattle.scan.specs.declared.Phase.TheVariants.{Line, Named, Least, Most, Operand, Done}
use Rattle.scan.specs.declared.Here.{Here}
use Rattle.scan.specs.Scanned.{ScanSays}
use Rattle.scan.specs.States.{place_in, place_at, end_at, behind_lines, Stands, Went, Stuck, stop_of, is_done, stop_done, stop_at}

-- ---- where there is no way on

-- no word that may stand at the place p, from k on, has its separator behind it
abbrev NoWay : Place → List ℕ → ℕ → Type 0
NoWay p s k = (x : words.Onward Place) → k + word_length separates (drop k s) < length s → allowed p (first_word (drop k s)) ≡ some x → x.separator ≡ get_or s (k + word_length separates (drop k s)) 0 → ⊥

stuck-stop : (p : Place) (s : List ℕ) (k : ℕ) → final p ≡ false → NoWay p s k → place_behind p k (drop k s) ≡ some (k + reach p (first_word (drop k s)))
stuck-stop p s k f n = go (allowed p (first_word (drop k s))) refl (dec_lt (k + word_length separates (drop k s)) (length s))
  where
    go : (o : Option (words.Onward Place)) → allowed p (first_word (drop k s)) ≡ o → Dec (k + word_length separates (drop k s) < length s) → place_behind p k (drop k s) ≡ some (k + reach p (first_word (drop k s)))
    go none e d = stop-none-at p s k refl f e
    go (some x) e (yes l) =
        stop-other-at p s k refl f l e (λ q. n x l e q)
        ∙ ap (λ (m : ℕ). some (k + m)) (sym (reach-at p s k refl e))
    go (some x) e (no l) = stop-short-at p s k refl f (omega arith)

done-stop : (s : List ℕ) (k : ℕ) → place_behind done k (drop k s) ≡ stop_done s k
done-stop s k = elim (dec_lt k (length s)) [
  | yes l ↦ done-at-more s k l ∙ sym (rw (lt-leb (length s) k l))
  | no m ↦ done_at_end s k (omega arith) ∙ sym (rw (le-leb (length s) k (let i : length s ≤ k = omega arith in i)))
]

stop-in : (p : Phase) (names : List (List ℕ)) (n : ℕ) (s : List ℕ) (k : ℕ) → NoWay (place_in names p n) s k → place_behind (place_in names p n) k (drop k s) ≡ cond (is_done p) (stop_done s k) (some (k + reach (place_in names p n) (first_word (drop k s))))
unfolding final
stop-in Line names n s k w = stuck-stop (line names) s k refl w
stop-in Named names n s k w = stuck-stop (named names) s k refl w
stop-in Least names n s k w = stuck-stop (least names) s k refl w
stop-in Most names n s k w = stuck-stop (most names) s k refl w
stop-in Operand names n s k w = stuck-stop (operand names n) s k refl w
stop-in Done names n s k w = done-stop s k

-- the place lies inside the text
module _ (p : Place) (s : List ℕ) (k : ℕ) {w : List ℕ} {r : ℕ} (e : w ≡ first_word (drop k s)) (f : r ≡ reach p w) where
  pub left_is : k + r ≡ k + reach p (first_word (drop k s))
  left_is = ap (λ (m : ℕ). k + m) (f ∙ ap (reach p) e)

  pub left-room : k ≤ length s → length s < 18446744073709551616 → Fits w64 (k + r)
  left-room h l = record { fits = omega (arith, left_is, reach-inside (begins p) [] (first_word (drop k s)), first-length (drop k s), word-inside separates (drop k s), length-drop k s) }

-- ---- what the answer says

says : (s : List ℕ) (r : Result Unit ℕ) → place_of s ≡ stop_of r → ScanSays s r
says s (Ok _) e = (text-lines s).1 ((lines-exactly s).0 e)
says s (Err p) e = (leaves-as text-lines s p).1 ((leaves-exactly s p).0 e)

-- ---- the loop

abbrev pub begin : Here
begin = record { phase = Line; pending = 0; declared = 0; start = 0 }

pub begin-stands : (s : List ℕ) → Stands s begin
unfolding behind_lines
begin-stands s = record { inside = omega arith; few-operands = omega arith; few-names = omega arith; lines = refl }

-- from h on the text is left where it is
pub record Scanning (s : List ℕ) (h : Here) : Type 0 where
  pub stands : Stands s h
  pub same : place_of s ≡ place_behind (place_at s h) h.start (drop h.start s)

pub scanning-begin : (s : List ℕ) → Scanning s begin
unfolding names_in
scanning-begin s = record { stands = begin-stands s; same = refl }

module _ {s : List ℕ} {h : Here} (w : Scanning s h) where
  pub scanning-turn : {g : Here} → Went s h g → Scanning s g
  scanning-turn {g} v =
      let e : suc (end_at s h) ≡ g.start = omega (arith, v.behind) in
      record {
        stands = v.stands;
        same = w.same ∙ pass-at (place_at s h) s h.start refl v.inside v.word refl ∙ ap (λ (k : ℕ). place_behind (place_at s g) k (drop k s)) e;
      }

  pub scanning-end : Stuck s h → (r : Result Unit ℕ) → stop_of r ≡ stop_at s h → ScanSays s r
  scanning-end n r e = says s r (w.same ∙ stop-in h.phase (names_in h.declared s) h.pending s h.start n ∙ sym e)
