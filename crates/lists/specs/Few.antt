-- Lists of exactly 0 to 3 things; d is given for any other.
use Rattle.std.specs.Prelude.{List, [], ◌∷◌}

module _ {A B : Type 0} (d : B) where
  abbrev pub exactly0 : B → List A → B
  exactly0 r [] = r
  exactly0 r (x ∷ xs) = d

  abbrev pub exactly1 : (A → B) → List A → B
  exactly1 f [] = d
  exactly1 f (x ∷ xs) = exactly0 (f x) xs

  abbrev pub exactly2 : (A → A → B) → List A → B
  exactly2 f [] = d
  exactly2 f (x ∷ xs) = exactly1 (f x) xs

  abbrev pub exactly3 : (A → A → A → B) → List A → B
  exactly3 f [] = d
  exactly3 f (x ∷ xs) = exactly2 (f x) xs
