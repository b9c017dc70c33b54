-- What was read of an input whose bytes are known.
use Rattle.std.specs.Prelude.{ℕ, ◌≡◌, Bool, true, List, [], take, IfSome}
use Rattle.std.specs.declared.option.Option.{Option}
use Rattle.std.specs.Io.KnownBytes.{Consumes, IsAtEnd}

-- where fewer bytes than the most were read and the input is told to have ended, none was left
abbrev pub HasEnded : Option (List ℕ) → Option (List ℕ) → ℕ → ℕ → Bool → Type 0
HasEnded before after size most ended = (size ≡ most → ⊥) → ended ≡ true → Consumes before after [] × IsAtEnd after

-- what was read is the input, or as much of its front as the most
abbrev pub HasRead : Option (List ℕ) → List ℕ → ℕ → Type 0
HasRead before read most = IfSome before (λ all. read ≡ take most all)
