-- Follows the code: the script's texts besides those of variables and of the goal, and its first and last lines.
use Rattle.std.specs.Prelude.{ℕ, ◌+◌, Bool, List, ◌++◌, length}
use Rattle.lists.specs.Ascii.{ascii}
use Rattle.lists.specs.Joined.{joined_below}
use Rattle.layout.specs.Parts.{goal_at}
use Rattle.wording.specs.Script.{only_with}
use Rattle.lines.specs.Lines.{declaration_line, values_line}
use Rattle.terms.specs.Texts.{text_at}

-- the first lines, what stands before and behind the goal's text, and the last line
abbrev pub produce_models : List ℕ
produce_models = ascii "(set-option :produce-models true)\n"

abbrev pub set_logic : List ℕ
set_logic = ascii "(set-logic QF_UFBV)\n"

abbrev pub goal_start : List ℕ
goal_start = ascii "(assert (not"

abbrev pub goal_end : List ℕ
goal_end = ascii "))\n(check-sat)\n"

abbrev pub exit_line : List ℕ
exit_line = ascii "(exit)\n"

-- the lines before the ranges of n variables
unfoldable pub opening_lines : Bool → ℕ → List ℕ
opening_lines models n = only_with models produce_models ++ set_logic ++ joined_below declaration_line n

-- the negated goal's line, and the command behind it
unfoldable pub goal_lines : List ℕ → List ℕ
goal_lines s = goal_start ++ (ascii " " ++ text_at s (goal_at s)) ++ goal_end

-- the lines behind these, with n variables
unfoldable pub ending_lines : Bool → ℕ → List ℕ
ending_lines models n = only_with models (values_line n) ++ exit_line

-- how many bytes the goal's lines are, but for the goal's text; all this, but for the lines of variables; and what only a script with models has
abbrev pub goal_bytes : ℕ
goal_bytes = length goal_start + length (ascii " ") + length goal_end

abbrev pub frame_bytes : ℕ
frame_bytes = length set_logic + goal_bytes + length exit_line

abbrev pub models_bytes : Bool → ℕ → ℕ
models_bytes models n = length (only_with models produce_models) + length (only_with models (values_line n))
