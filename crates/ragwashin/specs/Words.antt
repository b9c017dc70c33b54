-- What the program's first word asks for, and which files have texts in them.
use Rattle.std.specs.Prelude.{ℕ, ◌-◌, Bool, true, false, List, length, drop, Option, None, Some}
use Rattle.lists.specs.Ascii.{ascii}
use Rattle.lists.specs.Names.{same_bytes}
use Rattle.answers.specs.declared.Request.{Request}
use Rattle.answers.specs.declared.Request.TheVariants.{Read, Script, Ask, Check, Tally}
use Rattle.ragwashin.specs.declared.Job.{Job}
use Rattle.ragwashin.specs.declared.Job.TheVariants.{Make, Text, Answer}
use Rattle.ragwashin.specs.declared.Word.{Word}
use Rattle.ragwashin.specs.declared.Word.TheVariants.{Asks, Reply, Help}

-- this where it is meant, or else the other
abbrev pub meant : Bool → Word → Option Word → Option Word
meant true this other = Some this
meant false this other = other

-- what the first word means: an answer, or something else
abbrev pub other_word : List ℕ → Option Word
other_word t =
    meant (same_bytes t (ascii "make")) (Asks Make) (
    meant (same_bytes t (ascii "text")) (Asks Text) (
    meant (same_bytes t (ascii "reply")) Reply (
    meant (same_bytes t (ascii "--help")) Help None)))

abbrev pub word_of : List ℕ → Option Word
word_of t =
    meant (same_bytes t (ascii "read")) (Asks (Answer Read)) (
    meant (same_bytes t (ascii "script")) (Asks (Answer Script)) (
    meant (same_bytes t (ascii "ask")) (Asks (Answer Ask)) (
    meant (same_bytes t (ascii "check")) (Asks (Answer Check)) (
    meant (same_bytes t (ascii "tally")) (Asks (Answer Tally)) (other_word t)))))

-- whether every answer to the request is one line
abbrev pub is_line : Request → Bool
is_line Read = true
is_line Script = false
is_line Ask = false
is_line Check = true
is_line Tally = true

-- whether what is done with an input always writes one line
abbrev pub gives_lines : Job → Bool
gives_lines Make = false
gives_lines Text = false
gives_lines (Answer request) = is_line request

-- whether a file of this name has a text in it: the name's last five bytes are these
abbrev pub is_text : List ℕ → Bool
is_text name = same_bytes (drop (length name - 5) name) (ascii ".rule")
