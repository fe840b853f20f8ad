-- What a script tells of a table, and its first bad line.
use Rattle.std.specs.Prelude.{ℕ, ◌+◌, List, [], ◌∷◌, ◌++◌, map, Option, Some, None, option_map, Result, Ok, Err, string_bytes, if◌then◌else◌, codes, decimal}
use Rattle.std.specs.Str.{bytes_eq, is_utf8}
use Rattle.std.specs.Str.Lines.{lines}
use Rattle.pg_layout.specs.Text.{Text}
use Rattle.pg_script.specs.Told.{Told, told_nothing}
use Rattle.pg_script.specs.Statement.{size_said, line_said}
use Rattle.pg_script.specs.Words.{Word, words_of, behind_word}
use Rattle.pg_script.specs.declared.script.Script.{Script}
use Rattle.pg_script.specs.declared.script.ScriptFault.{ScriptFault}
use Rattle.pg_script.specs.declared.script.ScriptFault.TheVariants.{Bad, Memory}
use Rattle.pg_script.specs.declared.statement.Size.{Size}

-- the first line with words tells the size of the table; nothing is told before it
abbrev pub Drafted : Type 0
Drafted = Option (Size × Told)

abbrev pub first_line : Word → List Word → Option Drafted
first_line keyword words =
    if bytes_eq keyword (codes "size") then option_map (λ size. Some (size, told_nothing size)) (size_said words) else None

-- each other line with words changes what was told
abbrev pub later_line : Size × Told → Word → List ℕ → Option Drafted
later_line drafted keyword line = option_map (λ change. Some (drafted.0, change drafted.1)) (line_said drafted.0 keyword line)

abbrev pub line_of_words : Drafted → List Word → List ℕ → Option Drafted
line_of_words drafted [] line = Some drafted
line_of_words None (keyword ∷ words) line = first_line keyword words
line_of_words (Some drafted) (keyword ∷ words) line = later_line drafted keyword (behind_word line)

-- what is told after one more line, unless it is bad: a line is text, and one without words says nothing
abbrev pub after_line : Drafted → List ℕ → Option Drafted
after_line drafted line = if is_utf8 line then line_of_words drafted (words_of line) line else None

-- what follows, unless the line of this number is bad
abbrev pub unless_bad : ℕ → (Drafted → Result Told ℕ) → Option Drafted → Result Told ℕ
unless_bad number follows None = Err number
unless_bad number follows (Some next) = follows next

-- what was told at the end of the script, or the number of the line after the last
abbrev pub at_last : ℕ → Drafted → Result Told ℕ
at_last number None = Err number
at_last number (Some drafted) = Ok drafted.1

-- what lines tell after others, or the number of the first bad one. The first of them has this number
abbrev pub read_lines : ℕ → Drafted → List (List ℕ) → Result Told ℕ
read_lines number drafted [] = at_last number drafted
read_lines number drafted (line ∷ rest) =
    unless_bad number (λ next. read_lines (number + 1) next rest) (after_line drafted line)

-- what a script tells of a table, or the number of its first bad line, counted from 1; where no line has words, that is
-- the line after the last one
abbrev pub told_by : List ℕ → Result Told ℕ
told_by script = read_lines 1 None (lines script)

-- what the parts of a script that was read stand for
abbrev pub told_of_script : {A : Type 0} → Script A → Told
told_of_script script = record {
  widths = script.dimension.0.items;
  heights = script.dimension.1.items;
  texts = map (λ row. map string_bytes row) script.records;
  colors = script.colors;
  config = script.config;
}

-- the words for why a script tells of no table
abbrev pub script_fault_text : ScriptFault → Text
script_fault_text (Bad line) = codes "line " ++ (decimal line ++ codes ": bad")
script_fault_text Memory = codes "out of memory"
