-- Texts without the escape sequences of terminals: control sequences (CSI), commands (OSC) and other strings, and short ones.
use Rattle.std.specs.Prelude.{ℕ, zero, suc, Bool, not, ◌&&◌, ◌||◌, ◌==◌, List, [], ◌∷◌, chars, if◌then◌else◌}
use Rattle.std.specs.Int.{is_in_range}
use Rattle.std.specs.Str.{encode_utf8_all}
use Rattle.pg_layout.specs.Text.{Text}
use Rattle.pg_fit.specs.declared.escapes.Reading.{Reading}
use Rattle.pg_fit.specs.declared.escapes.Reading.TheVariants.{Shown, Escaped, Short, ControlSequence, ControlString}

-- ---- how many characters in front are part of a sequence: an unfinished one ends before the first other character, or with the text

-- characters of a kind, and what ends them
abbrev pub run_length : (ℕ → Bool) → (List ℕ → ℕ) → List ℕ → ℕ
run_length is_of_kind end [] = 0
run_length is_of_kind end (c ∷ cs) = if is_of_kind c then suc (run_length is_of_kind end cs) else end (c ∷ cs)

-- a final character, from the first to the last of these
abbrev pub final_length : ℕ → ℕ → List ℕ → ℕ
final_length first last [] = 0
final_length first last (c ∷ cs) = if is_in_range first last c then 1 else 0

-- parameters (`0` to `?`) and intermediates (a space to `/`), and a final character (`@` to `~`)
abbrev pub control_length : List ℕ → ℕ
control_length = run_length (is_in_range 0x20 0x3F) (final_length 0x40 0x7E)

-- intermediates (a space to `/`), and a final character (`0` to `~`)
abbrev pub short_length : List ℕ → ℕ
short_length = run_length (is_in_range 0x20 0x2F) (final_length 0x30 0x7E)

-- BEL or ST
abbrev pub ends_string : ℕ → Bool
ends_string c = (c == 7) || (c == 0x9C)

-- BEL, ST or `ESC \`
abbrev pub terminator_length : List ℕ → ℕ
terminator_length [] = 0
terminator_length (c ∷ []) = if ends_string c then 1 else 0
terminator_length (c ∷ d ∷ cs) = if ends_string c then 1 else if (c == 27) && (d == 0x5C) then 2 else 0

-- characters other than BEL, ST, an escape and a line feed, and a terminator
abbrev pub string_length : List ℕ → ℕ
string_length = run_length (λ c. not (ends_string c || (c == 27) || (c == 10))) terminator_length

-- `]` begins a command (OSC), and `P`, `X`, `^` and `_` begin other strings
abbrev pub begins_string : ℕ → Bool
begins_string c = (c == 0x5D) || (c == 0x50) || (c == 0x58) || (c == 0x5E) || (c == 0x5F)

-- a sequence behind its escape: a control sequence behind `[`, a string behind what begins one, else a short one
abbrev pub sequence_length : List ℕ → ℕ
sequence_length [] = 0
sequence_length (c ∷ cs) = if c == 0x5B then suc (control_length cs) else if begins_string c then suc (string_length cs) else short_length (c ∷ cs)

-- ---- texts without sequences

-- the characters behind the first n, without the sequences that begin there, one at each escape
abbrev pub shown_behind : ℕ → List ℕ → List ℕ
shown_behind n [] = []
shown_behind (suc n) (c ∷ cs) = shown_behind n cs
shown_behind zero (c ∷ cs) = if c == 27 then shown_behind (sequence_length cs) cs else c ∷ shown_behind 0 cs

-- a text without its escape sequences
unfoldable pub without_escapes : Text → Text
without_escapes text = encode_utf8_all (shown_behind 0 (chars text))

-- ---- what a terminal reads

-- how many characters in front are part of the sequence that it reads
abbrev pub unread : Reading → List ℕ → ℕ
unread Shown cs = 0
unread Escaped cs = sequence_length cs
unread Short cs = short_length cs
unread ControlSequence cs = control_length cs
unread ControlString cs = string_length cs
