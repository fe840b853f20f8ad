-- What only bodies and their proofs need. Of it contracts of calls from outside have only what a reader holds (`HasRead`).
use Rattle.std.specs.Prelude.{◌≡◌, ℕ, ◌+◌, ◌-◌, ◌^◌, min, nat_le, ◌==◌, ◌&&◌, ◌||◌, not, Bool, true, false, List, [], ◌∷◌, ◌++◌, fold, length, Option, Some, None, if◌then◌else◌}
use Rattle.std.specs.List.{cons_option, join_by}
use Rattle.std.specs.Option.{option_or}
use Rattle.csv.specs.Machine.{ends_at_end, field_after, fields_after, is_end, step}
use Rattle.csv.specs.Records.{fields_of, partial_of}
use Rattle.csv.specs.declared.parser.Action.{Action}
use Rattle.csv.specs.declared.parser.Action.TheVariants as act
use Rattle.csv.specs.declared.parser.State.{State}
use Rattle.csv.specs.declared.parser.State.TheVariants as st
use Rattle.memchr.specs.Find.{is_byte3}
use Rattle.ruled_csv.specs.Quotes.{is_comment, are_words, is_closing, is_plain, is_quoted, config_of, separator}
use Rattle.ruled_csv.specs.Faults.{number_of, row_fault}
use Rattle.ruled_csv.specs.Kept.{end_of, is_left_out, is_line_end}
use Rattle.ruled_csv.specs.Rows.{columns_of, columns_known, words_in}
use Rattle.ruled_csv.specs.declared.fault.RowsFault.{RowsFault}
use Rattle.ruled_csv.specs.declared.fault.RowsFault.TheVariants.{OpenQuote, BehindQuote}
use Rattle.ruled_csv.specs.declared.lines.Lines.{Lines}
use Rattle.ruled_csv.specs.declared.reader.RowReader.{RowReader}
use Rattle.ruled_csv.specs.declared.scanner.Act.{Act}
use Rattle.ruled_csv.specs.declared.scanner.Act.TheVariants as does
use Rattle.ruled_csv.specs.declared.scanner.Scanner.{Scanner}
use Rattle.ruled_csv.specs.declared.scanner.Standing.{Standing}
use Rattle.ruled_csv.specs.declared.scanner.Standing.TheVariants as at
use Rattle.ruled_csv.specs.declared.scanner.Step.{Step}
use Rattle.ruled_csv.specs.declared.dialect.Dialect.{Dialect}

-- ---- a byte

-- where the machine of csv stands
abbrev pub state_of : Standing → State
state_of at.Row = st.StartRecord
state_of at.Return = st.AfterCr
state_of at.Field = st.StartField
state_of at.Plain = st.InField
state_of at.Quoted = st.InQuoted
state_of at.Closing = st.AfterQuote

-- what it does
abbrev pub action_of : Act → Action
action_of does.Pass = act.Skip
action_of does.Open = act.Skip
action_of does.Join = act.Copy
action_of does.Behind = act.Copy
action_of does.EndField = act.EndField
action_of does.EndRow = act.EndRecord

abbrev pub step_of : Step → State × Action
step_of step = (state_of step.next, action_of step.act)

-- it opens a quote
abbrev pub is_open : Act → Bool
is_open does.Pass = false
is_open does.Open = true
is_open does.Join = false
is_open does.Behind = false
is_open does.EndField = false
is_open does.EndRow = false

-- it is text behind a closing quote
abbrev pub is_act_behind : Act → Bool
is_act_behind does.Pass = false
is_act_behind does.Open = false
is_act_behind does.Join = false
is_act_behind does.Behind = true
is_act_behind does.EndField = false
is_act_behind does.EndRow = false

-- no quote of its field stands in front
abbrev pub is_bare : State → Bool
is_bare state = not (is_quoted state || is_closing state)

-- a byte opens a quote
abbrev pub opens : State → State → Bool
opens before state = is_bare before && not (is_bare state)

-- a byte is text behind a closing quote
abbrev pub is_behind : State → State → Bool
is_behind before state = is_closing before && is_plain state

-- ---- lines

abbrev pub lines_start : Lines
lines_start = record { line = 1; is_behind_return = false }

abbrev pub lines_after : Lines → ℕ → Lines
lines_after lines byte = record {
  line = if (byte == 13) || ((byte == 10) && not lines.is_behind_return) then min (lines.line + 1) (2 ^ 64 - 1) else lines.line;
  is_behind_return = byte == 13;
}

-- behind text that ends no line
abbrev pub calm_lines : Lines → Lines
calm_lines lines = record { line = lines.line; is_behind_return = false }

-- behind a line that isn't read, and that ends with this byte
abbrev pub lines_below : Lines → ℕ → Lines
lines_below lines byte = if byte == 10 then lines_after (lines_after lines 13) 10 else lines_after lines 13

-- ---- the row at hand

pub record Hand : Type 0 where
  pub state : State
  pub fields : List (List ℕ)
  pub field : List ℕ
  pub lines : Lines
  -- the line of the quote that was opened last
  pub opened : ℕ

abbrev pub hand_of : Scanner → Hand
hand_of s = record { state = state_of s.standing; fields = fields_of s.row; field = partial_of s.row; lines = s.lines; opened = s.opened }

-- no row is at hand
abbrev pub empty_hand : Hand
empty_hand = record { state = st.StartRecord; fields = []; field = []; lines = lines_start; opened = 1 }

module _ (dialect : Dialect) (hand : Hand) (byte : ℕ) where
  -- what a byte does to it
  abbrev pub done : State × Action
  done = step (config_of dialect) hand.state byte

  abbrev pub hand_after : Hand
  hand_after = record {
    state = done.0;
    fields = if is_end done.1 then [] else fields_after done.1 hand.fields hand.field;
    field = if is_end done.1 then [] else field_after done.1 byte hand.field;
    lines = lines_after hand.lines byte;
    opened = if opens hand.state done.0 then hand.lines.line else hand.opened;
  }

  -- the row that ends with the byte
  abbrev pub row_ended : Option (List (List ℕ))
  row_ended = if is_end done.1 then Some (fields_after done.1 hand.fields hand.field) else None

  -- the byte is text behind a closing quote
  abbrev pub behind_fault : Option RowsFault
  behind_fault = if is_behind hand.state done.0 then Some (BehindQuote hand.lines.line) else None

-- behind a line that isn't read, and that ends with this byte
abbrev pub hand_below : Hand → ℕ → Hand
hand_below hand byte = record hand { state = st.StartRecord; lines = lines_below hand.lines byte }

-- the row that ends where no byte is left
abbrev pub last_row : Hand → Option (List (List ℕ))
last_row hand = if ends_at_end hand.state then Some (hand.fields ++ hand.field ∷ []) else None

-- a quote is open there
abbrev pub open_fault : Hand → Option RowsFault
open_fault hand = if is_quoted hand.state then Some (OpenQuote hand.opened) else None

-- ---- a text

-- the rows that ended, the one at hand, and the first fault of those
pub record Scan : Type 0 where
  pub rows : List (List (List ℕ))
  pub hand : Hand
  pub fault : Option RowsFault

-- a row behind these, where there is one, and what is wrong with it
abbrev pub with_row : List (List (List ℕ)) → Option (List (List ℕ)) → List (List (List ℕ))
with_row rows row = rows ++ cons_option row []

abbrev pub fault_below : Dialect → List (List (List ℕ)) → Option (List (List ℕ)) → Option RowsFault
fault_below dialect rows None = None
fault_below dialect rows (Some row) = row_fault dialect (columns_of (rows ++ row ∷ [])) (length rows) row

-- the line that these are the parts of, between tabs
abbrev pub line_of : List (List ℕ) → List ℕ
line_of fields = join_by (λ field. field) (9 ∷ []) fields

-- the row that these fields are below these rows: themselves, or the words of their line, if it has any
abbrev pub row_made : Dialect → List (List (List ℕ)) → List (List ℕ) → Option (List (List ℕ))
row_made dialect above fields = if are_words dialect.rows.fields then words_in (columns_known above) (line_of fields) else Some fields

-- the same, where there are fields: of a byte that ends a row, and where no byte is left
abbrev pub made : Dialect → List (List (List ℕ)) → Option (List (List ℕ)) → Option (List (List ℕ))
made dialect above None = None
made dialect above (Some fields) = row_made dialect above fields

abbrev pub row_at : Dialect → Scan → ℕ → Option (List (List ℕ))
row_at dialect scan byte = made dialect scan.rows (row_ended dialect scan.hand byte)

abbrev pub row_left : Dialect → Scan → Option (List (List ℕ))
row_left dialect scan = made dialect scan.rows (last_row scan.hand)

abbrev pub scan_after : Dialect → Scan → ℕ → Scan
scan_after dialect scan byte = record {
  rows = with_row scan.rows (row_at dialect scan byte);
  hand = hand_after dialect scan.hand byte;
  fault = option_or scan.fault (option_or (behind_fault dialect scan.hand byte) (fault_below dialect scan.rows (row_at dialect scan byte)));
}

abbrev pub scan_start : Scan
scan_start = record { rows = []; hand = empty_hand; fault = None }

abbrev pub scan_from : Dialect → Scan → List ℕ → Scan
scan_from dialect scan text = fold (scan_after dialect) scan text

abbrev pub scan_of : Dialect → List ℕ → Scan
scan_of dialect text = scan_from dialect scan_start text

-- ---- a run: bytes of which none is a quote and none ends a line

abbrev pub is_calm : ℕ → Bool
is_calm byte = not (is_byte3 34 13 10 byte)

-- behind a byte of a run that is in no quotes: what is in front of the next one, and the fields with the one at hand
abbrev pub state_behind : Dialect → State → ℕ → State
state_behind dialect state byte = if byte == separator dialect then st.StartField else st.InField

abbrev pub fields_behind : Dialect → List (List ℕ) × List ℕ → ℕ → List (List ℕ) × List ℕ
fields_behind dialect (fields, field) byte = if byte == separator dialect then (fields ++ field ∷ [], []) else (fields, field ++ byte ∷ [])

-- the fields that a run cuts off
abbrev pub cut_fields : Dialect → Hand → List ℕ → List (List ℕ) × List ℕ
cut_fields dialect hand run = fold (fields_behind dialect) (hand.fields, hand.field) run

abbrev pub hand_cut : Dialect → Hand → List ℕ → Hand
hand_cut dialect hand run = record hand {
  state = fold (state_behind dialect) hand.state run;
  fields = (cut_fields dialect hand run).0;
  field = (cut_fields dialect hand run).1;
}

-- among these bytes no row ends and nothing is wrong, and behind them this row is at hand
abbrev pub Joins : Dialect → List ℕ → Hand → Hand → Type 0
Joins dialect text old new = (scan : Scan) → scan.hand ≡ old → scan_from dialect scan text ≡ record scan { hand = new }

-- ---- bytes

-- what is read of a text, and whether the next byte is in a line that is left out, if it doesn't end it
pub record Left : Type 0 where
  pub kept : List ℕ
  pub is_out : Bool

module _ (dialect : Dialect) (left : Left) (byte : ℕ) where
  -- a byte isn't read: it ends no line, and is in one that is left out, or begins one
  abbrev pub leaves_out : Bool
  leaves_out = not (is_line_end byte) && (left.is_out || is_left_out dialect left.kept (byte ∷ []))

  -- what is read of it, or for it
  abbrev pub read_of : List ℕ
  read_of = if leaves_out then [] else if left.is_out then end_of byte else byte ∷ []

  abbrev pub left_after : Left
  left_after = record { kept = left.kept ++ read_of; is_out = leaves_out }

abbrev pub left_from : Dialect → Left → List ℕ → Left
left_from dialect left text = fold (left_after dialect) left text

abbrev pub left_start : Left
left_start = record { kept = []; is_out = false }

abbrev pub left_of : Dialect → List ℕ → Left
left_of dialect text = left_from dialect left_start text

-- the same of a byte, by the row at hand
abbrev pub begins_out : Dialect → Hand → ℕ → Bool
begins_out dialect hand byte = not (ends_at_end hand.state) && (nat_le hand.lines.line dialect.rows.skipped || is_comment dialect.rows.comment (byte ∷ []))

-- so many rows stand above, of so many columns
abbrev pub Counts : List (List (List ℕ)) → ℕ → Option ℕ → Type 0
Counts above rows columns = (rows ≡ number_of (length above)) × (columns ≡ columns_known above)

-- what a reader has of a scan
pub record Holds (dialect : Dialect) (scan : Scan) (reader : RowReader) : Type 0 where
  pub dialect_is : reader.scanner.dialect ≡ dialect
  pub hand : hand_of reader.scanner ≡ scan.hand
  pub counts : Counts scan.rows reader.rows reader.columns
  pub right : scan.fault ≡ None
