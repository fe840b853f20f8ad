-- What rows of a whole text keep, and what their fields are.
use Rattle.std.proofs.Common.{◌≡◌, ◌≤◌, ◌<◌, ◌-◌, ◌+◌, ◌∙◌, ℕ, zero, suc, Option, Some, None, List, [], ◌∷◌, ◌++◌, get_or, take, take-take, drop, length, length-append, refl, sym, ap, subst, arith}
use Rattle.std.specs.Prelude.{IsUtf8, slice_get, slice_index, slice_range}
use Rattle.std.specs.Str.{IsAscii, IsCharBoundary}
use Rattle.std.proofs.lemmas.List.{drop-append-le, drop-take, drop_all, length-take-le, take-append-drop, take_all}
use Rattle.std.proofs.lemmas.List.Elements.{same_from_all_zip}
use Rattle.std.proofs.lemmas.Option.{get_or_from_slice_get, slice_get-get_or}
use Rattle.std.proofs.lemmas.Str.{IsCharBoundary-from_ascii, IsCharBoundary-from_take, IsCharBoundary-start, IsUtf8-append, IsUtf8-between, IsUtf8-nil}
use Rattle.std.proofs.Math.Seq.{drop-append_seam, drop-length}
use Rattle.csv.specs.Records.{AllText, IsRecord, Rising, Row, cut_from, field_at, fields_of, last_end, partial_of, prev}
use Rattle.csv.proofs.RecordFacts.{cut-end, cut-length, cut-more, cut-take, field-bounds, field-cut, field-none, last-append, last_end-at, last_end-none, prev-first, prev-next, rising-end, rising-last, rising-more, rising-shrink, text-more}
use Rattle.ruled_row.specs.Cuts.{AreCuts}
use Rattle.ruled_row.specs.Parts.{IsPart}
use Rattle.ruled_row.specs.Rows.{IsWhole, ended_of}

-- a row of no fields
pub whole_none : (bytes ends : List ℕ) → bytes ≡ [] → ends ≡ [] → IsWhole (record { bytes = bytes; ends = ends })
unfolding Rising last_end
whole_none bytes ends none ended = rw (none, ended) (omega arith, refl)

pub fields_none : (bytes ends : List ℕ) → ends ≡ [] → fields_of (record { bytes = bytes; ends = ends }) ≡ []
unfolding cut_from
fields_none bytes ends ended = rw ended refl

pub text_none : (bytes ends : List ℕ) → ends ≡ [] → AllText (fields_of (record { bytes = bytes; ends = ends }))
unfolding cut_from AllText
text_none bytes ends ended = rw ended tt

-- a buffer of no fields
pub record_none : (bytes ends : List ℕ) → ends ≡ [] → IsRecord (record { bytes = bytes; ends = ends })
unfolding Rising
record_none bytes ends ended = rw ended (omega arith)

pub partial_none : (bytes ends : List ℕ) → bytes ≡ [] → partial_of (record { bytes = bytes; ends = ends }) ≡ []
partial_none bytes ends none = ap (drop (last_end 0 ends)) none ∙ drop_all (last_end 0 ends) [] (omega arith)

pub nothing : (bytes ends : List ℕ) → fields_of (record { bytes = bytes; ends = ends }) ≡ [] → partial_of (record { bytes = bytes; ends = ends }) ≡ [] → (bytes ≡ []) × (ends ≡ [])
unfolding cut_from last_end
nothing bytes [] none rest = (rest, refl)
nothing bytes (end ∷ ends) none rest = absurd (cc)

-- its fields alone are a row
pub ended_at : (ends : List ℕ) (end : ℕ) → Some end ≡ slice_get ends (length ends - 1) → last_end 0 ends ≡ end
ended_at [] end found = absurd (cc)
ended_at (e ∷ ends) end found =
    last_end-at 0 (e ∷ ends) (length ends) 0 refl
    ∙ get_or_from_slice_get (e ∷ ends) (length ends) end 0 (ap (slice_get (e ∷ ends)) (omega arith) ∙ sym found)

pub ended_none : (ends : List ℕ) → None ≡ slice_get ends (length ends - 1) → last_end 0 ends ≡ 0
ended_none [] found = last_end-none 0 [] refl
ended_none (e ∷ ends) found =
    let there = slice_get-get_or (e ∷ ends) (length ends) 0 (omega arith) in
    let here : None ≡ slice_get (e ∷ ends) (length ends) = found ∙ ap (slice_get (e ∷ ends)) (omega arith) in
    absurd (cc)

pub ended_whole : (r : Row) → IsRecord r → IsWhole (ended_of r)
ended_whole r rises =
    let last : last_end 0 r.ends ≤ length r.bytes = rising-last 0 r.ends (length r.bytes) rises in
    let size : length (take (last_end 0 r.ends) r.bytes) ≡ last_end 0 r.ends = length-take-le (last_end 0 r.ends) r.bytes last in
    (rw size (rising-shrink 0 r.ends (length r.bytes) (last_end 0 r.ends) rises (omega arith)), sym size)

pub ended_fields : (r : Row) → IsRecord r → fields_of (ended_of r) ≡ fields_of r
ended_fields r rises = cut-take 0 r.ends r.bytes (last_end 0 r.ends) rises (omega arith) (rising-last 0 r.ends (length r.bytes) rises)

-- a buffer with more bytes
pub record_more : (r : Row) (field : List ℕ) → IsRecord r → IsRecord (record { bytes = r.bytes ++ field; ends = r.ends })
record_more r field rises = rising-more 0 r.ends (length r.bytes) (length (r.bytes ++ field)) rises (omega (arith, length-append r.bytes field))

pub fields_stay : (r : Row) (field : List ℕ) → IsRecord r → fields_of (record { bytes = r.bytes ++ field; ends = r.ends }) ≡ fields_of r
fields_stay r field rises = cut-more 0 r.ends r.bytes field rises

pub partial_more : (r : Row) (field : List ℕ) → IsRecord r → partial_of (record { bytes = r.bytes ++ field; ends = r.ends }) ≡ partial_of r ++ field
partial_more r field rises = drop-append-le (last_end 0 r.ends) r.bytes field (rising-last 0 r.ends (length r.bytes) rises)

-- a buffer whose field ends
abbrev pub with_end : Row → Row
with_end r = record { bytes = r.bytes; ends = r.ends ++ (length r.bytes ∷ []) }

pub record_end : (r : Row) → IsRecord r → IsRecord (with_end r)
record_end r rises = rising-end 0 r.ends (length r.bytes) rises

pub fields_end : (r : Row) → IsRecord r → fields_of (with_end r) ≡ fields_of r ++ (partial_of r ∷ [])
fields_end r rises = cut-end 0 r.ends r.bytes rises

pub partial_end : (r : Row) → partial_of (with_end r) ≡ []
partial_end r = rw (last-append 0 r.ends (length r.bytes)) (drop-length r.bytes)

-- a row with one more field
abbrev pub with_field : Row → List ℕ → Row
with_field r field = record { bytes = r.bytes ++ field; ends = r.ends ++ (length (r.bytes ++ field) ∷ []) }

pub whole_more : (r : Row) (field : List ℕ) → IsWhole r → IsWhole (with_field r field)
whole_more r field whole =
    let long : length r.bytes ≤ length (r.bytes ++ field) = omega (arith, length-append r.bytes field) in
    (rising-end 0 r.ends (length (r.bytes ++ field)) (rising-more 0 r.ends (length r.bytes) (length (r.bytes ++ field)) whole.0 long), last-append 0 r.ends (length (r.bytes ++ field)))

pub fields_more : (r : Row) (field : List ℕ) → IsWhole r → fields_of (with_field r field) ≡ fields_of r ++ field ∷ []
fields_more r field whole =
    let long : length r.bytes ≤ length (r.bytes ++ field) = omega (arith, length-append r.bytes field) in
    let rises = rising-more 0 r.ends (length r.bytes) (length (r.bytes ++ field)) whole.0 long in
    let last : drop (last_end 0 r.ends) (r.bytes ++ field) ≡ field = ap (λ (n : ℕ). drop n (r.bytes ++ field)) whole.1 ∙ drop-append_seam r.bytes field in
    cut-end 0 r.ends (r.bytes ++ field) rises
    ∙ ap (λ (front : List (List ℕ)). front ++ (drop (last_end 0 r.ends) (r.bytes ++ field) ∷ [])) (cut-more 0 r.ends r.bytes field whole.0)
    ∙ ap (λ (f : List ℕ). fields_of r ++ (f ∷ [])) last

pub text_more : (r : Row) (field : List ℕ) → IsWhole r → AllText (fields_of r) → IsUtf8 field → AllText (fields_of (with_field r field))
text_more r field whole texts text = subst AllText (sym (fields_more r field whole)) (text-more (fields_of r) field texts text)

-- the text up to the end of a field
step : (s e : ℕ) (bytes : List ℕ) → s ≤ e → IsUtf8 (take s bytes) → IsUtf8 (take (e - s) (drop s bytes)) → IsUtf8 (take e bytes)
step s e bytes le front field =
    let size : s + (e - s) ≡ e = omega (arith, le) in
    let rest : drop s (take e bytes) ≡ take (e - s) (drop s bytes) = ap (λ (n : ℕ). drop s (take n bytes)) (sym size) ∙ drop-take s (e - s) bytes in
    let whole : take s bytes ++ take (e - s) (drop s bytes) ≡ take e bytes =
    ap (λ (xs : List ℕ). xs ++ take (e - s) (drop s bytes)) (sym (take-take s e bytes le))
    ∙ ap (λ (xs : List ℕ). take s (take e bytes) ++ xs) (sym rest)
    ∙ take-append-drop s (take e bytes)
    in
    subst IsUtf8 whole (IsUtf8-append (take s bytes) (take (e - s) (drop s bytes)) front field)

front-text : (s : ℕ) (ends bytes : List ℕ) (i : ℕ) → Rising s ends (length bytes) → AllText (cut_from s ends bytes) → IsUtf8 (take s bytes) → i < length ends → IsUtf8 (take (get_or ends i 0) bytes)
unfolding Rising AllText cut_from
front-text s [] bytes i rises texts front lt = absurd (omega (arith, lt))
front-text s (e ∷ ends) bytes zero rises texts front lt = step s e bytes rises.0 front texts.0
front-text s (e ∷ ends) bytes (suc i) rises texts front lt = front-text e ends bytes i rises.1 texts.1 (step s e bytes rises.0 front texts.0) (omega (arith, lt))

all-text : (s : ℕ) (ends bytes : List ℕ) → Rising s ends (length bytes) → AllText (cut_from s ends bytes) → IsUtf8 (take s bytes) → IsUtf8 (take (last_end s ends) bytes)
unfolding Rising AllText cut_from last_end
all-text s [] bytes rises texts front = front
all-text s (e ∷ ends) bytes rises texts front = all-text e ends bytes rises.1 texts.1 (step s e bytes rises.0 front texts.0)

-- the fields of a row are texts, and so is the whole
pub text_whole : (r : Row) → IsWhole r → AllText (fields_of r) → IsUtf8 r.bytes
text_whole r whole texts =
    subst IsUtf8 (ap (λ (n : ℕ). take n r.bytes) whole.1 ∙ take_all (length r.bytes) r.bytes (omega arith)) (all-text 0 r.ends r.bytes whole.0 texts IsUtf8-nil)

-- a field ends, and begins, where a character does
pub end_cut : (r : Row) (i : ℕ) → IsWhole r → AllText (fields_of r) → IsUtf8 r.bytes → i < length r.ends → IsCharBoundary r.bytes (get_or r.ends i 0)
end_cut r i whole texts text lt =
    IsCharBoundary-from_take r.bytes (get_or r.ends i 0) text (field-bounds 0 r.ends (length r.bytes) i whole.0 lt).1 (front-text 0 r.ends r.bytes i whole.0 texts IsUtf8-nil lt)

pub start_cut : (r : Row) (i : ℕ) → IsWhole r → AllText (fields_of r) → IsUtf8 r.bytes → i < length r.ends → IsCharBoundary r.bytes (prev 0 r.ends i)
start_cut r zero whole texts text lt = rw (prev-first r.ends) (IsCharBoundary-start r.bytes text)
start_cut r (suc i) whole texts text lt =
    let same : prev 0 r.ends (i + 1) ≡ get_or r.ends i 0 = prev-next 0 r.ends i 0 (omega (arith, lt)) in
    let next : suc i ≡ i + 1 = omega arith in
    subst (λ (n : ℕ). IsCharBoundary r.bytes n) (sym (ap (prev 0 r.ends) next ∙ same)) (end_cut r i whole texts text (omega (arith, lt)))

-- the fields of a text are texts, if each ends where a character does
cut-text : (s : ℕ) (ends bytes : List ℕ) → Rising s ends (length bytes) → IsUtf8 bytes → IsCharBoundary bytes s → ((k : ℕ) → k < length ends → IsCharBoundary bytes (get_or ends k 0)) → AllText (cut_from s ends bytes)
unfolding Rising AllText cut_from
cut-text s [] bytes rises text start cuts = tt
cut-text s (e ∷ ends) bytes rises text start cuts =
    let here = cuts 0 (omega arith) in
    (IsUtf8-between bytes s e text rises.0 start here, cut-text e ends bytes rises.1 text here (λ k lt. cuts (suc k) (omega (arith, lt))))

pub all_cut : (r : Row) → IsWhole r → IsUtf8 r.bytes → AreCuts r.bytes r.ends → AllText (fields_of r)
all_cut r whole text cuts = cut-text 0 r.ends r.bytes whole.0 text (IsCharBoundary-start r.bytes text) cuts

-- where a field begins: at 0, or where the one before it ends
pub start_first : (ends : List ℕ) (field : ℕ) → field ≡ 0 → 0 ≡ prev 0 ends field
start_first ends field first = sym (ap (prev 0 ends) first ∙ prev-first ends)

pub start_next : (ends : List ℕ) (field : ℕ) → (field ≡ 0 → ⊥) → field < length ends → get_or ends (field - 1) 0 ≡ prev 0 ends field
start_next ends field some within =
    let back : field - 1 + 1 ≡ field = omega (arith, some) in
    sym (ap (prev 0 ends) (sym back) ∙ prev-next 0 ends (field - 1) 0 (omega (arith, back, within)))

-- where a field begins and ends, and what it is
module _ (r : Row) (place start end : ℕ) (part : IsPart r.ends place (Some (start, end))) where
  pub part_bounds : IsRecord r → (start ≤ end) × (end ≤ length r.bytes)
  part_bounds rises =
      let bounds = field-bounds 0 r.ends (length r.bytes) place rises part.0 in
      (omega (arith, bounds.0, part.2, part.3), omega (arith, bounds.1, part.3))

  pub part_value : Some (take (end - start) (drop start r.bytes)) ≡ field_at (fields_of r) place
  part_value = rw (part.2, part.3) (sym (field-cut 0 r.ends r.bytes place part.0))

  pub part_cuts : IsWhole r → AllText (fields_of r) → IsUtf8 r.bytes → IsCharBoundary r.bytes start × IsCharBoundary r.bytes end
  part_cuts whole texts text =
      let cut : ℕ → Type 0 = λ n. IsCharBoundary r.bytes n in
      (subst cut (sym part.2) (start_cut r place whole texts text part.0), subst cut (sym part.3) (end_cut r place whole texts text part.0))

-- past the last field is none
pub part_none : (r : Row) (place : ℕ) → length r.ends ≤ place → None ≡ field_at (fields_of r) place
part_none r place past = sym (field-none (fields_of r) place (omega (arith, past, cut-length 0 r.ends r.bytes)))

-- a text of ASCII may be cut where its fields end
pub ascii_cuts : (r : Row) → IsWhole r → IsAscii r.bytes → AreCuts r.bytes r.ends
ascii_cuts r whole ascii k lt = IsCharBoundary-from_ascii r.bytes (get_or r.ends k 0) ascii (field-bounds 0 r.ends (length r.bytes) k whole.0 lt).1

pub cuts_of : (r : Row) → IsWhole r → AllText (fields_of r) → AreCuts r.bytes r.ends
cuts_of r whole texts k lt = end_cut r k whole texts (text_whole r whole texts) lt

-- how many fields there are
pub ruleset field_count = (cut-length)
