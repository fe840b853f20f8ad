-- A table as HTML: one part more, and no text of a cell begins or ends a tag.
use Rattle.std.proofs.Common.{◌≡◌, ℕ, ◌+◌, ◌==◌, ◌||◌, not, Bool, true, false, List, [], ◌∷◌, ◌++◌, flat_map, chars, refl, sym, ap, arith, ◌∙◌, inl, inr}
use Rattle.std.specs.Char.{encode_utf8}
use Rattle.std.specs.List.{list_all, range_with_len}
use Rattle.std.proofs.lemmas.Bool.{cases_Bool}
use Rattle.std.proofs.lemmas.List.{flat_map_more}
use Rattle.pg_layout.specs.Text.{Text}
use Rattle.pg_fit.proofs.LawsOfTexts.{Lacks, encode-lacks}
use Rattle.pg_table.specs.Markup.{reference_of, html_text, TextsOpenNoTag}
use Rattle.pg_table.proofs.Rearranged.{range-more}

pub one_more : (f : ℕ → Text) (before : Text) (n : ℕ) → (before ++ flat_map f (range_with_len 0 n)) ++ f n ≡ before ++ flat_map f (range_with_len 0 (n + 1))
one_more f before n = flat_map_more f before (range_with_len 0 n) n ∙ ap (λ xs. before ++ flat_map f xs) (sym (range-more n))

-- ---- texts

abbrev opens_none : ℕ → Bool
opens_none b = not ((b == 60) || ((b == 62) || (b == 34)))

all-lacked : (bs : Text) → Lacks 60 bs → Lacks 62 bs → Lacks 34 bs → list_all opens_none bs ≡ true
all-lacked [] p q r = refl
all-lacked (b ∷ bs) p q r = rw (p.0, q.0, r.0) (all-lacked bs p.1 q.1 r.1)

all-append : (xs ys : Text) → list_all opens_none xs ≡ true → list_all opens_none ys ≡ true → list_all opens_none (xs ++ ys) ≡ true
all-append [] ys p q = q
all-append (x ∷ xs) ys p q =
    elim (cases_Bool (opens_none x)) [
      | inl is_so ↦ rw is_so (all-append xs ys (rw is_so at p) q)
      | inr is_not ↦ absurd (let f : false ≡ true = rw is_not at p in cc)
    ]

reference-opens_none : (c : ℕ) → list_all opens_none (reference_of c) ≡ true
reference-opens_none c =
    elim (cases_Bool (c == 38)) [
      | inl is ↦ rw is refl
      | inr no_and ↦ elim (cases_Bool (c == 60)) [
        | inl is ↦ rw (no_and, is) refl
        | inr no_less ↦ elim (cases_Bool (c == 62)) [
          | inl is ↦ rw (no_and, no_less, is) refl
          | inr no_more ↦ elim (cases_Bool (c == 34)) [
            | inl is ↦ rw (no_and, no_less, no_more, is) refl
            | inr no_quote ↦ rw (no_and, no_less, no_more, no_quote)
                (all-lacked (encode_utf8 c) (encode-lacks 60 c (omega arith) no_less) (encode-lacks 62 c (omega arith) no_more) (encode-lacks 34 c (omega arith) no_quote))
          ]
        ]
      ]
    ]

all-references : (cs : List ℕ) → list_all opens_none (flat_map reference_of cs) ≡ true
all-references [] = refl
all-references (c ∷ cs) = all-append (reference_of c) (flat_map reference_of cs) (reference-opens_none c) (all-references cs)

pub texts_open_no_tag : TextsOpenNoTag
unfolding html_text
texts_open_no_tag text = all-references (chars text)
