use Rattle.std.proofs.Common.{◌≡◌, refl, ap, ◌∙◌, replicate, map, subst, Bor, List, ◌∷◌, ℕ, zero, suc}
use Rattle.std.proofs.lemmas.Iterator.Adapters.{YieldsList-from_repeat_n}
use Rattle.std.specs.Iterator.{at_most}
use Rattle.std.specs.Iterator.Adapters.{repeat_n_steps}
use Rattle.std.specs.declared.iter.RepeatN.{RepeatN}
use Rattle.pg_layout.specs.Records.{AlwaysGives, Gives}
use Rattle.pg_layout.specs.Text.{Text}
use Rattle.pg_layout.proofs.Given.{given-items}
use Rattle.pg_bench.proofs.speed.texts.MadeRecordsRecords.iter_rows.Goals as goal

map-replicate : {A B : Type 0} (f : A → B) (n : ℕ) (x : A) → map f (replicate n x) ≡ replicate n (f x)
map-replicate f zero x = refl
map-replicate f (suc n) x = ap (λ ys. f x ∷ ys) (map-replicate f n x)

-- a repeated item gives what it shows
repeats : {A B : Type 0} (view : A → B) (P : A → B → Type 0) → ((x : A) → P x (view x)) → (C : A → A → Type 0) → (s : RepeatN A) → ((y : A) → C s.item y → y ≡ s.item)
    → AlwaysGives P (repeat_n_steps C) s (replicate s.n (view s.item))
repeats view P stands C s same =
    subst (λ ys. AlwaysGives P (repeat_n_steps C) s ys) (map-replicate view s.n s.item)
    (given-items (repeat_n_steps C) view P stands (YieldsList-from_repeat_n C s.n s.item refl refl same))

-- a row gives its cells
abbrev Cells : RepeatN (Bor Text) → List Text → Type 0
Cells = Gives (λ x y. x.now ≡ y) (λ s. Unit {0}) (repeat_n_steps (λ x y. y ≡ x)) (λ s. at_most s.n)

abbrev Same : RepeatN (Bor Text) → RepeatN (Bor Text) → Type 0
Same x y = (y.item ≡ x.item) × (y.n ≡ x.n)

table : (s : RepeatN (RepeatN (Bor Text))) (columns rows : ℕ) (text : Text) → s.item.item.now ≡ text → s.item.n ≡ columns → s.n ≡ rows
    → AlwaysGives Cells (repeat_n_steps Same) s (replicate rows (replicate columns text))
table s columns rows text is across down =
    subst (λ ys. AlwaysGives Cells (repeat_n_steps Same) s ys) (λ i. replicate (down i) (replicate (across i) (is i)))
    (repeats (λ row. replicate row.n row.item.now) Cells
    (λ row. record { can_next = tt; ends = tt; gives = repeats (λ cell. cell.now) (λ x y. x.now ≡ y) (λ x. refl) (λ x y. y ≡ x) row (λ y same. same) })
    Same s (λ y same. λ i. record { item = same.0 i; n = same.1 i }))

pub returns : goal.returns
returns c =
    let row = c.repeat_n-2.ensures.item in
    record {
      can_next = (tt, tt);
      ends = tt;
      gives =
          table c.repeat_n-2.result c.args.self.columns c.args.self.rows c.args.self.text.now
          (ap (λ row. row.item.now) row ∙ ap (λ text. text.now) c.repeat_n.ensures.item) (ap (λ row. row.n) row ∙ c.repeat_n.ensures.count) c.repeat_n-2.ensures.count;
    }
