use Rattle.std.proofs.Common.{◌≡◌, ◌∙◌, ◌-◌, ◌++◌, ℕ, List, Some, Err, Ok, length, take, drop, refl, length-take, length-drop, Bor, sym, subst, arith}
use Rattle.std.proofs.lemmas.Grind.{common_steps}
use Rattle.ruled_database.specs.Trees.{page, Read, Gives, GivesPage, chain}
use Rattle.ruled_database.specs.declared.file.File.{File}
use Rattle.ruled_database.proofs.Tabling.{gives_nothing, chain_none, gives_chain, gives_no_chain, handed_on}
use Rattle.ruled_database.proofs.overflow.Overflow.read_chain.Goals as goal

pub returns-in_err-page-clause-bytes : goal.returns-in_err-page-clause-bytes
returns-in_err-page-clause-bytes c =
    let file = c.args.self.now.file.bytes.now in
    let l = c.loop-left in
    let fault = c.in_err-page.field-0.0 in
    let fails = subst (λ (f : File). GivesPage (λ (bytes : Bor (List ℕ)). bytes.now) (page f.bytes.now l.number) l.self.left c.page.new.self.left (Err fault)) l.invariant.file c.in_err-page.ensures.page in
    let here = gives_no_chain file l.invariant.pages (l.invariant.pages - 1) l.number l.left (omega (arith, l.invariant.enough, c.loop-left-test.true)) c.loop-left-test.true ℕ (λ (bytes : Bor (List ℕ)). bytes.now) l.self.left
    c.page.new.self.left l.bytes.items l.bytes.items fault fails in
    handed_on ℕ (chain file c.args.count c.args.first c.args.count) c.args.self.now.left c.page.new.self.left c.args.bytes.now.items l.bytes.items c.from_residual.result fault c.from_residual.ensures.1
    (l.invariant.goes c.page.new.self.left l.bytes.items (Err fault) here)

pub loop-left-preserved : goal.loop-left-preserved
loop-left-preserved c =
    let file = c.args.self.now.file.bytes.now in
    let l = c.loop-left in
    let pages = l.invariant.pages in
    let bytes = c.in_ok-page.page.now in
    let here = take c.min.result (take (length bytes - 4) (drop 4 bytes)) in
    let is : here ≡ take l.left (drop 4 bytes) = grind (arith, common_steps) in
    let found : page file l.number ≡ Some bytes = subst (λ (f : File). page f.bytes.now l.number ≡ Some bytes) l.invariant.file c.in_ok-page.ensures.page.0 in
    let added : c.extend_from_slice.new.self.items ≡ l.bytes.items ++ here = grind (arith, common_steps) in
    record {
      file = c.page.ensures.file ∙ l.invariant.file;
      pages = pages - 1;
      enough = simp (length-take, length-drop) (omega (arith, l.invariant.enough, c.in_ok-page.ensures.usable));
      goes = λ k new r gives. l.invariant.goes k new r
          (gives_chain file pages (pages - 1) l.number l.left (omega (arith, l.invariant.enough, c.loop-left-test.true)) c.loop-left-test.true bytes here c.get_u32-number.result (l.left - length here)
          l.self.left c.page.new.self.left k l.bytes.items c.extend_from_slice.new.self.items new r found c.in_ok-page.ensures.page.1 is added c.get_u32-number.ensures refl gives);
    }

pub returns-clause-bytes : goal.returns-clause-bytes
returns-clause-bytes c =
    let file = c.args.self.now.file.bytes.now in
    let l = c.loop-left in
    let none : l.left ≡ 0 = omega (arith, c.loop-left-test.false) in
    let here = subst (λ (read : Read (List ℕ)). Gives {U = ℕ} read l.self.left l.self.left l.bytes.items l.bytes.items (Ok 0)) (sym (chain_none file l.invariant.pages l.number l.left none)) (gives_nothing l.self.left l.bytes.items) in
    l.invariant.goes l.self.left l.bytes.items (Ok 0) here
