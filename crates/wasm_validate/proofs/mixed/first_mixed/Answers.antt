use Rattle.std.proofs.Common.{◌+◌, map, take, drop, sym, ap, ◌∙◌, subst}
use Rattle.wasm_tree.specs.Views.{import_of}
use Rattle.wasm_lang_valid.specs.Measures.{first_mixed}
use Rattle.wasm_validate.specs.Mixed.{AreNames}
use Rattle.wasm_validate.proofs.ImportNames.{imports_from, imports_to, mixed_on}
use Rattle.wasm_validate.proofs.mixed.first_mixed.Goals as goal

pub loop-i-preserved : goal.loop-i-preserved
loop-i-preserved c =
    let l = c.loop-i in
    let at = c.index-imports-i in
    let x = import_of at.result in
    let before = map import_of (take l.i c.args.imports.now) in
    let rest = map import_of (drop (l.i + 1) c.args.imports.now) in
    let from = imports_from c.args.imports.now l.i at.result at.is c.loop-i-test.true in
    let to = imports_to c.args.imports.now l.i at.result at.is c.loop-i-test.true in
    record {
      names = subst (AreNames c.add.new.self) (sym to) (c.in_ok-add.ensures before l.invariant.names);
      rest = l.invariant.rest ∙ ap (first_mixed before l.i) from ∙ mixed_on before l.i x rest (sym (c.mixes.ensures before l.invariant.names) ∙ c.if-mixes.false)
          ∙ ap (λ b. first_mixed b (l.i + 1) rest) (sym to);
    }
