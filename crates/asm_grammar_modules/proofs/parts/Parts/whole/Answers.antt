use Rattle.std.proofs.Common.{◌≡◌, suc, max, min, ap, ◌∙◌}
use Rattle.asm_grammar_nodes.specs.declared.declarations.ModuleTree.{ModuleTree}
use Rattle.asm_grammar_nodes.specs.Heights.{counted}
use Rattle.asm_grammar_modules.proofs.Totals.{module_high}
use Rattle.asm_grammar_modules.proofs.parts.Parts.whole.Goals as goal

pub invariant_of-result : goal.invariant_of-result
invariant_of-result c =
    let p = c.args.self in
    let f = p.functions in
    let m : ModuleTree = record { heading = p.heading; globals = p.variables; functions = f.trees; tables = p.tables; exports = c.args.exports } in
    let height : c.above-height.result.count ≡ counted (suc (max (max c.leaves-2.result.count f.greatest.count) (max c.leaves.result.count c.exports_height.result.count))) =
    c.above-height.ensures ∙ ap (λ n. counted (suc n)) (cc (c.or-2.ensures, c.or.ensures, c.or-ends.ensures)) in
    record {
      high = height ∙ module_high m c.leaves-2.result.count f.greatest.count c.leaves.result.count c.exports_height.result.count
          (c.leaves-2.ensures ∙ ap (λ n. min 1 n) c.len-2.ensures) f.high (c.leaves.ensures ∙ ap (λ n. min 1 n) c.len.ensures) c.exports_height.ensures;
    }
