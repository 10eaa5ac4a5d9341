use Rattle.std.proofs.Common.{◌≡◌, suc, max, min, sym, ap, ◌∙◌}
use Rattle.asm_lang.specs.Trees.{StmtTrees}
use Rattle.asm_lang.specs.TreeHeights.{block_height}
use Rattle.asm_grammar_nodes.specs.declared.declarations.FunctionTree.{FunctionTree}
use Rattle.asm_grammar_nodes.specs.Heights.{counted}
use Rattle.asm_grammar_functions.proofs.Totals.{function_high}
use Rattle.asm_grammar_functions.proofs.function.function.Goals as goal

pub invariant_of-result : goal.invariant_of-result
invariant_of-result c =
    let f : FunctionTree = record { at = c.args.name.now.at; name = c.in_ok-from_bytes.field-0; params = c.args.params; locals = c.args.locals; body = c.into_trees.result } in
    let height : c.above-height.result.count ≡ counted (suc (max (max c.leaves.result.count c.leaves-2.result.count) c.height.result.count)) =
    c.above-height.ensures ∙ ap (λ n. counted (suc n)) (cc (c.or.ensures, c.or-parts.ensures)) in
    record {
      high = height ∙ function_high f c.leaves.result.count c.leaves-2.result.count c.height.result.count
          (c.leaves.ensures ∙ ap (λ n. min 1 n) c.len.ensures) (c.leaves-2.ensures ∙ ap (λ n. min 1 n) c.len-2.ensures)
          (c.height.ensures ∙ ap (λ (x : StmtTrees). counted (block_height x)) (sym c.into_trees.ensures));
    }
