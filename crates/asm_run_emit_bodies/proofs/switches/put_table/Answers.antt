use mir.Syntax.{w64}
use Rattle.std.proofs.lemmas.Int.{to_z-of_z}
use Rattle.std.proofs.Common.{FitsSigned, rules, ◌≡◌, suc, length, ap, ◌∙◌, arith}
use Rattle.sem_words.specs.Words.{word_of}
use Rattle.asm_tree.specs.Views.{clauses_view}
use Rattle.asm_lang_valid.specs.Typing.{values}
use Rattle.asm2wasm_translation.specs.Bodies.{low, span}
use Rattle.switch_cases.specs.declared.range.CaseRange.{CaseRange}
use Rattle.asm_run_emit_bodies.specs.Switches.{jumps}
use Rattle.asm_run_emit_bodies.proofs.Cases.{table_made}
use Rattle.asm_run_emit_bodies.proofs.switches.put_table.Goals as goal

pub returns : goal.returns
returns c =
    let cs = clauses_view c.args.clauses.now in
    let fits : FitsSigned w64 c.of-range.result.low = search rules in
    let least = to_z-of_z w64 c.of-range.result.low fits ∙ ap (λ (r : CaseRange). r.low) c.of-range.ensures.exact in
    let counted = c.in_ok-targets.targets.ok.0 in
    let count : c.in_ok-small-2.field-0 ≡ length c.in_ok-targets.targets.items = omega (arith, c.in_ok-small-2.ensures, c.len.ensures) in
    table_made c.put.result c.put.new.self c.args.output.now c.put_jumps.new.output c.args.slot c.word_of.result c.in_ok-small-2.field-0 (suc (span (values cs))) (low (values cs)) cs c.args.starts.now c.in_ok-targets.targets.items
    (c.in_ok-put_jumps.ensures ∙ ap (λ l. jumps c.args.starts.now l c.args.output.now) c.as_slice.ensures.value) c.in_ok-targets.ensures (c.word_of.ensures ∙ ap (word_of 32) least) count c.put.ensures
