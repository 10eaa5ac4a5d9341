use Rattle.std.proofs.Common.{◌∙◌, ap, sym, length}
use Rattle.std.proofs.lemmas.Result.{err_from_is_err_and}
use Rattle.wasm_lang.specs.ReadingModule.{section_field, custom_content}
use Rattle.wasm_tree.specs.Inputs.{input_of}
use Rattle.wasm_tree.proofs.Slices.{stands_trans}
use Rattle.wasm_binary.proofs.SectionHeads.{customs_step, customs_stop, customs_end}
use Rattle.wasm_binary.proofs.sections.customs.Goals as goal

pub loop-turn-preserved : goal.loop-turn-preserved
loop-turn-preserved c = record {
  value = c.loop-turn.invariant.value ∙ customs_step (length c.args.input.bytes.now) c.loop-turn._turn (input_of c.loop-turn.rest) (input_of c.in_ok-after-in-Some.after) c.in_ok-after-in-Some.ensures.value.0 c.loop-turn-test.true c.in-Some.ensures.value.0 (ap (λ i. section_field custom_content i) (sym c.in-Some.ensures.value.1) ∙ c.in_ok-after-in-Some.ensures.value.1);
  follows = stands_trans c.in_ok-after-in-Some.ensures.follows (stands_trans c.in-Some.ensures.follows c.loop-turn.invariant.follows);
}

pub returns-in_err-after-in-Some-clause-value : goal.returns-in_err-after-in-Some-clause-value
returns-in_err-after-in-Some-clause-value c =
    let p = err_from_is_err_and c.from_residual.result c.from_residual.ensures.1 in
    rw (p.1, p.2) (c.loop-turn.invariant.value ∙ customs_stop (length c.args.input.bytes.now) c.loop-turn._turn (input_of c.loop-turn.rest) _ c.loop-turn-test.true c.in-Some.ensures.value.0 (ap (λ i. section_field custom_content i) (sym c.in-Some.ensures.value.1) ∙ c.in_err-after-in-Some.ensures.value))

pub returns-in-None-clause-value : goal.returns-in-None-clause-value
returns-in-None-clause-value c = c.loop-turn.invariant.value ∙ customs_end (length c.args.input.bytes.now) c.loop-turn._turn (input_of c.loop-turn.rest) c.loop-turn-test.true c.in-None.ensures.value
