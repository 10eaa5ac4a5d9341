use Rattle.std.proofs.Common.{List, None, refl, sym, ◌∙◌, arith, replicate}
use Rattle.wat_lang.specs.declared.parts.Part.{Part}
use Rattle.wat_lang.specs.declared.parts.Part.TheVariants.{Param, Local}
use Rattle.wat_lang.specs.Names.{Names, types_part, written_ids}
use Rattle.wat_grammar.specs.Views.{mark_of}
use Rattle.wat_marks.specs.declared.marked.MarkedToken.{MarkedToken}
use Rattle.wat_marks.specs.Views.{marked_of}
use Rattle.wat_read_tokens.specs.Marks.{marks_of}
use Rattle.wat_read_tokens.proofs.Steps.{grows, grown}
use Rattle.wat_read_names.proofs.Counts.{one_more, unnamed_front, at_most_one}
use Rattle.wat_read_names.proofs.heads.counts_of.Goals as goal

abbrev written : Part → List MarkedToken → Names
written p ts = written_ids p None (marks_of ts)

pub loop-token-preserved : goal.loop-token-preserved
loop-token-preserved c =
    let t = c.token-item.result in
    let other = sym c.binds_local.ensures ∙ c.if-binds_local.false in
    let few_params = c.loop-token.invariant.few_params in
    let few_locals = c.loop-token.invariant.few_locals in
    let one = at_most_one (types_part Param (mark_of t.mark)) _ c.count_of-params.ensures in
    let other_one = at_most_one (types_part Local (mark_of t.mark)) _ c.count_of-locals.ensures in
    record {
      few_params = omega (arith, few_params, one);
      few_locals = omega (arith, few_locals, other_one);
      params =
          grows (written Param) (written Param) c.args.parts.now c.loop-token.token-index t (replicate c.loop-token.params None) _ _ _ c.loop-token-test.true c.token-item.is
          (λ ts. unnamed_front Param (marked_of t) (marks_of ts) other) (one_more (types_part Param (mark_of t.mark)) c.loop-token.params _ c.count_of-params.ensures) c.loop-token.invariant.params;
      locals =
          grows (written Local) (written Local) c.args.parts.now c.loop-token.token-index t (replicate c.loop-token.locals None) _ _ _ c.loop-token-test.true c.token-item.is
          (λ ts. unnamed_front Local (marked_of t) (marks_of ts) other) (one_more (types_part Local (mark_of t.mark)) c.loop-token.locals _ c.count_of-locals.ensures) c.loop-token.invariant.locals;
    }

pub returns : goal.returns
returns c = record {
  params = sym (grown (written Param) c.args.parts.now c.loop-token.token-index (replicate c.loop-token.params None) _ (omega (arith, c.loop-token-test.false)) refl c.loop-token.invariant.params);
  locals = sym (grown (written Local) c.args.parts.now c.loop-token.token-index (replicate c.loop-token.locals None) _ (omega (arith, c.loop-token-test.false)) refl c.loop-token.invariant.locals);
}
