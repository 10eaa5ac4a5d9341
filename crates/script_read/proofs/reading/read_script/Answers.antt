use Rattle.std.proofs.Common.{arith, rules, ap, ◌∙◌}
use Rattle.session_lang.specs.Views.{script_of}
use Rattle.script_read.specs.Cuts.{rest_of, lines_after, length_left}
use Rattle.script_lang.specs.Reading.{said_script, items_of}
use Rattle.script_read.specs.Collecting.{put_before}
use Rattle.script_read.proofs.ReadingLemmas.{begins, goes_on, stops, ends, err_script}
use Rattle.script_read.proofs.reading.read_script.Goals as goal

pub loop-left-init : goal.loop-left-init
loop-left-init c = record {
  said = rw c.empty_script-script.ensures (begins c.args.text.now);
  few = omega arith;
}

pub loop-left-preserved : goal.loop-left-preserved
loop-left-preserved c =
    let shown = ap (λ x. lines_after (rest_of x)) c.in-Some.is ∙ c.cut_line.ensures.lines in
    let long = ap (λ x. length_left (rest_of x)) c.in-Some.is in
    record {
      said = goes_on _ c.loop-left.line (script_of c.loop-left.script) (script_of c.in_ok-script.script) _ _ _ c.loop-left.invariant.said shown c.in_ok-script.ensures;
      few = omega (arith, long, c.cut_line.ensures.shorter);
    }

pub returns-in_err-script : goal.returns-in_err-script
returns-in_err-script c =
    let said = said_script c.args.text.now in
    let shown = ap (λ x. lines_after (rest_of x)) c.in-Some.is ∙ c.cut_line.ensures.lines in
    err_script c.from_residual.result said c.in_err-script.field-0.0 (search rules)
    (stops said c.loop-left.line (script_of c.loop-left.script) _ _ _ c.in_err-script.field-0.0 c.loop-left.invariant.said shown c.in_err-script.ensures)

pub returns : goal.returns
returns c =
    c.loop-left.invariant.said
    ∙ ap (λ x. put_before (script_of c.loop-left.script) (items_of c.loop-left.line (lines_after (rest_of x)))) c.in_default.is
    ∙ ends (script_of c.loop-left.script) c.loop-left.line
