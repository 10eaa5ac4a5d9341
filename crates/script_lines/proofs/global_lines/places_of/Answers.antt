use Rattle.std.proofs.Common.{◌-◌, sym, ap, ◌∙◌, arith}
use Rattle.std.specs.Prelude.{Some, if◌then◌else◌}
use Rattle.std.specs.Str.{bytes_eq}
use Rattle.sem_words.specs.Lists.{text_bytes}
use Rattle.session_lang.specs.declared.script.GlobalLine.{GlobalLine}
use Rattle.script_lines.specs.GlobalLines.{found}
use Rattle.script_lines.proofs.GlobalLines.{line_put}
use Rattle.script_lines.proofs.global_lines.places_of.Goals as goal

pub loop-i-preserved : goal.loop-i-preserved
loop-i-preserved c =
    let i = c.loop-i.i in
    let line = c.index-lines-i.result in
    let positive = c.loop-i-test.true in
    let within = c.loop-i.invariant.within in
    record {
      within = omega arith;
      put = λ n.
          line_put c.args.lines.now (i - 1) i line n _ _ (omega arith) (omega arith) c.index-lines-i.is
          (c.in_ok-put.ensures n ∙ ap (λ (g : GlobalLine). if bytes_eq (text_bytes g.name) n then Some (i - 1) else found c.loop-i.places n) (sym c.index-lines-i.is))
          (c.loop-i.invariant.put n);
    }
