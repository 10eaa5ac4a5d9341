use Rattle.std.proofs.Common.{ap, sym, ◌∙◌}
use Rattle.asm_lang.specs.Machine.{stops}
use Rattle.asm_grammar_modules.specs.declared.reading.Reading.{Reading}
use Rattle.asm_grammar_nodes.specs.Views.{module_view}
use Rattle.asm_grammar_modules.specs.declared.tall.TallModule.{TallModule}
use Rattle.asm_grammar_modules.specs.Readings.{end_view, reading_view}
use Rattle.asm_grammar_modules.proofs.Idle.{unfinished}
use Rattle.asm_grammar_modules.proofs.reading.Reading.finished.Goals as goal

pub returns-in-End : goal.returns-in-End
returns-in-End c =
    c.finished.ensures
    ∙ ap (λ (w : TallModule). stops (end_view c.in-End.place (module_view w.tree))) c.into_inner.ensures
    ∙ ap (λ (r : Reading). stops (reading_view r)) (sym c.in-End.is)

pub returns-in_default : goal.returns-in_default
returns-in_default c = sym (unfinished c.functions_end_no_module.ensures c.args.self c.in_default.not-End)
