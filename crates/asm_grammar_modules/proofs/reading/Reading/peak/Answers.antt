use Rattle.std.proofs.Common.{ap, sym, ◌∙◌}
use Rattle.asm_laws_height.specs.Peaks.{step_peak}
use Rattle.asm_grammar_nodes.specs.Heights.{counted}
use Rattle.asm_grammar_modules.specs.declared.reading.Reading.{Reading}
use Rattle.asm_grammar_nodes.specs.Views.{module_view}
use Rattle.asm_grammar_modules.specs.declared.tall.TallModule.{TallModule}
use Rattle.asm_grammar_modules.specs.Readings.{end_view, reading_view}
use Rattle.asm_grammar_modules.proofs.Idle.{quiet}
use Rattle.asm_grammar_modules.proofs.reading.Reading.peak.Goals as goal

pub returns-in-Module : goal.returns-in-Module
returns-in-Module c =
    c.peak.ensures
    ∙ ap (λ (r : Reading). counted (step_peak (reading_view r))) (sym c.in-Module.is)

pub returns-in-End : goal.returns-in-End
returns-in-End c =
    c.peak-in-End.ensures
    ∙ ap (λ (w : TallModule). counted (step_peak (end_view c.in-End.place (module_view w.tree)))) c.deref.ensures
    ∙ ap (λ (r : Reading). counted (step_peak (reading_view r))) (sym c.in-End.is)

pub returns-in_default : goal.returns-in_default
returns-in_default c = c.none.ensures ∙ ap counted (sym (quiet c.args.self.now c.in_default.not-Module c.in_default.not-End))
