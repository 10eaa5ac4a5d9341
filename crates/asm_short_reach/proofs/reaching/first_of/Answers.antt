use Rattle.std.proofs.Common.{ℕ, List, [], ◌∷◌, map, refl, ◌∙◌}
use Rattle.asm_lang_valid.specs.Refusal.{Exported}
use Rattle.asm_validate_facts.specs.declared.exports.ExportOf.{ExportOf}
use Rattle.asm_validate_facts.specs.Numbers.{export_said}
use Rattle.asm_short_graph.proofs.Gathered.{none_yet, one_more, at_end}
use Rattle.asm_short_reach.proofs.reaching.first_of.Goals as goal

abbrev all : List ExportOf → List ℕ
all xs = map (λ (e : Exported). e.function) (map export_said xs)

abbrev own : ExportOf → List ℕ
own x = x.function ∷ []

pub loop-export-init : goal.loop-export-init
loop-export-init c = c.new-first.ensures.items ∙ none_yet all own refl (λ x xs. refl) [] c.args.exports.now

pub loop-export-preserved : goal.loop-export-preserved
loop-export-preserved c =
    let l = c.loop-export in
    one_more all own refl (λ x xs. refl) [] l.first.items _ c.args.exports.now l.export-index c.export-item.result c.loop-export-test.true c.export-item.is c.in_ok-push.ensures.items l.invariant

pub returns : goal.returns
returns c = at_end all own refl (λ x xs. refl) [] _ c.args.exports.now c.loop-export.export-index c.loop-export-test.false c.loop-export.invariant
