use Rattle.std.proofs.Common.{subst}
use Rattle.asm_tree.specs.Views.{module_view}
use Rattle.asm_lang.specs.Heights.{IsWellFormed}
use Rattle.asm_lang_valid.specs.Refusal.{IsAccepted}
use Rattle.asm2wasm.proofs.translating.translated.Goals as goal

pub made-requires-clause-types : goal.made-requires-clause-types
made-requires-clause-types c = c.numbers_are_few.ensures.types (module_view c.args.numbers.now) (subst (λ t. IsAccepted (module_view t)) c.checked.ensures c.module-home.ensures.accepted)

pub made-requires-clause-functions : goal.made-requires-clause-functions
made-requires-clause-functions c = c.numbers_are_few.ensures.functions (module_view c.args.numbers.now) (subst (λ t. IsAccepted (module_view t)) c.checked.ensures c.module-home.ensures.accepted)

pub made-requires-clause-entries : goal.made-requires-clause-entries
made-requires-clause-entries c = c.numbers_are_few.ensures.entries (module_view c.args.numbers.now) (subst (λ t. IsAccepted (module_view t)) c.checked.ensures c.module-home.ensures.accepted)

pub made-requires-clause-globals : goal.made-requires-clause-globals
made-requires-clause-globals c = c.numbers_are_few.ensures.globals (module_view c.args.numbers.now) (subst (λ t. IsAccepted (module_view t)) c.checked.ensures c.module-home.ensures.accepted)

pub made-requires-clause-narrow : goal.made-requires-clause-narrow
made-requires-clause-narrow c = c.code.ensures.narrow (module_view c.args.numbers.now) c.args.heap
    (subst (λ t. IsAccepted (module_view t)) c.checked.ensures c.module-home.ensures.accepted)
    (subst (λ t. IsWellFormed (module_view t)) c.checked.ensures c.module-home.ensures.well_formed)
    c.requires.length
