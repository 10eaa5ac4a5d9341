use Rattle.std.proofs.Common.{ℕ, List, map, ap, ◌∙◌}
use Rattle.sem_words.specs.Lists.{list_items}
use Rattle.asm_tree.specs.Views.{module_view}
use Rattle.asm_run_code.specs.Machine.{Flat, Codes}
use Rattle.asm_run_code.specs.Modules.{codes_of}
use Rattle.asm_run_steps.specs.Linked.{names_of}
use Rattle.asm_run.proofs.linking.run_linked.Goals as goal

pub run-requires-clause-codes : goal.run-requires-clause-codes
run-requires-clause-codes c =
    let made : List Flat → List (List ℕ) → List (List ℕ) → Codes = λ fs ts ns. record { functions = fs; tables = ts; members = ns } in
    let k = codes_of (module_view c.args.«module».now) in
    ap (λ fs. made fs (map list_items c.args.tables.now) (names_of c.args.members.now)) c.requires.functions
    ∙ ap (λ ts. made k.functions ts (names_of c.args.members.now)) c.requires.tables
    ∙ ap (λ ns. made k.functions k.tables ns) c.requires.members
