-- What a machine runs, as the definitions have it.
use Rattle.std.specs.Prelude.{ℕ, List, map}
use Rattle.std.specs.Borrow.{Bor}
use Rattle.sem_words.specs.Lists.{list_items}
use Rattle.asm_run_code.specs.Machine.{Flat, Codes}
use Rattle.asm_run_steps.specs.declared.linked.Function.{Function}
use Rattle.asm_run_steps.specs.declared.linked.Linked.{Linked}

abbrev pub flat_of : Function → Flat
flat_of f = record { params = f.params; firsts = f.firsts.now; code = f.code.now }

abbrev pub names_of : List (Bor (List ℕ)) → List (List ℕ)
names_of bs = map (λ (b : Bor (List ℕ)). b.now) bs

abbrev pub codes_in : Linked → Codes
codes_in l = record { functions = map flat_of l.functions.now; tables = map list_items l.tables.now; members = names_of l.members.now }
