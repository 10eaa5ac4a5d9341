use Rattle.std.proofs.Common.{◌≡◌, ◌++◌, drop, map}
use Rattle.wasm_lang.specs.Modules.{GlobalEntry}
use Rattle.wasm_tree.specs.Views.{global_of}
use Rattle.wasm_lang_exec.specs.Session.{value_of}
use Rattle.wasm_run_start.proofs.values.add_first_values.Given as goal

abbrev pub invariant-loop-global : goal.invariant-loop-global
invariant-loop-global l =
    l.all.items ++ map (λ (g : GlobalEntry). value_of l.given g.init) (map global_of (drop l.global-index l.globals))
    ≡ l.fn.all.items ++ map (λ (g : GlobalEntry). value_of l.given g.init) (map global_of l.globals)
