use Rattle.std.proofs.Common.{◌≡◌, ◌++◌, [], drop, map}
use Rattle.std.specs.Option.{unwrap_or}
use Rattle.asm_lang.specs.Modules.{Variable}
use Rattle.asm_tree.specs.Views.{global_view}
use Rattle.asm_run_code.specs.Names.{member_name}
use Rattle.asm_run_steps.specs.Linked.{names_of}
use Rattle.asm_run.proofs.linking.members_of.Given as goal

abbrev pub invariant-loop-global : goal.invariant-loop-global
invariant-loop-global l =
    names_of l.members.items ++ map (λ (v : Variable). unwrap_or (member_name v.init) []) (map global_view (drop l.global-index l.globals))
    ≡ map (λ (v : Variable). unwrap_or (member_name v.init) []) (map global_view l.globals)
