use Rattle.std.proofs.Common.{◌≡◌, ◌++◌, drop, map}
use Rattle.asm_tree.specs.Views.{global_view}
use Rattle.asm_lang_exec.specs.Session as session
use Rattle.asm_run_code.specs.Sessions.{words_of}
use Rattle.asm_run_state.specs.Globals.{only_globals}
use Rattle.asm_run_state.proofs.globals.given_globals.Given as goal

-- what there is, and what the declarations that are left add
abbrev pub invariant-loop-global : goal.invariant-loop-global
invariant-loop-global l =
    l.words.items ++ words_of (session.first_globals (only_globals l.lines) (map global_view (drop l.global-index l.globals)))
    ≡ words_of (session.first_globals (only_globals l.lines) (map global_view l.globals))
