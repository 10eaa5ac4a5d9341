use Rattle.std.proofs.Common.{List, [], map, ap, ◌∙◌}
use Rattle.std.specs.Option.{unwrap_or}
use Rattle.session_lang.specs.Views.{script_of}
use Rattle.asm_lang.specs.Modules.{Variable}
use Rattle.asm_tree.specs.declared.tree.Global_.{Global_}
use Rattle.asm_tree.specs.declared.tree.Module.{Module as Tree}
use Rattle.asm_tree.specs.Views.{global_view, module_view}
use Rattle.asm_run_code.specs.Names.{member_name}
use Rattle.asm_run_code.specs.Modules as code
use Rattle.asm_run_state.specs.Globals.{first_world}
use Rattle.asm_run.proofs.session.Session.link.Goals as goal

pub invariant_of-result : goal.invariant_of-result
invariant_of-result c =
    let same = c.module-module.ensures.given in
    record {
      accepted = c.module-module.ensures.accepted;
      fits = c.requires.fits;
      long = c.requires.length;
      functions = c.in_ok-flat.ensures.functions ∙ ap (λ (t : Tree). (code.codes_of (module_view t)).functions) same;
      tables = c.in_ok-flat.ensures.tables ∙ ap (λ (t : Tree). (code.codes_of (module_view t)).tables) same;
      members_are =
          c.in_ok-members.ensures
          ∙ ap (λ (gs : List Global_). map (λ (v : Variable). unwrap_or (member_name v.init) []) (map global_view gs)) c.as_slice.ensures
          ∙ ap (λ (t : Tree). (code.codes_of (module_view t)).members) same;
      callees_are = c.requires.callees;
      begins = c.in_ok-world.ensures ∙ ap (λ (t : Tree). first_world (module_view t) c.args.heap_len (script_of c.args.script.now) 0) same;
    }
