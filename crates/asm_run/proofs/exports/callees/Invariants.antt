use Rattle.std.proofs.Common.{◌≡◌, take, map}
use Rattle.session_lang.specs.Views.{call_of}
use Rattle.asm_tree.specs.Views.{module_view}
use Rattle.asm_lang_valid.specs.Refusal.{exported_from}
use Rattle.asm_run_state.specs.Session.{callees_of}
use Rattle.asm_run.proofs.exports.callees.Given as goal

abbrev pub invariant-loop-call : goal.invariant-loop-call
invariant-loop-call l = record {
  same : l.exports ≡ exported_from (module_view l.checked) (module_view l.checked).exports;
  found : l.callees.items ≡ callees_of (module_view l.checked) (map call_of (take l.call-index l.calls));
}
