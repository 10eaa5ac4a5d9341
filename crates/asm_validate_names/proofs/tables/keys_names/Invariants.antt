use Rattle.std.proofs.Common.{◌≡◌, ◌+◌, map, drop}
use Rattle.asm_tree.specs.Views.{module_view, export_view}
use Rattle.asm_lang_valid.specs.Rows.{first}
use Rattle.asm_lang_valid.specs.NameRows as rows
use Rattle.asm_validate_names.specs.Seen.{names}
use Rattle.asm_validate_names.proofs.tables.keys_names.Given as goal

abbrev pub invariant-loop-export : goal.invariant-loop-export
invariant-loop-export l = record {
  rest : first (rows.keys_names (module_view l.environment.home.now) (names l.initial.keys) (map export_view l.exports) l.initial.node) ≡ first (rows.keys_names (module_view l.environment.home.now) (names l.keys) (map export_view (drop l.export-index l.exports)) l.node);
  counted : l.node ≡ l.initial.node + l.export-index;
}
