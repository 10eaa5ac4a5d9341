use Rattle.std.proofs.Common.{map, ◌∙◌, ap}
use Rattle.std.specs.Prelude.{if◌then◌else◌}
use Rattle.asm_tree.specs.Views.{module_view, texts_view, global_view, function_view, table_view}
use Rattle.asm_lang_valid.specs.Scope.{a_parameter, is_in, among_functions, among_globals}
use Rattle.asm_names.specs.Meanings.{seen, tables_over}
use Rattle.asm_names.proofs.Put.{all_put}
use Rattle.asm_names.proofs.declared.put_all.Goals as goal

pub returns-clause-known : goal.returns-clause-known
returns-clause-known c = λ n.
    let m = module_view c.args.home.now in
    all_put m n _ _ _ _ _
    (c.in_ok-put_tables.ensures.known n ∙ ap (λ l. tables_over (map table_view l) n (seen c.args.names.now n)) c.as_slice.ensures)
    (c.in_ok-put_functions.ensures.known n ∙ ap (λ l. among_functions (map function_view l) n (seen c.put_tables.new.names n)) c.as_slice-2.ensures)
    (c.in_ok-put_globals.ensures.known n ∙ ap (λ l. among_globals m (map global_view l) n (seen c.put_functions.new.names n)) c.as_slice-3.ensures)
    (c.in_ok-put_params.ensures.known n ∙ ap (λ l. if is_in n (texts_view l) then a_parameter else seen c.put_globals.new.names n) c.as_slice-4.ensures)

pub returns-clause-numbered : goal.returns-clause-numbered
returns-clause-numbered c = λ h.
    let m = module_view c.args.home.now in
    c.in_ok-put_params.ensures.numbered m (c.in_ok-put_globals.ensures.numbered (c.in_ok-put_functions.ensures.numbered m (c.in_ok-put_tables.ensures.numbered m h)))
