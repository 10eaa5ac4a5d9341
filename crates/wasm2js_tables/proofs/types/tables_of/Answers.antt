use Rattle.std.proofs.Common.{◌+◌, map, take, sym, ap, ◌∙◌, subst, arith}
use Rattle.sem_words.specs.Lists.{list_items}
use Rattle.wasm_tree.specs.Views.{type_of}
use Rattle.wasm_lang_valid.specs.Measures.{called_types}
use Rattle.wasm2js_lang.specs.Tables.{masked}
use Rattle.wasm2js_tables.specs.Forms.{AreForms, table_of}
use Rattle.wasm2js_tables.proofs.Noted.{number_fits_at, types_to, tables_from, with_table, without_table, ok_of, one_table, no_table}
use Rattle.wasm2js_tables.proofs.types.tables_of.Goals as goal
use Rattle.wasm2js_tables.proofs.types.tables_of.Goals.{then-branch+in_ok-table+else-is_err, else-branch}

pub overflow_cast-n : goal.overflow_cast-n
overflow_cast-n c =
    let m = c.args.valid.now in
    let types = c.args.types.now in
    let n = c.loop-n.n in
    let named = called_types m.types m.bodies in
    let wanted = c.in_ok-is_wanted.ensures.wanted (map type_of types) named (map type_of (take n types)) c.requires.called c.loop-n.invariant.before in
    omega (arith, number_fits_at c.args.called.now types named n (type_of c.index-types-n.result) c.requires.called (sym wanted ∙ c.if-branch.true))

pub loop-n-preserved : goal.loop-n-preserved
loop-n-preserved c =
    let m = c.args.valid.now in
    let types = c.args.types.now in
    let n = c.loop-n.n in
    let at = c.index-types-n.result in
    let is = c.index-types-n.is in
    let low = c.loop-n-test.true in
    let others = map type_of (take n types) in
    let wanted = c.in_ok-is_wanted.ensures.wanted (map type_of types) (called_types m.types m.bodies) others c.requires.called c.loop-n.invariant.before in
    let rest = tables_from m types (n + 1) in
    record {
      before = subst (AreForms c.is_wanted.new.before.keys) (sym (types_to types n at is low)) (c.in_ok-is_wanted.ensures.noted others c.loop-n.invariant.before);
      tables = elim c.if-branch.branch [
        | then-branch+in_ok-table+else-is_err w ↦
            one_table (masked m) (list_items c.loop-n.tables) w.in_ok-table.table (list_items c.if-branch.tables) (tables_from m types n) rest (table_of m n (type_of at)) c.loop-n.invariant.tables
            (with_table m types n at is low (sym w.if-branch.true ∙ wanted))
            w.in_ok-table.ensures
            (ap list_items w.tables-is ∙ ok_of w.push.result (sym w.is_err.ensures.value ∙ w.if-is_err.false) w.push.ensures.ok)
        | else-branch w ↦
            no_table (masked m) (list_items c.loop-n.tables) (list_items c.if-branch.tables) (tables_from m types n) rest c.loop-n.invariant.tables
            (without_table m types n at is low (sym w.if-branch.false ∙ wanted))
            (ap list_items w.tables-is)
      ];
    }
