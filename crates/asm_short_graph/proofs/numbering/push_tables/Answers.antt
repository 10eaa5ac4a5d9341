use Rattle.std.proofs.Common.{ℕ, List, [], ◌∷◌, map, refl}
use Rattle.sem_words.specs.Lists.{text_bytes}
use Rattle.asm_lang.specs.Modules as plain
use Rattle.asm_tree.specs.declared.tree.Table.{Table}
use Rattle.asm_tree.specs.Views.{table_view}
use Rattle.asm_short_graph.specs.Graphs.{names_in}
use Rattle.asm_short_graph.proofs.Gathered.{none_yet, one_more, at_end, name_added}
use Rattle.asm_short_graph.proofs.numbering.push_tables.Goals as goal

abbrev all : List Table → List (List ℕ)
all xs = map (λ (x : plain.Table). x.name) (map table_view xs)

abbrev own : Table → List (List ℕ)
own x = text_bytes x.name ∷ []

pub loop-table-init : goal.loop-table-init
loop-table-init c = none_yet all own refl (λ x xs. refl) (names_in c.args.names.now.items) c.args.tables.now

pub loop-table-preserved : goal.loop-table-preserved
loop-table-preserved c =
    let l = c.loop-table in
    one_more all own refl (λ x xs. refl) (names_in c.args.names.now.items) (names_in l.names.items) _ c.args.tables.now l.table-index c.table-item.result c.loop-table-test.true c.table-item.is
    (name_added l.names.items _ c.as_bytes.result (text_bytes c.table-item.result.name) c.in_ok-push.ensures.items c.as_bytes.ensures) l.invariant

pub returns : goal.returns
returns c = at_end all own refl (λ x xs. refl) (names_in c.args.names.now.items) _ c.args.tables.now c.loop-table.table-index c.loop-table-test.false c.loop-table.invariant
