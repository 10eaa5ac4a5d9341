use Rattle.std.proofs.Common.{◌≡◌, drop, length, map, ap, sym, ◌∙◌, subst, arith}
use Rattle.std.proofs.lemmas.List.{length-map}
use Rattle.sem_words.specs.Lists.{list_items}
use Rattle.asm_tree.specs.Views.{module_view, function_view, table_view}
use Rattle.asm_short_lang.specs.Reached.{IsReached, IsEntered, Keeps}
use Rattle.asm_short_graph.specs.Picked.{picked}
use Rattle.asm_short_reach.proofs.reaching.kept_of.Goals as goal

pub from_on-of_tables-requires : goal.from_on-of_tables-requires
from_on-of_tables-requires c =
    let m = module_view c.args.home.now in
    let room = c.marks_are_exact.ensures.room m c.in_ok-marks.marks.items c.in_ok-marks.ensures in
    let count = c.len-count.ensures in
    let mapped = length-map (list_items c.args.home.now.functions) function_view in
    let same = ap length c.as_slice.ensures.value in
    omega arith

pub returns-clause-functions : goal.returns-clause-functions
returns-clause-functions c =
    let m = module_view c.args.home.now in
    let kept = c.in_ok-functions.ensures ∙ (λ k. picked (c.as_slice-3.ensures.value k) (map function_view (c.as_slice-2.ensures k))) in
    subst (Keeps (IsReached m) m.functions) (sym kept) (c.marks_are_exact.ensures.functions m c.in_ok-marks.marks.items c.requires.accepted c.in_ok-marks.ensures)

pub returns-clause-tables : goal.returns-clause-tables
returns-clause-tables c =
    let m = module_view c.args.home.now in
    let count = c.len-count.ensures ∙ sym (length-map (list_items c.args.home.now.functions) function_view) in
    let marks = c.from_on-of_tables.ensures ∙ (λ k. drop (count k) (c.as_slice.ensures.value k)) in
    let kept = c.in_ok-tables.ensures ∙ (λ k. picked (marks k) (map table_view (c.as_slice-4.ensures k))) in
    subst (Keeps (IsEntered m) m.tables) (sym kept) (c.marks_are_exact.ensures.tables m c.in_ok-marks.marks.items c.requires.accepted c.in_ok-marks.ensures)
