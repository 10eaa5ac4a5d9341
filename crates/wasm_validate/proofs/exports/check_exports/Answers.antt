use Rattle.std.proofs.Common.{◌≡◌, ◌+◌, map, take, not, nat_eq, Some, sym, ap, ◌∙◌, subst}
use Rattle.std.specs.Prelude.{slice_get}
use Rattle.std.specs.List.{list_any}
use Rattle.std.specs.Cmp.Lexicographic.{pointwise}
use Rattle.wasm_tree.specs.Views.{module_of, export_of}
use Rattle.wasm_lang_valid.specs.declared.section.Section.TheVariants as sections
use Rattle.wasm_lang_valid.specs.ModuleRules.{is_named}
use Rattle.wasm_validate.proofs.Names.{names_held, one_more_name, export_at, is_new_true, keys_longer}
use Rattle.wasm_validate.proofs.Sections.{item_at, item_fault, fine_more}
use Rattle.wasm_validate.proofs.exports.check_exports.Goals as goal

pub returns-in-Some : goal.returns-in-Some
returns-in-Some c =
    let m = module_of c.args.«module».now in
    let i = c.loop-i.i in
    let at = c.index-exports-i in
    let e = export_of at.result in
    let xs = c.as_slice-exports in
    let stands = subst (λ l. slice_get (map export_of l) i ≡ Some e) xs.ensures (item_at export_of xs.result.now i at.result at.is c.loop-i-test.true) in
    let held = names_held c.as_bytes.result.now c.loop-i.names.keys (take i m.exports) c.loop-i.invariant.names ∙ ap (λ n. is_named n (take i m.exports)) c.as_bytes.ensures in
    let rule = export_at m i e c.in-Ok-insert.is_new c.first_of-named.result c.exported_rule.result stands (c.in-Ok-insert.ensures.added ∙ ap not held) c.first_of-named.ensures (c.exported_rule.ensures m c.requires) in
    item_fault m sections.Exports m.exports i e _ stands c.loop-i.invariant.fine (rule ∙ c.in-Some.is)

pub loop-i-preserved : goal.loop-i-preserved
loop-i-preserved c =
    let m = module_of c.args.«module».now in
    let i = c.loop-i.i in
    let at = c.index-exports-i in
    let e = export_of at.result in
    let xs = c.as_slice-exports in
    let keys = c.loop-i.names.keys in
    let name = c.as_bytes.result in
    let stands = subst (λ l. slice_get (map export_of l) i ≡ Some e) xs.ensures (item_at export_of xs.result.now i at.result at.is c.loop-i-test.true) in
    let held = names_held name.now keys (take i m.exports) c.loop-i.invariant.names ∙ ap (λ n. is_named n (take i m.exports)) c.as_bytes.ensures in
    let of_kind = c.exported_rule.ensures m c.requires in
    let rule = export_at m i e c.in-Ok-insert.is_new c.first_of-named.result c.exported_rule.result stands (c.in-Ok-insert.ensures.added ∙ ap not held) c.first_of-named.ensures of_kind in
    let new = is_new_true m e.kind c.in-Ok-insert.is_new c.first_of-named.result (sym of_kind ∙ c.in-None.is) c.first_of-named.ensures in
    let longer = keys_longer (list_any (λ k. pointwise nat_eq name.now k.now) keys) c.in-Ok-insert.is_new keys c.insert.new.self.keys name c.in-Ok-insert.ensures.added new c.in-Ok-insert.ensures.keys in
    record {
      fine = fine_more m sections.Exports i c.loop-i.invariant.fine (rule ∙ c.in-None.is);
      names = subst (λ ks. map (λ k. k.now) ks ≡ map (λ e. e.name) (take (i + 1) m.exports)) (sym longer) (one_more_name keys name m.exports i e stands c.as_bytes.ensures c.loop-i.invariant.names);
    }
