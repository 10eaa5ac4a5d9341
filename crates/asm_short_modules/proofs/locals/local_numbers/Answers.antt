use Rattle.std.proofs.Common.{ap, ◌∙◌, sym, ◌≡◌, ℕ, length}
use Rattle.std.specs.Prelude.{map, filter_map}
use Rattle.asm_tree.specs.Views.{function_view, stmts_view}
use Rattle.asm_lang_valid.specs.Scope.{is_in}
use Rattle.asm_short_lang.specs.Uses.{name_of, stmts_uses}
use Rattle.asm_short_lang.specs.Renaming.{used_names}
use Rattle.asm_short_lang.specs.Sequence.{numbered, first_names}
use Rattle.asm_short_names.specs.Excluding.{excludes}
use Rattle.asm_short_tree.specs.Looking.{names_in}
use Rattle.asm_short_uses.specs.Views.{uses_view}
use Rattle.asm_short_modules.specs.Using.{leaves_out, used_with}
use Rattle.asm_short_modules.proofs.Whole.{used_exactly, names_count}
use Rattle.asm_short_modules.proofs.locals.local_numbers.Goals as goal

pub returns : goal.returns
returns c = λ m of.
    let f = function_view c.args.function.now in
    let names = c.args.names.now in
    let declared = c.args.declared.now in
    let body : uses_view c.as_slice-2.result.now ≡ stmts_uses f.body = ap uses_view c.as_slice-2.ensures.value ∙ c.in_ok-uses.ensures ∙ ap (λ l. stmts_uses (stmts_view l)) c.as_slice.ensures in
    let left : (n : ℕ) → excludes c.excluded-excluded.result n ≡ is_in (numbered n) (filter_map (used_with (names_in names) declared) (map name_of (uses_view c.as_slice-2.result.now))) = λ n.
    c.excluded-excluded.ensures n ∙ ap (λ k. leaves_out c.in_ok-used.used k n) c.kept-kept.ensures ∙ c.in_ok-used.ensures n in
    let exactly = used_exactly m f declared (names_in names) (uses_view c.as_slice-2.result.now) c.excluded-excluded.result of c.requires body left in
    c.in_ok-numbers.ensures (used_names m f) exactly ∙ ap (first_names (used_names m f)) (sym (names_count names) ∙ ap length c.requires)
