use Rattle.std.proofs.Common.{◌≡◌, ◌++◌, suc, OnOk, Some, subst, sym, ap, ◌∙◌, arith}
use Rattle.sem_words.specs.Lists.{text_bytes}
use Rattle.wasm_laws_trees.specs.Spelled.{flat}
use Rattle.asm_names.specs.Meanings.{meaning_view}
use Rattle.asm_lang_valid.specs.Scope.{a_view}
use Rattle.asm_lang_valid.specs.Typing.{named}
use Rattle.asm2wasm_translation.specs.Values.{scratch, store_code}
use Rattle.asm2wasm_emit_values.specs.Contexts.{scope_in}
use Rattle.asm2wasm_emit_values.proofs.meanings.store_element.Goals as goal

pub returns-in-Some-View : goal.returns-in-Some-View
returns-in-Some-View c =
    let size = c.args.context.now.size in
    let scope = scope_in c.args.context.now in
    let first = c.scratch-scratch.ensures.first in
    let depth = c.scratch-scratch.ensures.depth in
    let here = c.current.ensures in
    let next = c.following-y.ensures in
    let x : c.current.result ≡ scratch size scope c.args.depth = omega (arith, first, depth, here) in
    let y : c.following-y.result ≡ scratch size scope (suc c.args.depth) = omega (arith, first, depth, next) in
    let same = ap (λ n. store_code n c.current.result c.following-y.result (a_view c.in-Some-View.element)) c.size.ensures
    ∙ ap (λ x. store_code size x c.following-y.result (a_view c.in-Some-View.element)) x
    ∙ ap (λ y. store_code size (scratch size scope c.args.depth) y (a_view c.in-Some-View.element)) y
    ∙ ap (λ mm. store_code size (scratch size scope c.args.depth) (scratch size scope (suc c.args.depth)) mm) (ap (λ m. meaning_view (Some m)) (sym c.in-Some-View.field-0-is) ∙ c.in-Some-View.ensures.known) in
    subst (λ l. OnOk c.store.result (c.store.new.output ≡ c.args.output.now ++ flat l)) same c.store.ensures
