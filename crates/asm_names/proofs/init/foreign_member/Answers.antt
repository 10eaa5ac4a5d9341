use Rattle.std.proofs.Common.{ℕ, List, length, map, ap, ◌∙◌, sym}
use Rattle.std.proofs.lemmas.List.{length-map}
use Rattle.std.specs.Option.{unwrap_or}
use Rattle.sem_words.specs.Lists.{list_items, text_bytes}
use Rattle.asm_tree.specs.Views.{global_view}
use Rattle.asm_names.specs.Members.{number_in}
use Rattle.asm_names.proofs.init.foreign_member.Goals as goal
use Rattle.asm_names.proofs.init.foreign_member.Goals.{in-Some, in-None}

pub returns-clause-first : goal.returns-clause-first
returns-clause-first c =
    let globals = list_items c.args.module.now.globals in
    let count = length (map global_view globals) in
    let known = ap (λ (n : List ℕ). number_in c.args.imports.now n count) (c.of.ensures ∙ c.as_bytes.ensures) ∙ c.requires (text_bytes c.args.field.now) in
    elim c.match-get.branch [
      | in-Some w ↦ w.declaration-is ∙ ap (λ o. unwrap_or o count) w.in-Some.ensures.value ∙ known
      | in-None w ↦ w.declaration-is ∙ w.len-declaration.ensures ∙ sym (length-map globals global_view) ∙ ap (λ o. unwrap_or o count) w.in-None.ensures.value ∙ known
    ]
