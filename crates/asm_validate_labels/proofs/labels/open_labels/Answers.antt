use Rattle.std.proofs.Common.{◌≡◌, ◌+◌, ◌∷◌, ◌&&◌, true, drop, ap, sym, ◌∙◌, rules}
use Rattle.sem_words.specs.Lists.{text_bytes}
use Rattle.asm_tree.specs.Views.{texts_view}
use Rattle.asm_lang_valid.specs.Typing as typing
use Rattle.asm_validate_labels.specs.Open.{labels_in}
use Rattle.asm_validate_labels.proofs.Opened.{new_step, before_step, take_through}
use Rattle.asm_validate_labels.proofs.labels.open_labels.Goals as goal

pub loop-name-preserved : goal.loop-name-preserved
loop-name-preserved c =
    let yes : c.in_ok-add.field-0 ≡ true = search rules in
    let ls = labels_in c.loop-name.labels.open.entries in
    let rest = texts_view (drop (c.loop-name.name-index + 1) c.args.names.now) in
    let added = c.in_ok-add.ensures.added yes in
    record {
      are_new =
          c.loop-name.invariant.are_new
          ∙ new_step c.args.names.now c.loop-name.name-index c.name-item.result c.args.of_loop ls c.loop-name-test.true c.name-item.is
          ∙ ap (λ b. b && typing.new_labels rest (record { text = text_bytes c.name-item.result; of_loop = c.args.of_loop } ∷ ls)) (sym c.in_ok-add.ensures.is_new ∙ yes)
          ∙ ap (typing.new_labels rest) (sym added);
      opened =
          c.loop-name.invariant.opened
          ∙ before_step c.args.names.now c.loop-name.name-index c.name-item.result c.args.of_loop ls c.loop-name-test.true c.name-item.is
          ∙ ap (typing.labels_in c.args.of_loop rest) (sym added);
      front = take_through _ _ _ c.loop-name.invariant.front (c.in_ok-add.ensures.front yes);
    }
