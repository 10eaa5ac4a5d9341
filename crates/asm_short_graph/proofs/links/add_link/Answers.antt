use Rattle.std.proofs.Common.{◌++◌, [], ◌∷◌, ap, sym, ◌∙◌, append-nil}
use Rattle.sem_words.specs.Lists.{text_bytes}
use Rattle.asm_short_graph.specs.Graphs.{node_names, first_number, link_if}
use Rattle.asm_short_graph.proofs.links.add_link.Goals as goal

pub returns-then-not-is_linked : goal.returns-then-not-is_linked
returns-then-not-is_linked c = λ m numbered. sym (ap (λ l. c.args.links.now.items ++ l) (ap (λ b. link_if b m (text_bytes c.args.name.now)) c.if-not-is_linked.true) ∙ append-nil c.args.links.now.items)

pub returns : goal.returns
returns c = λ m numbered.
    c.in_ok-push.ensures.items ∙ ap (λ n. c.args.links.now.items ++ n ∷ []) (c.number-number.ensures (node_names m) numbered ∙ ap (first_number (node_names m)) c.as_bytes.ensures)
    ∙ ap (λ b. c.args.links.now.items ++ link_if b m (text_bytes c.args.name.now)) (sym c.if-not-is_linked.false)
