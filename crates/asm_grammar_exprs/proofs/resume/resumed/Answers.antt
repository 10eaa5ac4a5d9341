use Rattle.std.proofs.Common.{◌∙◌, ap}
use Rattle.asm_lang.specs.Machine.{in_rest, more_exprs, feed}
use Rattle.asm_grammar_nodes.specs.Views.{class_view, lexeme_view}
use Rattle.asm_grammar_nodes.specs.Tall.{tall_view, talls_view}
use Rattle.asm_grammar_exprs.specs.Frames.{frames_list}
use Rattle.asm_grammar_exprs.specs.Views.{frames_view, listing_view}
use Rattle.asm_grammar_exprs.proofs.Steps.{ok_map, item_ends}
use Rattle.asm_grammar_exprs.proofs.resume.resumed.Goals as goal

pub returns-in-Comma : goal.returns-in-Comma
returns-in-Comma c =
    let t = lexeme_view c.args.token.now in
    let f = c.in-Some-pop.frame in
    let e = tall_view c.loop-next.expr in
    ok_map c.next_item.result
    (λ r is k. is k t (ap class_view c.in-Comma.is)
    ∙ ap (λ l. feed (in_rest (talls_view c.in_ok-so_far-in-Item.so_far) (listing_view f.level l (frames_view c.pop.new.self k))) t) c.in-Item.listing-is
    ∙ item_ends c.loop-next.level e (frames_list c.loop-next.frames) (frames_list c.pop.new.self) f c.in-Item.so_far c.in-Item.listing (talls_view c.in_ok-so_far-in-Item.so_far) t k
    c.infix_of.result c.in_default.is (λ last. c.infix_of.ensures t e (frames_view c.loop-next.frames k) last) c.in-Some-pop.ensures c.in-Item.is (c.in_ok-so_far-in-Item.ensures ∙ ap (λ s. more_exprs (talls_view s) e) c.in-Item.so_far-is)
    ∙ c.loop-next.invariant k)
    c.next_item.ensures.at_comma
