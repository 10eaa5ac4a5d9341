use Rattle.std.proofs.Common.{◌+◌, sym, ap, ◌∙◌, take, arith}
use Rattle.asm_lang_tokens.specs.Forms.{begins_close}
use Rattle.asm_lang_tokens.specs.Text.{first_place}
use Rattle.js_tokens.proofs.Fronts.{line_front, block_front, open_front}
use Rattle.js_tokens.proofs.front.slash_front.Goals as goal

pub returns-then-begins_with-clause-front : goal.returns-then-begins_with-clause-front
returns-then-begins_with-clause-front c =
    let s = c.args.s.now in
    c.comment_front.ensures.front ∙ line_front s c.args.rest.now c.split_at.result.0.now c.requires (sym c.begins_with.ensures ∙ c.if-begins_with.true) (c.split_at.ensures.front ∙ ap (λ n. take (1 + n) s) c.line_len.ensures.value)

pub returns-in-None-clause-front : goal.returns-in-None-clause-front
returns-in-None-clause-front c = open_front c.args.s.now c.args.rest.now c.requires (sym c.begins_with-else-begins_with.ensures ∙ c.if-begins_with-2.true) (c.in-None.ensures.value ∙ ap (first_place begins_close) c.split_at-then-begins_with-2.ensures.back)

pub returns-in-Some-clause-front : goal.returns-in-Some-clause-front
returns-in-Some-clause-front c =
    c.comment_front-in-Some.ensures.front
    ∙ block_front c.args.s.now c.args.rest.now c.split_at-in-Some.result.0.now c.in-Some.n c.requires (sym c.begins_with-else-begins_with.ensures ∙ c.if-begins_with-2.true) (c.in-Some.ensures.value ∙ ap (first_place begins_close) c.split_at-then-begins_with-2.ensures.back) (omega arith) c.split_at-in-Some.ensures.front
