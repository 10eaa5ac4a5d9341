use Rattle.std.proofs.Common.{ap, ◌∙◌, ◌≡◌}
use Rattle.std.specs.Prelude.{[], map}
use Rattle.asm_tree.specs.Views.{function_view}
use Rattle.asm_short_lang.specs.Sequence.{numbered}
use Rattle.asm_short_lang.specs.Renaming.{in_place, new_locals}
use Rattle.asm_short_tree.specs.Looking.{new_names}
use Rattle.asm_short_modules.proofs.locals.new_locals.Goals as goal

pub returns : goal.returns
returns c = λ m of n.
    let f = function_view c.args.function.now in
    let news : new_names [] c.as_slice-2.result.now ≡ new_locals m f = ap (new_names []) c.as_slice-2.ensures.value ∙ c.in_ok-news.ensures [] ∙ ap (map numbered) c.as_slice.ensures.value ∙ c.in_ok-numbers.ensures m of in
    c.in_ok-locals.ensures.given n ∙ (λ k. in_place (c.requires k) (news k) n)
