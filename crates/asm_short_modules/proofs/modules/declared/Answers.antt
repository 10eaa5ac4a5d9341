use Rattle.std.proofs.Common.{rules, ap, ◌∙◌, ◌≡◌}
use Rattle.std.specs.Prelude.{map}
use Rattle.asm_short_lang.specs.Sequence.{numbered, first_names}
use Rattle.asm_short_lang.specs.Renaming.{in_place, excluded_name, given_names}
use Rattle.asm_short_tree.specs.Looking.{new_names, names_in}
use Rattle.asm_short_modules.specs.LeftModules.{left_view}
use Rattle.asm_short_modules.specs.NewDeclared.{lent, lent_or_nothing}
use Rattle.asm_short_modules.proofs.Whole.{kept_exactly, declared_are}
use Rattle.asm_short_modules.proofs.modules.declared.Goals as goal

pub returns : goal.returns
returns c = record {
  known = λ n.
      let kept = c.kept_name-kept.result in
      let olds = c.in_ok-olds.olds.items in
      let numbers = c.in_ok-numbers.numbers.items in
      let news = new_names (lent_or_nothing kept) c.in_ok-news.news.items in
      let handed : news ≡ given_names (lent kept) (names_in olds) (map numbered numbers) = c.in_ok-news.ensures ∙ (λ k. given_names (lent kept) (names_in (c.as_slice.ensures.value k)) (map numbered (c.as_slice-2.ensures.value k))) in
      declared_are (left_view c.args.left.now) olds (lent kept) news numbers n _ c.kept_name-kept.ensures c.in_ok-olds.ensures
      (c.in_ok-numbers.ensures (excluded_name (lent kept)) (kept_exactly kept _ (search rules)) ∙ ap (first_names (excluded_name (lent kept))) (c.len.ensures ∙ c.in_ok-olds.olds.ok.0))
      handed
      (c.in_ok-names.ensures.given n ∙ (λ k. in_place (names_in (c.as_slice-3.ensures.value k)) (new_names (c.or_nothing.ensures k) (c.as_slice-4.ensures.value k)) n));
}
