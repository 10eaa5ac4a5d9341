use Rattle.asm_tree.specs.Views.{module_view}
use Rattle.asm_names.proofs.Put.{all_known, none_found, none_numbered}
use Rattle.asm_names.proofs.environment.Environment.new.Goals as goal

pub returns-clause-complete : goal.returns-clause-complete
returns-clause-complete c = record {
  known = λ n. all_known (module_view c.args.home.now) n _ _ (none_found _ n c.in_ok-names.ensures.empty) (c.in_ok-put_all.ensures.known n);
  numbered = c.in_ok-put_all.ensures.numbered (λ n. none_numbered (module_view c.args.home.now) _ n c.in_ok-names.ensures.empty);
}
