use Rattle.std.proofs.Common.{List, ℕ, subst, sym, ap, ◌∙◌}
use Rattle.std.specs.Str.{bytes_eq}
use Rattle.indexmap.specs.IndexMap.{get_by}
use Rattle.asm_tree.specs.Views.{module_view}
use Rattle.asm_names.specs.Meanings.{meaning_view, seen}
use Rattle.asm_names.specs.Members.{IsNumbered}
use Rattle.asm_names.proofs.environment.Environment.meaning.Goals as goal

pub returns-in-Some-clause-known : goal.returns-in-Some-clause-known
returns-in-Some-clause-known c =
    ap meaning_view c.in-Some.ensures.value
    ∙ ap (seen c.args.self.now.names) c.of.ensures
    ∙ c.requires.known c.args.name.now

pub returns-in-Some-clause-numbered : goal.returns-in-Some-clause-numbered
returns-in-Some-clause-numbered c =
    let m = module_view c.args.self.now.home.now in
    subst (IsNumbered m) (sym c.in-Some.ensures.value)
    (subst (λ (n : List ℕ). IsNumbered m (get_by (bytes_eq n) c.args.self.now.names)) (sym c.of.ensures) (c.requires.numbered c.args.name.now))
