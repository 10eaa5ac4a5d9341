use Rattle.std.proofs.Common.{◌≡◌, ℕ, ◌<◌, length, sym, ap, ◌∙◌, subst}
use Rattle.std.specs.Prelude.{Option, IfSome, option_and_then}
use Rattle.wat_read_labels.specs.Levels.{found, level_of}
use Rattle.wat_read_labels.proofs.Opened.{level_within, few_named}
use Rattle.wat_read_labels.proofs.labels.Labels.level.Goals as goal

pub returns-in-Some : goal.returns-in-Some
returns-in-Some c =
    let id = c.args.id.now in
    let names = c.args.self.now in
    let is : c.in-Some.level.now ≡ level_of id names =
    ap (λ (o : Option (Option ℕ)). option_and_then (λ (level : Option ℕ). level) o) (c.in-Some.ensures.value ∙ ap (found c.self.inside.known) c.of.ensures)
    ∙ c.self.invariant.levels_known id ∙ ap (level_of id) c.self.view_is in
    record {
      level = is;
      within = subst (λ (o : Option ℕ). IfSome o (λ k. k < length names)) (sym is) (level_within id names);
      few = few_named c.self.inside.levels.items names c.self.invariant c.self.view_is;
    }

pub returns-in-None : goal.returns-in-None
returns-in-None c =
    let id = c.args.id.now in
    let names = c.args.self.now in
    record {
      level =
          ap (λ (o : Option (Option ℕ)). option_and_then (λ (level : Option ℕ). level) o) (c.in-None.ensures.value ∙ ap (found c.self.inside.known) c.of.ensures)
          ∙ c.self.invariant.levels_known id ∙ ap (level_of id) c.self.view_is;
      within = tt;
      few = few_named c.self.inside.levels.items names c.self.invariant c.self.view_is;
    }
