use Rattle.std.proofs.Common.{ℕ, List, Option, Some, None, sym, ap, subst, ◌∙◌}
use Rattle.std.specs.Prelude.{if◌then◌else◌, IsSome}
use Rattle.indexmap.specs.IndexMap.{get}
use Rattle.asm_run_emit_bodies.specs.Targets.{bytes_option, is_label}
use Rattle.asm_run_emit_bodies.proofs.targets.restore.Goals as goal

pub returns-in-Some-get_mut : goal.returns-in-Some-get_mut
returns-in-Some-get_mut c =
    let there = subst (λ (k : Option (List ℕ)). IsSome (get is_label c.args.innermost.now k)) (sym c.key_of.ensures) c.requires in
    let written = (c.get_mut.follows.holds c.in-Some.at).3 there in
    λ l. written.0 l
    ∙ ap (λ (k : Option (List ℕ)). if is_label k l then Some c.in-Some.at else get is_label c.args.innermost.now l) c.key_of.ensures
    ∙ ap (λ (b : Option ℕ). if is_label (bytes_option c.args.label) l then b else get is_label c.args.innermost.now l) (sym c.in-Some.is)

pub returns-in-None : goal.returns-in-None
returns-in-None c =
    λ l. c.swap_remove.ensures.updates.0 l
    ∙ ap (λ (k : Option (List ℕ)). if is_label k l then None else get is_label c.args.innermost.now l) c.key_of-in-None.ensures
    ∙ ap (λ (b : Option ℕ). if is_label (bytes_option c.args.label) l then b else get is_label c.args.innermost.now l) (sym c.in-None.is)
