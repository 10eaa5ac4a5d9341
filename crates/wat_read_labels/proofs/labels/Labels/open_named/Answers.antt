use Rattle.std.proofs.Common.{◌≡◌, ℕ, List, length, refl, sym, ap, ◌∙◌, arith}
use Rattle.std.specs.Prelude.{Some, if◌then◌else◌}
use Rattle.std.specs.Str.{bytes_eq}
use Rattle.wat_read_labels.specs.Levels.{found, level_of}
use Rattle.wat_read_labels.proofs.Opened.{levels_count, opened_named}
use Rattle.wat_read_labels.proofs.labels.Labels.open_named.Goals as goal

pub invariant_of-self-in-Ok : goal.invariant_of-self-in-Ok
invariant_of-self-in-Ok c =
    let ls = c.self.inside.levels.items in
    let name = c.args.name.now in
    let level = c.in_ok-level.level in
    let counted : level ≡ length ls = c.in_ok-level.ensures.0 ∙ ap length (sym c.self.view_is) ∙ levels_count ls in
    opened_named ls c.push.new.self.items (record { name = Some c.args.name; hidden = c.level-hidden.result }) name level c.self.inside.known c.insert.new.self
    c.self.invariant refl (c.level-hidden.ensures.level ∙ ap (level_of name) (sym c.self.view_is)) c.in_ok-push.ensures.items counted (omega (arith, c.in_ok-level.ensures.1, counted))
    (λ id. c.in-Ok.ensures.updates.0 id ∙ ap (λ (k : List ℕ). if bytes_eq k id then Some (Some level) else found c.self.inside.known id) c.of.ensures)
