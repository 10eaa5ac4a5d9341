use Rattle.std.proofs.Common.{ℕ, Bool, List, sym, ap, ◌∙◌}
use Rattle.std.specs.Prelude.{Option, Some, if◌then◌else◌}
use Rattle.std.specs.Str.{bytes_eq}
use Rattle.wat_lang.specs.Names.{is_named}
use Rattle.wat_read_names.specs.Named.{name_of, found}
use Rattle.wat_read_names.proofs.Places.{same_bytes}
use Rattle.wat_read_names.proofs.ids.put.Goals as goal

pub returns-in_ok-insert-in-Some : goal.returns-in_ok-insert-in-Some
returns-in_ok-insert-in-Some c = λ n.
    c.in_ok-insert-in-Some.ensures.updates.0 n
    ∙ ap (λ (k : List ℕ). if bytes_eq k n then Some c.args.place else found c.args.places.now n) c.of.ensures
    ∙ ap (λ (b : Bool). if b then Some c.args.place else found c.args.places.now n) (same_bytes c.in-Some.name.now n)
    ∙ ap (λ (o : Option (List ℕ)). if is_named n o then Some c.args.place else found c.args.places.now n) (sym (ap name_of c.in-Some.is))
