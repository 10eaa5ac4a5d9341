use Rattle.std.proofs.Common.{ℕ, List, sym, ap, ◌∙◌}
use Rattle.std.specs.Map.{lookup}
use Rattle.std.specs.Str.{bytes_eq}
use Rattle.std.specs.Borrow.{Bor}
use Rattle.std.specs.Prelude.{Option}
use Rattle.wat_lang.specs.Names.{place_of_id}
use Rattle.wat_read_names.specs.Named.{names_behind}
use Rattle.wat_read_names.proofs.Counts.{none_placed}
use Rattle.wat_read_names.proofs.ids.Ids.unnamed.Goals as goal

pub invariant_of-result : goal.invariant_of-result
invariant_of-result c = λ n.
    ap (λ (es : List (List ℕ × ℕ)). lookup (bytes_eq n) es) c.with_hasher.ensures.empty
    ∙ none_placed c.args.count n
    ∙ ap (λ (ns : List (Option (Bor (List ℕ)))). place_of_id n (names_behind c.args.count ns)) (sym c.new.ensures.items)
