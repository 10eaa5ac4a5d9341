-- What one token adds to the rows of uses.
use Rattle.std.proofs.Common.{◌≡◌, ◌&&◌, List, ◌∷◌, ◌++◌, length, sym, append_assoc}
use Rattle.std.specs.Prelude.{nat_le}
use Rattle.wasm_lang.specs.Limits.{most_levels}
use Rattle.wat_lang.specs.declared.parts.Space.{Space}
use Rattle.wat_lang.specs.declared.fault.Row.TheVariants as rows
use Rattle.wat_lang.specs.Grammar.{Marked}
use Rattle.wat_lang.specs.Names.{Names, labels_after}
use Rattle.wat_lang.specs.Rows.{where_holds, is_unknown_use, opens_block, use_rows}
use Rattle.wat_read_rows.specs.Single.{use_row}

abbrev Scope : Type 0
Scope = Names → Space → Names

pub uses_front : (scope : Scope) (labels : Names) (m : Marked) (ms : List Marked) → use_rows scope labels (m ∷ ms) ≡ use_row scope labels m ++ use_rows scope (labels_after labels m) ms
uses_front scope labels m ms =
    let unknown = where_holds (is_unknown_use (scope labels) m) rows.IdUnknown m.token.at in
    let deep = where_holds (opens_block m.mark && nat_le most_levels (length labels)) rows.Limit m.token.at in
    sym (append_assoc unknown deep (use_rows scope (labels_after labels m) ms))
