-- The short form of an accepted module is accepted.
use Rattle.std.proofs.Common.{List, ◌++◌, sym, subst}
use Rattle.asm_lang.specs.Modules.{Function, Table, Module}
use Rattle.asm_lang_valid.specs.Typed.{module_typed}
use Rattle.asm_lang_valid.specs.NameRows.{name_rows}
use Rattle.asm_lang_valid.specs.TypeRows.{type_rows}
use Rattle.asm_lang_valid.specs.LimitRows.{limit_rows}
use Rattle.asm_lang_valid.specs.Refusal.{all_rows, IsAccepted}
use Rattle.asm_lang_valid.proofs.Agree.{iff, module_agrees, first_none, none_both}
use Rattle.asm_short_lang.specs.Reached.{IsReached, IsEntered, Keeps}
use Rattle.asm_short_lang.specs.Renaming.{renamed}
use Rattle.asm_short_lang.specs.Short.{IsShort}
use Rattle.asm_laws_short.proofs.Rows.{Says, accepted_says}
use Rattle.asm_laws_short.proofs.Outside.{rest_of}
use Rattle.asm_laws_short.proofs.Acceptable.{short_is_typed}
use Rattle.asm_laws_short.proofs.Named.{short_is_named}
use Rattle.asm_laws_short.proofs.Limits.{short_is_within}

pub left_is_accepted : (m : Module) (fs : List Function) (ts : List Table) → Says m → Keeps (IsReached m) m.functions fs → Keeps (IsEntered m) m.tables ts → IsAccepted (renamed (rest_of m fs ts))
left_is_accepted m fs ts says reached entered =
    let s = renamed (rest_of m fs ts) in
    let types = (iff (type_rows s) (module_typed s) (module_agrees s)).1 (short_is_typed m fs ts says reached entered) in
    (first_none (all_rows s)).1 ((none_both (name_rows s) (type_rows s ++ limit_rows s)).1 (short_is_named m fs ts says reached entered, (none_both (type_rows s) (limit_rows s)).1 (types, short_is_within m fs ts says reached entered)))

pub short_is_accepted : (m s : Module) → IsAccepted m → IsShort m s → IsAccepted s
short_is_accepted m s h k = subst IsAccepted (sym k.is_this) (left_is_accepted m k.functions k.tables (accepted_says m h) k.reached k.entered)
