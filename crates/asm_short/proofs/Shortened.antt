-- What is made is the short form, and no short form of an accepted module is refused.
use Rattle.std.proofs.Common.{◌≡◌, ℕ, List, ap, sym, subst, ◌∙◌}
use Rattle.std.specs.Prelude.{Option, Some, None}
use Rattle.asm_tree.specs.declared.tree.Module.{Module as Tree}
use Rattle.asm_tree.specs.Views.{module_view}
use Rattle.asm_lang.specs.Modules.{Function, Table, Module}
use Rattle.asm_lang_valid.specs.declared.rule.Met.{Met}
use Rattle.asm_lang_valid.specs.declared.rule.Rule.{Rule}
use Rattle.asm_lang_valid.specs.Refusal.{IsAccepted, refusal}
use Rattle.asm_validate_names.specs.declared.refusal.AsmRefusal.{AsmRefusal}
use Rattle.asm_validate_names.specs.declared.refusal.AsmRefusal.TheVariants.{Refused}
use Rattle.asm_validate.specs.Refusals.{IsRefused}
use Rattle.asm_short_lang.specs.Reached.{IsReached, IsEntered, Keeps}
use Rattle.asm_short_lang.specs.Renaming.{renamed}
use Rattle.asm_short_lang.specs.Short.{IsShort}

-- the second tree is the first one
pub made_short : (t u : Tree) (fs : List Function) (ts : List Table) (s : Module) → u ≡ t → Keeps (IsReached (module_view u)) (module_view u).functions fs
    → Keeps (IsEntered (module_view u)) (module_view u).tables ts → s ≡ renamed (record (module_view u) { functions = fs; tables = ts }) → IsShort (module_view t) s
made_short t u fs ts s same functions tables is =
    let of_this : IsShort (module_view u) s = record { functions = fs; tables = ts; reached = functions; entered = tables; is_this = is } in
    subst (λ (v : Tree). IsShort (module_view v) s) same of_this

refused_too : (m : Module) (r : Rule) (n : ℕ) → refusal m ≡ None → IsRefused m (Refused r n) → ⊥
refused_too m r n a i =
    let nothing : Option Met = None in
    let met : Met = record { rule = r; node = n } in
    let both : Some met ≡ nothing = sym i ∙ a in
    absurd cc

pub never_refused : (m : Module) (e : AsmRefusal) (r : Rule) (n : ℕ) → IsAccepted m → IsRefused m e → e ≡ Refused r n → ⊥
never_refused m e r n a i same = refused_too m r n a (subst (IsRefused m) same i)
