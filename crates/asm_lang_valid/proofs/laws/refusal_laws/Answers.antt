use Rattle.std.proofs.Common.{◌≡◌, [], ◌++◌, None, ◌↔◌, ap, ◌∙◌}
use Rattle.std.specs.Prelude.{IsTrue}
use Rattle.asm_lang.specs.Modules.{Module}
use Rattle.asm_lang_valid.specs.Rows.{first}
use Rattle.asm_lang_valid.specs.Typed.{module_typed}
use Rattle.asm_lang_valid.specs.NameRows.{name_rows}
use Rattle.asm_lang_valid.specs.TypeRows.{type_rows}
use Rattle.asm_lang_valid.specs.LimitRows.{limit_rows}
use Rattle.asm_lang_valid.specs.Refusal.{all_rows, refusal, IsAccepted}
use Rattle.asm_lang_valid.proofs.Agree.{iff, module_agrees, first_none, first_before, none_both}
use Rattle.asm_lang_valid.proofs.laws.refusal_laws.Goals as goal

parts : (m : Module) → (refusal m ≡ None) ↔ ((name_rows m ≡ []) × (type_rows m ≡ []) × (limit_rows m ≡ []))
parts m = (to, from)
  where
    to : refusal m ≡ None → (name_rows m ≡ []) × (type_rows m ≡ []) × (limit_rows m ≡ [])
    to h =
        let a = (none_both (name_rows m) (type_rows m ++ limit_rows m)).0 ((first_none (all_rows m)).0 h) in
        let b = (none_both (type_rows m) (limit_rows m)).0 a.1 in
        (a.0, b.0, b.1)

    from : (name_rows m ≡ []) × (type_rows m ≡ []) × (limit_rows m ≡ []) → refusal m ≡ None
    from h = (first_none (all_rows m)).1 ((none_both (name_rows m) (type_rows m ++ limit_rows m)).1 (h.0, (none_both (type_rows m) (limit_rows m)).1 (h.1, h.2)))

pub returns-clause-accepted : goal.returns-clause-accepted
returns-clause-accepted c = λ m. (to m, from m)
  where
    is : (m : Module) → (type_rows m ≡ []) ↔ IsTrue (module_typed m)
    is m = iff (type_rows m) (module_typed m) (module_agrees m)

    to : (m : Module) → IsAccepted m → (name_rows m ≡ []) × IsTrue (module_typed m) × (limit_rows m ≡ [])
    to m h = let p = (parts m).0 h in (p.0, (is m).0 p.1, p.2)

    from : (m : Module) → (name_rows m ≡ []) × IsTrue (module_typed m) × (limit_rows m ≡ []) → IsAccepted m
    from m h = (parts m).1 (h.0, (is m).1 h.1, h.2)

pub returns-clause-without_rows : goal.returns-clause-without_rows
returns-clause-without_rows c = parts

pub returns-clause-for_names : goal.returns-clause-for_names
returns-clause-for_names c = λ m x h. first_before (name_rows m) (type_rows m ++ limit_rows m) x h

pub returns-clause-for_types : goal.returns-clause-for_types
returns-clause-for_types c = λ m x e h. ap (λ l. first (l ++ (type_rows m ++ limit_rows m))) e ∙ first_before (type_rows m) (limit_rows m) x h

pub returns-clause-for_limits : goal.returns-clause-for_limits
returns-clause-for_limits c = λ m x e f h. ap (λ l. first (l ++ (type_rows m ++ limit_rows m))) e ∙ ap (λ l. first (l ++ limit_rows m)) f ∙ h
