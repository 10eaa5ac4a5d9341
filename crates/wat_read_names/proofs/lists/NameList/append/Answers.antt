use Rattle.std.proofs.Common.{◌≡◌, ℕ, ◌+◌, List, [], ◌++◌, replicate, Option, None, sym, ap, ◌∙◌, arith, append_assoc, append-nil}
use Rattle.std.proofs.lemmas.Grind.{common_steps}
use Rattle.std.proofs.lemmas.List.{nil_from_length, replicate-append-replicate}
use Rattle.std.specs.Borrow.{Bor}
use Rattle.wat_lang.specs.Names.{Names}
use Rattle.wat_read_names.specs.Named.{names_in, names_behind}
use Rattle.wat_read_names.proofs.lists.NameList.append.Goals as goal

abbrev Given : Type 0
Given = List (Option (Bor (List ℕ)))

abbrev unnamed : ℕ → Names
unnamed n = replicate n None

-- another list behind one without ids
counted : (u v n : ℕ) (xs ys : Given) → xs ≡ [] → n ≡ u + v → names_behind n ys ≡ names_behind u xs ++ names_behind v ys
counted u v n xs ys nil sum =
    ap (λ k. unnamed k ++ names_in ys) sum
    ∙ ap (λ (ns : Names). ns ++ names_in ys) (sym (replicate-append-replicate u v None))
    ∙ append_assoc (unnamed u) (unnamed v) (names_in ys)
    ∙ ap (λ (ns : Names). ns ++ names_behind v ys) (sym (append-nil (unnamed u)))
    ∙ ap (λ zs. names_behind u zs ++ names_behind v ys) (sym nil)

pub returns-then-is_empty : goal.returns-then-is_empty
returns-then-is_empty c =
    let old = c.self.inside in
    let other = c.other.inside in
    let nil : old.names.items ≡ [] = grind (arith, common_steps, nil_from_length) in
    counted old.unnamed other.unnamed _ old.names.items other.names.items nil c.in_ok-self-inside.ensures
    ∙ ap (λ (ns : Names). ns ++ names_behind other.unnamed other.names.items) c.self.view_is ∙ ap (λ (ns : Names). c.args.self.now ++ ns) c.other.view_is
