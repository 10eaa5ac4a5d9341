-- One parameter or local more, before those that a map has.
use Rattle.std.proofs.Common.{◌≡◌, ℕ, ◌+◌, ◌<◌, Bool, true, false, not, cond, List, ◌∷◌, length, map, drop, get_or, Option, Some, refl, sym, ap, ◌∙◌}
use Rattle.std.proofs.lemmas.List.{at_drop_more}
use Rattle.std.specs.Prelude.{if◌then◌else◌}
use Rattle.std.specs.Str.{bytes_eq}
use Rattle.asm_tree.specs.declared.tree.Local.{Local}
use Rattle.asm_tree.specs.declared.tree.Param.{Param}
use Rattle.sem_words.specs.Lists.{text_bytes}
use Rattle.asm_tree.specs.Views.{local_view, param_view, init_view}
use Rattle.asm_lang_valid.specs.Scope.{Meaning, an_int, an_outside, local_init, among_locals, among_params}
use Rattle.asm_names.specs.Meanings.{meaning_view}
use Rattle.asm_names.specs.Scopes.{variable_of, local_or}

pub found_put : (b v : Bool) (p x : Option Bool) (o : Meaning) → x ≡ cond b (Some v) p → local_or x o ≡ (if b then meaning_view (Some (variable_of v)) else local_or p o)
found_put true v p x o e = ap (λ x. local_or x o) e
found_put false v p x o e = ap (λ x. local_or x o) e

-- x has the value of the i-th declaration, before y, which the later ones have, before z
pub local_put : (ls : List Local) (i j : ℕ) (l : Local) (n : List ℕ) (x y z : Meaning) → j ≡ i + 1 → i < length ls → l ≡ get_or ls i l → x ≡ (if bytes_eq (text_bytes l.name) n then local_init (init_view l.init) else y) → y ≡ among_locals (map local_view (drop j ls)) n z → x ≡ among_locals (map local_view (drop i ls)) n z
local_put ls i j l n x y z p h is e k =
    e ∙ ap (λ y. if bytes_eq (text_bytes l.name) n then local_init (init_view l.init) else y) (k ∙ ap (λ j. among_locals (map local_view (drop j ls)) n z) p)
    ∙ ap (λ (w : Local). among_locals (local_view w ∷ map local_view (drop (i + 1) ls)) n z) is
    ∙ sym (at_drop_more (λ ws. among_locals (map local_view ws) n z) ls i l h)

kind : (d : Bool) → meaning_view (Some (variable_of (not d))) ≡ (if d then an_outside else an_int)
kind true = refl
kind false = refl

pub param_put : (ps : List Param) (i j : ℕ) (q : Param) (n : List ℕ) (x y z : Meaning) → j ≡ i + 1 → i < length ps → q ≡ get_or ps i q → x ≡ (if bytes_eq (text_bytes q.name) n then meaning_view (Some (variable_of (not q.double))) else y) → y ≡ among_params (map param_view (drop j ps)) n z → x ≡ among_params (map param_view (drop i ps)) n z
param_put ps i j q n x y z p h is e k =
    e ∙ ap (λ v. if bytes_eq (text_bytes q.name) n then v else y) (kind q.double)
    ∙ ap (λ y. if bytes_eq (text_bytes q.name) n then (if q.double then an_outside else an_int) else y) (k ∙ ap (λ j. among_params (map param_view (drop j ps)) n z) p)
    ∙ ap (λ (w : Param). among_params (param_view w ∷ map param_view (drop (i + 1) ps)) n z) is
    ∙ sym (at_drop_more (λ ws. among_params (map param_view ws) n z) ps i q h)
