-- The whole code of a function.
use Rattle.std.proofs.Common.{◌≡◌, ℕ, List, [], ◌∷◌, length, map, reverse, Result, OnOk, refl, sym, ap, ◌∙◌}
use Rattle.std.proofs.lemmas.List.{length-map}
use Rattle.sem_words.specs.Lists.{list_items}
use Rattle.asm_lang.specs.Trees.{Init, number, decimal, foreign_int, foreign_double, member, math, view}
use Rattle.asm_lang.specs.Modules.{Variable}
use Rattle.asm_lang_valid.specs.Typing.{Scope}
use Rattle.asm_lang_valid.specs.Typed.{scope_of}
use Rattle.asm_tree.specs.declared.tree.Stmt.{Stmt as CodeStmt}
use Rattle.asm_tree.specs.declared.tree.Param.{Param}
use Rattle.asm_tree.specs.declared.tree.Local.{Local}
use Rattle.asm_tree.specs.declared.tree.Function.{Function}
use Rattle.asm_tree.specs.declared.tree.Module.{Module as Tree}
use Rattle.asm_tree.specs.Views.{module_view, function_view, param_view, local_view, stmts_view}
use Rattle.asm_run_code.specs.declared.op.Op.{Op}
use Rattle.asm_run_code.specs.declared.op.Op.TheVariants.{Number, Give}
use Rattle.asm_run_code.specs.Names.{first_free}
use Rattle.asm_run_code.specs.Machine as code
use Rattle.asm_run_code.specs.Bodies.{Around, stmts_code, first_word, body}
use Rattle.asm_run_code.specs.Modules.{flat}
use Rattle.asm_run_names.specs.Names.{Within, scope_said}
use Rattle.asm_run_emit_values.proofs.Codes.{told}
use Rattle.asm_run_emit_bodies.specs.Flats.{init_word, local_word, whole}

pub whole_made : {E : Type 0} (r : Result (Unit {0}) E) (b : List Op) (w : Within) (free : ℕ) (around : List Around) (ss : List CodeStmt) (o o₁ o₂ : List Op) → o ≡ [] → free ≡ first_free (scope_said w).within → o₁ ≡ Give free ∷ o → o₂ ≡ Number free 0 ∷ o₁ → around ≡ [] → ss ≡ list_items w.function.body →
    OnOk r (b ≡ stmts_code (scope_said w) around free (stmts_view ss) o₂) → OnOk r (b ≡ whole (scope_said w))
unfolding body
whole_made r b w free around ss o o₁ o₂ ho hf h₁ h₂ ha hs h =
    let c = scope_said w in
    told r b (stmts_code c around free (stmts_view ss) o₂) (whole c)
    (ap (stmts_code c around free (stmts_view ss)) (h₂ ∙ ap (λ l. Number free 0 ∷ l) (h₁ ∙ ap (λ l. Give free ∷ l) ho))
    ∙ ap (λ a. stmts_code c a free (stmts_view ss) (Number free 0 ∷ Give free ∷ [])) ha
    ∙ ap (λ (ss : List CodeStmt). stmts_code c [] free (stmts_view ss) (Number free 0 ∷ Give free ∷ [])) hs
    ∙ ap (λ k. stmts_code c [] k (stmts_view (list_items w.function.body)) (Number k 0 ∷ Give k ∷ [])) hf)
    h

-- .. under the names of the function
pub whole_named : {E : Type 0} (r : Result (Unit {0}) E) (b : List Op) (w : Within) (m : Tree) (f : Function) → w.home ≡ m → w.function ≡ f → OnOk r (b ≡ whole (scope_said w)) → OnOk r (b ≡ whole (scope_of (module_view m) (function_view f)))
whole_named r b w m f hm hf h =
    told r b (whole (scope_said w)) (whole (scope_of (module_view m) (function_view f)))
    (ap (λ (t : Tree). whole (scope_of (module_view t) (function_view w.function))) hm ∙ ap (λ (g : Function). whole (scope_of (module_view m) (function_view g))) hf)
    h

first_is : (c : Scope) (n : List ℕ) (i : Init) → init_word i ≡ first_word c (record { name = n; init = i })
first_is c n (number z) = refl
first_is c n (decimal bs) = refl
first_is c n (foreign_int f p) = refl
first_is c n (foreign_double f p) = refl
first_is c n (member f p) = refl
first_is c n (math f p) = refl
first_is c n (view f p h) = refl

firsts_are : (c : Scope) (vs : List Variable) → map local_word vs ≡ map (first_word c) vs
firsts_are c [] = refl
firsts_are c (v ∷ vs) = ap (λ k. k ∷ map local_word vs) (first_is c v.name v.init) ∙ ap (λ l. first_word c v ∷ l) (firsts_are c vs)

abbrev pub made_of : ℕ → List ℕ → List Op → code.Flat
made_of params firsts ops = record { params = params; firsts = firsts; code = ops }

-- its parts are those of the function
pub flat_made : (m : Tree) (f : Function) (ps : List Param) (ls : List Local) (params : ℕ) (firsts : List ℕ) (o ops : List Op) → ps ≡ list_items f.params → ls ≡ list_items f.locals →
    params ≡ length ps → firsts ≡ map local_word (map local_view ls) → o ≡ whole (scope_of (module_view m) (function_view f)) → ops ≡ reverse o → made_of params firsts ops ≡ flat (module_view m) (function_view f)
flat_made m f ps ls params firsts o ops hp hl h₁ h₂ ho h₃ =
    let c = scope_of (module_view m) (function_view f) in
    ap (λ k. made_of k firsts ops) (h₁ ∙ ap (λ (l : List Param). length l) hp ∙ sym (length-map (list_items f.params) param_view))
    ∙ ap (λ l. made_of (length (map param_view (list_items f.params))) l ops) (h₂ ∙ ap (λ (l : List Local). map local_word (map local_view l)) hl ∙ firsts_are c (map local_view (list_items f.locals)))
    ∙ ap (λ l. made_of (length (map param_view (list_items f.params))) (map (first_word c) (map local_view (list_items f.locals))) l) (h₃ ∙ ap reverse ho)
